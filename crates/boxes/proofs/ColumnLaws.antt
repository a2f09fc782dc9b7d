-- Laws of `Columns`: no place, one row, two parts cut across an axis; and the columns of a box joined along z. Assumes nothing.
use Rattle.std.specs.Prelude.{ℕ, ◌+◌, ◌%◌, ◌≤◌, ◌<◌, ◌≡◌, refl, false, List, length, get_or, replicate, Float}
use Rattle.std.proofs.Common.{arith, sym, ap, ◌∙◌, subst}
use Rattle.std.proofs.lemmas.List.{get_or-replicate}
use Rattle.std.specs.Float.Ieee.{lt, of_bits}
use Rattle.std.specs.Float.{binary32}
use Rattle.float.specs.Zero.{+0}
use Rattle.float.proofs.Literal.{zero_literal}
use Rattle.float.proofs.Ordered.{same_not_lt}
use Rattle.boxes.specs.Boxes.{greater}
use Rattle.boxes.specs.Most.{Joined, Inside}
use Rattle.boxes.specs.Columns.{maximum_at, Eight, Columns}
use Rattle.boxes.proofs.MostLaws.{join_x, join_y, join_z, beside_zero, low_corner}
use Rattle.boxes.proofs.JoinedLaws.{joined_none, joined_flat, joined_more, joined_not_below}

-- eight zeros, as the code writes them
abbrev pub zeros : List Float
zeros = replicate 8 (of_bits binary32 0)

zero_at : (z : ℕ) → maximum_at zeros z ≡ +0
zero_at z = get_or-replicate 8 (z % 8) (of_bits binary32 0) +0 (omega arith) ∙ zero_literal binary32

pub zeros_eight : Eight zeros
zeros_eight = record { eight = refl; not_below = λ z. ap (λ (v : Float). lt v +0) (zero_at z) ∙ same_not_lt +0 }

module _ {f : ℕ → ℕ → ℕ → Float} {m : List Float} (e : Eight m) where
  -- no x or no y
  pub none_x : {a y0 y1 : ℕ} → Columns f a a y0 y1 m m
  none_x = record { as_many = refl; joined = λ z. joined_none (e.not_below z) (λ x y z s. omega arith) }

  pub none_y : {x0 x1 a : ℕ} → Columns f x0 x1 a a m m
  none_y = record { as_many = refl; joined = λ z. joined_none (e.not_below z) (λ x y z s. omega arith) }

  -- one row
  pub row : {r : List Float} (x y : ℕ) → length r ≡ 8 → ((z : ℕ) → maximum_at r z ≡ greater (maximum_at m z) (f x y z))
      → Columns f x (x + 1) y (y + 1) m r
  row x y l q = record {
    as_many = l ∙ sym e.eight;
    joined = λ z. joined_flat (e.not_below z) (f x y z)
        (λ a b c s. let i : a ≡ x = omega arith in let j : b ≡ y = omega arith in let k : c ≡ z = omega arith in cc)
        x y z (low_corner (omega arith) (omega arith) (omega arith)) (q z);
  }

  -- there are eight still
  pub still_eight : {r : List Float} {x0 x1 y0 y1 : ℕ} → Columns f x0 x1 y0 y1 m r → Eight r
  still_eight c = record { eight = c.as_many ∙ e.eight; not_below = λ z. joined_not_below (e.not_below z) (c.joined z) }

-- a loop ends where its place is the end
module _ {f : ℕ → ℕ → ℕ → Float} {m r : List Float} {x0 x1 y0 y1 k : ℕ} where
  pub till_x : Columns f x0 k y0 y1 m r → k ≡ x1 → Columns f x0 x1 y0 y1 m r
  till_x c e = subst (λ (n : ℕ). Columns f x0 n y0 y1 m r) e c

  pub till_y : Columns f x0 x1 y0 k m r → k ≡ y1 → Columns f x0 x1 y0 y1 m r
  till_y c e = subst (λ (n : ℕ). Columns f x0 x1 y0 n m r) e c

-- two parts, cut at k
module _ {f : ℕ → ℕ → ℕ → Float} {m r t : List Float} {x0 x1 y0 y1 k : ℕ} where
  pub more_x : x0 ≤ k → k ≤ x1 → Columns f x0 k y0 y1 m r → Columns f k x1 y0 y1 r t → Columns f x0 x1 y0 y1 m t
  more_x h l c d = record {
    as_many = d.as_many ∙ c.as_many;
    joined = λ z. joined_more (λ p q a b. join_x h l a b refl) (c.joined z) (d.joined z);
  }

  pub more_y : y0 ≤ k → k ≤ y1 → Columns f x0 x1 y0 k m r → Columns f x0 x1 k y1 r t → Columns f x0 x1 y0 y1 m t
  more_y h l c d = record {
    as_many = d.as_many ∙ c.as_many;
    joined = λ z. joined_more (λ p q a b. join_y h l a b refl) (c.joined z) (d.joined z);
  }

-- the columns of a box, joined one by one from z0 on, beginning with a maximum b
module _ {f : ℕ → ℕ → ℕ → Float} {x0 x1 y0 y1 : ℕ} {maxima : List Float} (c : Columns f x0 x1 y0 y1 zeros maxima) where
  pub more_z : {b r t : Float} {z0 z : ℕ} → lt b +0 ≡ false → z0 ≤ z → Joined b f (Inside x0 x1 y0 y1 z0 z) r
      → t ≡ greater r (maximum_at maxima z) → Joined b f (Inside x0 x1 y0 y1 z0 (z + 1)) t
  more_z {r = r} {z = z} h l j e =
      joined_more (λ p q a b. join_z l (omega arith) a b refl) j (record {
        part = (c.joined z).part;
        most = (c.joined z).most;
        is =
            e ∙ ap (greater r) ((c.joined z).is ∙ ap (λ (v : Float). greater v (c.joined z).part) (zero_at z))
            ∙ sym (beside_zero r (c.joined z).part (joined_not_below h j));
      })
