-- Laws of `Joined`: a maximum that is carried through sets of places and never falls below zero. Assumes nothing.
use Rattle.std.specs.Prelude.{ℕ, ◌≡◌, refl, Bool, true, false, not, cond, T, Float}
use Rattle.std.proofs.Common.{sym, ap, ◌∙◌}
use Rattle.std.specs.Float.Ieee.{lt, is_nan}
use Rattle.float.specs.Zero.{+0}
use Rattle.float.proofs.Plain.{plain_number, up_plain, not_below_zero}
use Rattle.float.proofs.Ordered.{not_lt_through, lt_through, lt_turned, lt_le, number_l}
use Rattle.boxes.specs.Boxes.{greater}
use Rattle.boxes.specs.Most.{Most, Joined}
use Rattle.boxes.proofs.MostLaws.{most_up, most_none, most_flat, beside_zero}

-- ---- the greater of two

-- it is not below zero where the first is not
pub greater_not_below : (m v : Float) → lt m +0 ≡ false → lt (greater m v) +0 ≡ false
greater_not_below m v h = go (lt m v) refl
  where
    go : (b : Bool) → lt m v ≡ b → lt (cond b v m) +0 ≡ false
    go true e = not_lt_through v m +0 (number_l m v (lt_le m v e)) (lt_turned m v e) h
    go false e = h

-- one after the other is the greater of the first and of both
pub greater_assoc : (m p q : Float) → T (not (is_nan p)) → greater (greater m p) q ≡ greater m (greater p q)
greater_assoc m p q n = go (lt m p) (lt p q) refl refl
  where
    go : (b d : Bool) → lt m p ≡ b → lt p q ≡ d → greater (cond b p m) q ≡ greater m (cond d q p)
    go true true h k = ap (λ (b : Bool). cond b q p) k ∙ sym (ap (λ (b : Bool). cond b q m) (lt_through m p q h k))
    go true false h k = ap (λ (b : Bool). cond b q p) k ∙ sym (ap (λ (b : Bool). cond b p m) h)
    go false true h k = refl
    go false false h k = ap (λ (b : Bool). cond b q m) (not_lt_through m p q n h k) ∙ sym (ap (λ (b : Bool). cond b p m) h)

-- ---- a `Most`, and what joins one

module _ {f : ℕ → ℕ → ℕ → Float} {S : ℕ → ℕ → ℕ → Type 0} where
  pub most_not_below : {r : Float} → Most f S r → lt r +0 ≡ false
  most_not_below {r} m = not_below_zero (up_plain r (most_up m))

  pub joined_not_below : {m r : Float} → lt m +0 ≡ false → Joined m f S r → lt r +0 ≡ false
  joined_not_below {m} h j = ap (λ (r : Float). lt r +0) j.is ∙ greater_not_below m j.part h

  -- no place
  pub joined_none : {m : Float} → lt m +0 ≡ false → ((x y z : ℕ) → S x y z → ⊥) → Joined m f S m
  joined_none {m} h n = record { part = +0; most = most_none n; is = sym (ap (λ (b : Bool). cond b +0 m) h) }

  -- f is v on the whole set, which has a place
  pub joined_flat : {m r : Float} → lt m +0 ≡ false → (v : Float) → ((x y z : ℕ) → S x y z → f x y z ≡ v) → (x y z : ℕ) → S x y z
      → r ≡ greater m v → Joined m f S r
  joined_flat {m} h v e x y z s i = record { part = greater +0 v; most = most_flat v e x y z s; is = i ∙ beside_zero m v h }

  -- two sets whose join is U, by U's law for `Most`
  pub joined_more : {T U : ℕ → ℕ → ℕ → Type 0} {m r t : Float} → ((p q : Float) → Most f S p → Most f T q → Most f U (greater p q))
      → Joined m f S r → Joined r f T t → Joined m f U t
  joined_more {m = m} law j k = record {
    part = greater j.part k.part;
    most = law j.part k.part j.most k.most;
    is =
        k.is ∙ ap (λ (r : Float). greater r k.part) j.is
        ∙ greater_assoc m j.part k.part (plain_number (up_plain j.part (most_up j.most)));
  }

  -- a law of `Most` from one set and f to others
  pub joined_as : {g : ℕ → ℕ → ℕ → Float} {T : ℕ → ℕ → ℕ → Type 0} {m r : Float} → ((p : Float) → Most f S p → Most g T p)
      → Joined m f S r → Joined m g T r
  joined_as law j = record { part = j.part; most = law j.part j.most; is = j.is }
