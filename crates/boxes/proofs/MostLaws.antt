-- Laws of `Most`: no place, two sets joined, a set on which f is the same, one set or one f for another; and of boxes that are cut across an axis.
use Rattle.std.specs.Prelude.{ℕ, ◌+◌, ◌≤◌, ◌<◌, ◌≡◌, refl, ◌⊎◌, Bool, true, false, cond, ltb, Float}
use Rattle.std.proofs.Common.{le_refl, arith, sym, ap, ◌∙◌, subst, inl, inr, ⊎_elim, ltb-true, ltb-false}
use Rattle.std.specs.Float.Ieee.{lt, of_bits}
use Rattle.std.specs.Float.{binary32}
use Rattle.float.specs.Zero.{+0}
use Rattle.float.proofs.Literal.{zero_literal}
use Rattle.float.proofs.Plain.{plain_number, Up, Plain, up_plain, not_below_zero}
use Rattle.float.proofs.Ordered.{not_lt_through, lt_turned, same_not_lt}
use Rattle.boxes.specs.Boxes.{greater}
use Rattle.boxes.specs.Most.{Most, Inside}

side : {A B : Type 0} (a k : ℕ) → (a < k → A) → (k ≤ a → B) → A ⊎ B
side {A} {B} a k p q = go (ltb a k) refl
  where
    go : (b : Bool) → ltb a k ≡ b → A ⊎ B
    go true e = inl (p (ltb-true a k e))
    go false e = inr (q (ltb-false a k e))

module _ {f : ℕ → ℕ → ℕ → Float} where
  pub most_up : {S : ℕ → ℕ → ℕ → Type 0} {r : Float} → Most f S r → Up r
  most_up m = ⊎_elim (λ e. inl e) (λ w. inr w.5) m.reached

  pub most_none : {S : ℕ → ℕ → ℕ → Type 0} → ((x y z : ℕ) → S x y z → ⊥) → Most f S +0
  most_none n = record { covers = λ x y z s. absurd (n x y z s); reached = inl refl }

  -- the same set, said otherwise
  pub most_set : {S T : ℕ → ℕ → ℕ → Type 0} {r : Float} → ((x y z : ℕ) → S x y z → T x y z) → ((x y z : ℕ) → T x y z → S x y z)
      → Most f S r → Most f T r
  most_set i o m = record {
    covers = λ x y z t. m.covers x y z (o x y z t);
    reached = ⊎_elim (λ e. inl e) (λ w. inr (w.0, w.1, w.2, i w.0 w.1 w.2 w.3, w.4, w.5)) m.reached;
  }

  -- two sets whose join is U
  pub most_join : {S T U : ℕ → ℕ → ℕ → Type 0} {r s : Float} → ((x y z : ℕ) → S x y z → U x y z) → ((x y z : ℕ) → T x y z → U x y z)
      → ((x y z : ℕ) → U x y z → S x y z ⊎ T x y z) → Most f S r → Most f T s → Most f U (greater r s)
  most_join {S} {T} {U} {r} {s} i j o m n = go (lt r s) refl
    where
      left : lt r s ≡ false → (x y z : ℕ) → S x y z ⊎ T x y z → lt r (f x y z) ≡ false
      left e x y z w = ⊎_elim (λ a. m.covers x y z a) (λ b. not_lt_through r s (f x y z) (plain_number (up_plain s (most_up n))) e (n.covers x y z b)) w

      right : lt r s ≡ true → (x y z : ℕ) → S x y z ⊎ T x y z → lt s (f x y z) ≡ false
      right e x y z w =
          ⊎_elim (λ a. not_lt_through s r (f x y z) (plain_number (up_plain r (most_up m))) (lt_turned r s e) (m.covers x y z a))
          (λ b. n.covers x y z b) w

      go : (b : Bool) → lt r s ≡ b → Most f U (cond b s r)
      go true e = record {
        covers = λ x y z u. right e x y z (o x y z u);
        reached = ⊎_elim (λ e. inl e) (λ w. inr (w.0, w.1, w.2, j w.0 w.1 w.2 w.3, w.4, w.5)) n.reached;
      }
      go false e = record {
        covers = λ x y z u. left e x y z (o x y z u);
        reached = ⊎_elim (λ e. inl e) (λ w. inr (w.0, w.1, w.2, i w.0 w.1 w.2 w.3, w.4, w.5)) m.reached;
      }

  -- f is v on the whole set, which has a place
  pub most_flat : {S : ℕ → ℕ → ℕ → Type 0} (v : Float) → ((x y z : ℕ) → S x y z → f x y z ≡ v) → (x y z : ℕ) → S x y z
      → Most f S (greater +0 v)
  most_flat {S} v e x y z s = go (lt +0 v) refl
    where
      go : (b : Bool) → lt +0 v ≡ b → Most f S (cond b v +0)
      go true h = record {
        covers = λ x y z s. ap (lt v) (e x y z s) ∙ same_not_lt v;
        reached = inr (x, y, z, s, e x y z s, h);
      }
      go false h = record { covers = λ x y z s. ap (lt +0) (e x y z s) ∙ h; reached = inl refl }

-- a value that stands beside +0 adds no more than by itself: a tile joins without a test for zero
pub beside_zero : (m v : Float) → lt m +0 ≡ false → greater m v ≡ greater m (greater +0 v)
beside_zero m v h = go (lt +0 v) refl
  where
    go : (b : Bool) → lt +0 v ≡ b → greater m v ≡ greater m (cond b v +0)
    go true e = refl
    go false e =
        ap (λ (b : Bool). cond b v m) (not_lt_through m +0 v (plain_number (up_plain +0 (inl refl))) h e)
        ∙ sym (ap (λ (b : Bool). cond b +0 m) h)

pub zero_beside : {r : Float} → Plain r → (v : Float) → greater r (greater +0 v) ≡ greater r v
zero_beside {r} p v = sym (beside_zero r v (not_below_zero p))

-- another f that gives the same on the set
pub most_as : {f g : ℕ → ℕ → ℕ → Float} {S : ℕ → ℕ → ℕ → Type 0} {r : Float} → ((x y z : ℕ) → S x y z → f x y z ≡ g x y z)
    → Most f S r → Most g S r
most_as e m = record {
  covers = λ x y z s. ap (lt _) (sym (e x y z s)) ∙ m.covers x y z s;
  reached = ⊎_elim (λ e. inl e) (λ w. inr (w.0, w.1, w.2, w.3, sym (e w.0 w.1 w.2 w.3) ∙ w.4, w.5)) m.reached;
}

-- where there is no place, the code's 0.0
pub none : {f : ℕ → ℕ → ℕ → Float} {S : ℕ → ℕ → ℕ → Type 0} → ((x y z : ℕ) → S x y z → ⊥) → Most f S (of_bits binary32 0)
none {f} {S} n = subst (λ (r : Float). Most f S r) (sym (zero_literal binary32)) (most_none n)

-- ---- boxes

-- the low corner of a box with a place in it
pub low_corner : {x0 x1 y0 y1 z0 z1 : ℕ} → x0 < x1 → y0 < y1 → z0 < z1 → Inside x0 x1 y0 y1 z0 z1 x0 y0 z0
low_corner a b c = record { x_low = le_refl _; x_high = a; y_low = le_refl _; y_high = b; z_low = le_refl _; z_high = c }

module _ {f : ℕ → ℕ → ℕ → Float} {x0 x1 y0 y1 z0 z1 : ℕ} where
  -- a box cut in two across an axis, at k
  pub join_x : {k : ℕ} {r s t : Float} → x0 ≤ k → k ≤ x1 → Most f (Inside x0 k y0 y1 z0 z1) r → Most f (Inside k x1 y0 y1 z0 z1) s
      → t ≡ greater r s → Most f (Inside x0 x1 y0 y1 z0 z1) t
  join_x {k} h l m n e =
      subst (λ (v : Float). Most f (Inside x0 x1 y0 y1 z0 z1) v) (sym e)
      (most_join (λ x y z s. omega arith) (λ x y z s. omega arith) (λ x y z s. side x k (λ h. omega arith) (λ h. omega arith)) m n)

  pub join_y : {k : ℕ} {r s t : Float} → y0 ≤ k → k ≤ y1 → Most f (Inside x0 x1 y0 k z0 z1) r → Most f (Inside x0 x1 k y1 z0 z1) s
      → t ≡ greater r s → Most f (Inside x0 x1 y0 y1 z0 z1) t
  join_y {k} h l m n e =
      subst (λ (v : Float). Most f (Inside x0 x1 y0 y1 z0 z1) v) (sym e)
      (most_join (λ x y z s. omega arith) (λ x y z s. omega arith) (λ x y z s. side y k (λ h. omega arith) (λ h. omega arith)) m n)

  pub join_z : {k : ℕ} {r s t : Float} → z0 ≤ k → k ≤ z1 → Most f (Inside x0 x1 y0 y1 z0 k) r → Most f (Inside x0 x1 y0 y1 k z1) s
      → t ≡ greater r s → Most f (Inside x0 x1 y0 y1 z0 z1) t
  join_z {k} h l m n e =
      subst (λ (v : Float). Most f (Inside x0 x1 y0 y1 z0 z1) v) (sym e)
      (most_join (λ x y z s. omega arith) (λ x y z s. omega arith) (λ x y z s. side z k (λ h. omega arith) (λ h. omega arith)) m n)

  -- a loop ends where its place is no more below the end
  pub till_x : {k : ℕ} {r : Float} → k ≤ x1 → x1 ≤ k → Most f (Inside x0 k y0 y1 z0 z1) r → Most f (Inside x0 x1 y0 y1 z0 z1) r
  till_x {k} h l = most_set (λ x y z s. omega arith) (λ x y z s. omega arith)

  pub till_y : {k : ℕ} {r : Float} → k ≤ y1 → y1 ≤ k → Most f (Inside x0 x1 y0 k z0 z1) r → Most f (Inside x0 x1 y0 y1 z0 z1) r
  till_y {k} h l = most_set (λ x y z s. omega arith) (λ x y z s. omega arith)

  pub till_z : {k : ℕ} {r : Float} → k ≤ z1 → z1 ≤ k → Most f (Inside x0 x1 y0 y1 z0 k) r → Most f (Inside x0 x1 y0 y1 z0 z1) r
  till_z {k} h l = most_set (λ x y z s. omega arith) (λ x y z s. omega arith)

  -- a box with a place in it, on which f is v
  pub flat : x0 < x1 → y0 < y1 → z0 < z1 → (v : Float) → ((x y z : ℕ) → Inside x0 x1 y0 y1 z0 z1 x y z → f x y z ≡ v)
      → Most f (Inside x0 x1 y0 y1 z0 z1) (greater +0 v)
  flat a b c v e = most_flat v e x0 y0 z0 (low_corner a b c)

-- one place more along a row
pub step_z : {f : ℕ → ℕ → ℕ → Float} (x y z0 z : ℕ) {r t : Float} → z0 ≤ z → Most f (Inside x (x + 1) y (y + 1) z0 z) r → t ≡ greater r (f x y z)
    → Most f (Inside x (x + 1) y (y + 1) z0 (z + 1)) t
step_z {f} x y z0 z {r} h m e =
    join_z h (omega arith) m
    (flat (omega arith) (omega arith) (omega arith) (f x y z)
    (λ a b c s. let i : a ≡ x = omega arith in let j : b ≡ y = omega arith in let k : c ≡ z = omega arith in cc))
    (e ∙ sym (zero_beside (up_plain r (most_up m)) (f x y z)))
