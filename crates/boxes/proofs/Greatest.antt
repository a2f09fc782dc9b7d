-- The greatest of +0 and what is read on a set of coordinates: there is only one, that of a part is not above that of the whole, and of two sets
-- together it is the greater of the two. A box is such a set; that `box_maximum` is such a number is `greatest` of Maximum. Assumes nothing.
use Rattle.std.specs.Prelude.{◌≡◌, refl, ◌⊎◌, Bool, true, false, cond, T, Float}
use Rattle.std.proofs.Common.{sym, ap, ◌∙◌, inl, inr, ⊎_elim}
use Rattle.std.specs.Float.{Format}
use Rattle.std.specs.Float.Ieee.{lt, fits, to_bits}
use Rattle.float.specs.Zero.{+0}
use Rattle.float.proofs.Ordered.{not_lt_through}
use Rattle.float.proofs.Plain.{Plain, up_plain, plain_number, not_below_zero, alike, same_bits}
use Rattle.layout.specs.Coordinates.{Coord}
use Rattle.boxes.specs.Boxes.{Box, In, Greatest, GreatestOver, greater}
use Rattle.boxes.proofs.Maximum.{greater_l, greater_r}

module _ (read : Coord → Float) where
  plain : (S : Coord → Type 0) {r : Float} → GreatestOver read S r → Plain r
  plain S {r} m = up_plain r (⊎_elim (λ e. inl e) (λ w. inr w.3) m.reached)

  -- that of a part is not above that of the whole
  pub over_within : (S W : Coord → Type 0) {r s : Float} → ((c : Coord) → S c → W c) → GreatestOver read W r → GreatestOver read S s → lt r s ≡ false
  over_within S W {r} {s} part m n =
      ⊎_elim (λ e. ap (lt r) e ∙ not_below_zero (plain W m)) (λ w. ap (lt r) (sym w.2) ∙ m.covers w.0 (part w.0 w.1)) n.reached

  -- there is one, where both fit a format
  pub over_one : (f : Format) (S : Coord → Type 0) {r s : Float} → T (fits f r) → T (fits f s) → GreatestOver read S r → GreatestOver read S s → r ≡ s
  over_one f S p q m n = alike f (plain S m) (plain S n) p q (over_within S S (λ c i. i) m n) (over_within S S (λ c i. i) n m)

  -- and its bits are one in any case
  pub over_bits : (f : Format) (S : Coord → Type 0) {r s : Float} → GreatestOver read S r → GreatestOver read S s → to_bits f r ≡ to_bits f s
  over_bits f S m n = same_bits f (plain S m) (plain S n) (over_within S S (λ c i. i) m n) (over_within S S (λ c i. i) n m)

  -- two sets S and U that make up a third, W
  module _ (S U W : Coord → Type 0) (left : (c : Coord) → S c → W c) (right : (c : Coord) → U c → W c) (split : (c : Coord) → W c → S c ⊎ U c) where
    pub over_two : {r s : Float} → GreatestOver read S r → GreatestOver read U s → GreatestOver read W (greater r s)
    over_two {r} {s} m n = record { covers = cover; reached = reach (lt r s) refl }
      where
        cover : (c : Coord) → W c → lt (greater r s) (read c) ≡ false
        cover c i =
            ⊎_elim (λ j. not_lt_through (greater r s) r (read c) (plain_number (plain S m)) (greater_l r s) (m.covers c j))
            (λ j. not_lt_through (greater r s) s (read c) (plain_number (plain U n)) (greater_r r s) (n.covers c j)) (split c i)

        reach : (t : Bool) → lt r s ≡ t → (cond t s r ≡ +0) ⊎ ((c : Coord) × W c × (read c ≡ cond t s r) × (lt +0 (cond t s r) ≡ true))
        reach true e = ⊎_elim (λ z. inl z) (λ w. inr (w.0, right w.0 w.1, w.2, w.3)) n.reached
        reach false e = ⊎_elim (λ z. inl z) (λ w. inr (w.0, left w.0 w.1, w.2, w.3)) m.reached

-- the greatest of a box within another is not above the other's
pub greatest_within : (read : Coord → Float) (b d : Box) {r s : Float} → ((c : Coord) → In d c → In b c) → Greatest read b r → Greatest read d s
    → lt r s ≡ false
greatest_within read b d = over_within read (In d) (In b)

pub greatest_one : (read : Coord → Float) (f : Format) (b : Box) {r s : Float} → T (fits f r) → T (fits f s) → Greatest read b r → Greatest read b s → r ≡ s
greatest_one read f b = over_one read f (In b)
