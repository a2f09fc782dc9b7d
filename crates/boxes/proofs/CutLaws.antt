-- The greater of the maxima of the two parts of a cut box has the bits of the whole's maximum; and a box inside another never has the greater
-- maximum. Both of whatever is read, a NaN too. Assumes nothing.
use Rattle.std.specs.Prelude.{zero, suc, ◌≡◌, refl, ◌⊎◌, Bool, true, false, T, ℤ, pos, negsuc, ◌+ℤ◌, ◌≤ℤ◌, ◌<ℤ◌, Float}
use Rattle.std.proofs.Common.{arith, sym, subst, inl, inr, ⊎_elim, le→leb, leb-false}
use Rattle.std.proofs.Math.IntN.{suc_ℤ, +ℤ_one}
use Rattle.std.specs.Int.Signed.{le_z, le_z_yes, ≤ℤ_refl, clash_ℤ}
use Rattle.std.specs.Float.{Format}
use Rattle.std.specs.Float.Ieee.{lt, to_bits}
use Rattle.float.proofs.Tests.{yes}
use Rattle.layout.specs.Coordinates.{Coord}
use Rattle.medium.specs.Medium.{Axis, x_axis, y_axis, z_axis, on_coord}
use Rattle.boxes.specs.Boxes.{Box, In, Greatest, greater, box_maximum}
use Rattle.boxes.specs.Cuts.{with, up_to, past, Cuts, InsideOf, EndsWithin, Empty}
use Rattle.boxes.proofs.Offsets.{above, le_z_through}
use Rattle.boxes.proofs.Maximum.{greatest}
use Rattle.boxes.proofs.Greatest.{over_two, over_bits, greatest_within}

-- ---- whole numbers

through : {a b c : ℤ} → a ≤ℤ b → b ≤ℤ c → a ≤ℤ c
through {a} {b} {c} h k = le_z_yes (le_z_through a b c h.le k.le)

-- a number that is not at most k is at least the next
later : (z k : ℤ) → le_z z k ≡ false → T (le_z (suc_ℤ k) z)
later (pos a) (pos b) e = le→leb (suc b) a (omega (arith, leb-false a b e))
later (pos a) (negsuc zero) e = le→leb 0 a (omega arith)
later (pos a) (negsuc (suc b)) e = tt
later (negsuc a) (pos b) e = absurd (subst T e tt)
later (negsuc a) (negsuc zero) e = absurd (omega (arith, leb-false 0 a e))
later (negsuc a) (negsuc (suc b)) e = le→leb a b (omega (arith, leb-false (suc b) a e))

side : (z k : ℤ) → (z ≤ℤ k) ⊎ ((k +ℤ pos 1) ≤ℤ z)
side z k = go (le_z z k) refl
  where
    go : (b : Bool) → le_z z k ≡ b → (z ≤ℤ k) ⊎ ((k +ℤ pos 1) ≤ℤ z)
    go true e = inl (le_z_yes (yes e))
    go false e = inr (le_z_yes (subst (λ (j : ℤ). T (le_z j z)) (sym (+ℤ_one k)) (later z k e)))

below : {k h : ℤ} → k <ℤ h → k ≤ℤ h
below {k} {h} p = ⊎_elim (λ l. clash_ℤ p l) (λ l. through (le_z_yes (above k 1)) l) (side h k)

-- ---- a coordinate in a box, axis by axis

in_low : {b : Box} {c : Coord} → In b c → (a : Axis) → on_coord a b.lo ≤ℤ on_coord a c
in_low i x_axis = i.x_low
in_low i y_axis = i.y_low
in_low i z_axis = i.z_low

in_high : {b : Box} {c : Coord} → In b c → (a : Axis) → on_coord a c ≤ℤ on_coord a b.hi
in_high i x_axis = i.x_high
in_high i y_axis = i.y_high
in_high i z_axis = i.z_high

in_all : (b : Box) (c : Coord) → ((a : Axis) → on_coord a b.lo ≤ℤ on_coord a c) → ((a : Axis) → on_coord a c ≤ℤ on_coord a b.hi) → In b c
in_all b c l h = record { x_low = l x_axis; x_high = h x_axis; y_low = l y_axis; y_high = h y_axis; z_low = l z_axis; z_high = h z_axis }

-- ---- boxes inside boxes

pub ends_inside : {d b : Box} → EndsWithin d b → InsideOf d b
ends_inside {d} {b} w c i = in_all b c (λ a. through (w.low a) (in_low i a)) (λ a. through (in_high i a) (w.high a))

-- an empty box is inside every box
pub empty_inside : {d : Box} (b : Box) → Empty d → InsideOf d b
empty_inside b e c i = clash_ℤ e.turned (through (in_low i e.axis) (in_high i e.axis))

-- the box inside never has the greater maximum
pub inside_maximum : (read : Coord → Float) (d b : Box) → InsideOf d b → lt (box_maximum read b) (box_maximum read d) ≡ false
inside_maximum read d b h = greatest_within read b d h (greatest read b) (greatest read d)

-- ---- the two parts of a cut box

-- a number of a corner that another was put into on one axis
with_at : (a e : Axis) (k : ℤ) (c : Coord) (P : ℤ → Type 0) → (a ≡ e → P k) → P (on_coord e c) → P (on_coord e (with a k c))
with_at x_axis x_axis k c P f g = f refl
with_at x_axis y_axis k c P f g = g
with_at x_axis z_axis k c P f g = g
with_at y_axis x_axis k c P f g = g
with_at y_axis y_axis k c P f g = f refl
with_at y_axis z_axis k c P f g = g
with_at z_axis x_axis k c P f g = g
with_at z_axis y_axis k c P f g = g
with_at z_axis z_axis k c P f g = f refl

module _ (a : Axis) (k : ℤ) (b : Box) where
  module _ (p : Cuts a k b) where
    low_part : EndsWithin (up_to a k b) b
    low_part =
        let h : k ≤ℤ on_coord a b.hi = below p.high in
        record {
          low = λ e. ≤ℤ_refl (on_coord e b.lo);
          high = λ e. with_at a e k b.hi (λ z. z ≤ℤ on_coord e b.hi)
              (λ q. subst (λ (x : Axis). k ≤ℤ on_coord x b.hi) q h) (≤ℤ_refl (on_coord e b.hi));
        }

    high_part : EndsWithin (past a k b) b
    high_part =
        let h : on_coord a b.lo ≤ℤ (k +ℤ pos 1) = through p.low (le_z_yes (above k 1)) in
        record {
          low = λ e. with_at a e (k +ℤ pos 1) b.lo (λ z. on_coord e b.lo ≤ℤ z)
              (λ q. subst (λ (x : Axis). on_coord x b.lo ≤ℤ (k +ℤ pos 1)) q h) (≤ℤ_refl (on_coord e b.lo));
          high = λ e. ≤ℤ_refl (on_coord e b.hi);
        }

  in_up_to : (c : Coord) → In b c → on_coord a c ≤ℤ k → In (up_to a k b) c
  in_up_to c i h =
      in_all (up_to a k b) c (in_low i)
      (λ e. with_at a e k b.hi (λ z. on_coord e c ≤ℤ z) (λ q. subst (λ (x : Axis). on_coord x c ≤ℤ k) q h) (in_high i e))

  in_past : (c : Coord) → In b c → (k +ℤ pos 1) ≤ℤ on_coord a c → In (past a k b) c
  in_past c i h =
      in_all (past a k b) c
      (λ e. with_at a e (k +ℤ pos 1) b.lo (λ z. z ≤ℤ on_coord e c) (λ q. subst (λ (x : Axis). (k +ℤ pos 1) ≤ℤ on_coord x c) q h) (in_low i e))
      (in_high i)

  -- every coordinate of the box lies in one of them
  in_part : (c : Coord) → In b c → In (up_to a k b) c ⊎ In (past a k b) c
  in_part c i = ⊎_elim (λ l. inl (in_up_to c i l)) (λ l. inr (in_past c i l)) (side (on_coord a c) k)

  -- ---- the cut

  module _ (read : Coord → Float) (p : Cuts a k b) where
    pub cut_greatest : Greatest read b (greater (box_maximum read (up_to a k b)) (box_maximum read (past a k b)))
    cut_greatest =
        over_two read (In (up_to a k b)) (In (past a k b)) (In b) (ends_inside (low_part p)) (ends_inside (high_part p)) in_part
        (greatest read (up_to a k b)) (greatest read (past a k b))

    -- the bits of any format
    pub cut_bits : (f : Format) → to_bits f (greater (box_maximum read (up_to a k b)) (box_maximum read (past a k b))) ≡ to_bits f (box_maximum read b)
    cut_bits f = over_bits read f (In b) cut_greatest (greatest read b)
