-- Coordinates by class through C: each count is that of the voxels of the bytes. Assumes nothing.
use Rattle.std.specs.Prelude.{ℕ, zero, suc, ◌+◌, ◌-◌, ◌^◌, ◌≤◌, ◌<◌, ◌≡◌, refl, List, ◌∷◌, eqb, ℤ, pos, negsuc, replicate, Float}
use Rattle.std.proofs.Common.{arith, sym, ◌∙◌, subst}
use Rattle.std.proofs.Math.Path.{ap}
use Rattle.std.specs.Int.Signed.{mag}
use Rattle.refusals.specs.Results.{ok, number_of, value_or}
use Rattle.refusals.specs.Faults.{◌then◌, passing}
use Rattle.refusals.proofs.FaultSteps.{then_next}
use Rattle.layout.specs.Coordinates.{Coord, Signed32}
use Rattle.sparse_grid.specs.Tables.{Grid}
use Rattle.sparse_grid.specs.Validate.{validate}
use Rattle.sparse_grid.specs.Lookup.{read_in}
use Rattle.sparse_grid.specs.Count.{bit, split_lt}
use Rattle.sparse_grid.specs.Biased.{back, place}
use Rattle.sparse_grid.specs.BiasedLaws.{back_low, back_high}
use Rattle.boxes.specs.Boxes.{Box}
use Rattle.walk.specs.Walk.{biased, zone_of}
use Rattle.walk.specs.Classes.{class, class_count, limits_fault, sides_fault, listed, public_counts}
use Rattle.walk.specs.Gather.{tally_same}
use Rattle.walk.proofs.Placed.{box_tally}
use Rattle.smokegrid.specs.FlatClasses.{classes_flat}
use Rattle.smokegrid.specs.Promises.{CountsClasses}

-- ---- a place of a box with 32-bit corners is a coordinate of 32 bits

biased_top : (z : ℤ) → mag z < 2147483648 → biased z < 4294967296
biased_top (pos n) h = omega arith
biased_top (negsuc n) h = omega arith

back_small : (n : ℕ) → n < 4294967296 → mag (back 2147483648 n) < 2147483648
back_small n h =
    split_lt n 2147483648
    (λ l. subst (λ (z : ℤ). mag z < 2147483648) (sym (back_low 2147483648 n l)) (omega arith))
    (λ l. subst (λ (z : ℤ). mag z < 2147483648) (sym (back_high 2147483648 n l)) (omega arith))

-- ---- counts of what is read alike are alike
listed_same : (n i : ℕ) (f g : ℕ → ℕ) → ((k : ℕ) → f k ≡ g k) → listed n i f ≡ listed n i g
unfolding listed
listed_same zero i f g h = refl
listed_same (suc n) i f g h = λ t. h i t ∷ listed_same n (i + 1) f g h t

module _ (g : Grid) (read : Coord → Float) (same : (c : Coord) → Signed32 c → read_in g c ≡ read c) (valid : validate g ≡ 0)
    (ls : List Float) (x : Box) (lo : Signed32 x.lo) (hi : Signed32 x.hi) where
  same_count : (k : ℕ) → class_count (read_in g) ls x k ≡ class_count read ls x k
  same_count k =
      box_tally x lo hi (λ c. bit (eqb (class ls (read_in g c)) k))
      ∙ tally_same (λ a b c. bit (eqb (class ls (read (place a b c))) k)) (λ a b c. bit (eqb (class ls (read_in g (place a b c))) k)) (zone_of x)
      (λ a b c s. ap (λ (v : Float). bit (eqb (class ls v) k)) (same (place a b c) (record {
        x = back_small a (omega (arith, s.x_high, biased_top x.hi.x hi.x));
        y = back_small b (omega (arith, s.y_high, biased_top x.hi.y hi.y));
        z = back_small c (omega (arith, s.z_high, biased_top x.hi.z hi.z));
      })))
      ∙ sym (box_tally x lo hi (λ c. bit (eqb (class ls (read c)) k)))

  -- limits and sides that pass: no refusal, and the counts of what is read
  pub classed : limits_fault ls ≡ 0 → sides_fault x ≡ 0 → (number : ℕ) (counts : List ℕ) → CountsClasses g ls x 17 number counts
      → (number ≡ 0) × (counts ≡ listed 17 0 (class_count read ls x))
  unfolding classes_flat public_counts
  classed l s number counts c =
      let f = class_count (read_in g) ls x in
      let none : (validate g then limits_fault ls then sides_fault x) ≡ 0 =
      then_next (validate g) (limits_fault ls then sides_fault x) valid ∙ then_next (limits_fault ls) (sides_fault x) l ∙ s in
      let a : classes_flat g ls x 17 ≡ ok (listed 17 0 f) = ap (λ (n : ℕ). passing n (ok (listed 17 0 f))) none in
      (c.number_is ∙ ap number_of a, c.counts_are ∙ ap (value_or (replicate 17 0)) a ∙ listed_same 17 0 f (class_count read ls x) same_count)
