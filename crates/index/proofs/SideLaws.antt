-- A point that a cell with two coordinates on an axis encloses has a finite index position there, and voxels on either side. Assumes nothing.
use Rattle.std.specs.Prelude.{◌≡◌, ℕ, ℤ, T, Float}
use Rattle.std.proofs.Common.{◌∙◌}
use Rattle.std.proofs.Math.IntN.{suc_ℤ}
use Rattle.std.specs.Float.{binary64}
use Rattle.std.specs.Float.Ieee.{add}
use Rattle.std.specs.Float.Ieee.Scale.{finite}
use Rattle.refusals.specs.Results.{Result, ok, bind}
use Rattle.refusals.specs.ResultLaws.{bind_ok}
use Rattle.float.specs.Fused.{floor}
use Rattle.float.specs.Coordinate.{coordinate}
use Rattle.float.specs.Integer.{floor_z}
use Rattle.float.proofs.Floors.{low_end, high_end}
use Rattle.float.proofs.Taken.{floor_ok, next_ok}
use Rattle.medium.specs.Medium.{Point, Medium, Axis}
use Rattle.index.specs.Cells.{Cells, cell_corner, Ends, one, second_ends, EnclosesIn}
use Rattle.index.specs.Index.{world_to_index}
use Rattle.index.specs.Axes.{second_low, second_high}
use Rattle.index.proofs.Middle.{Scaled, index_mid}
use Rattle.index.specs.Sides.{sides_of}

abbrev top : Float → Result ℤ
top v = coordinate (add binary64 (floor binary64 v) one)

abbrev pub floors : Float → Ends
floors w = record { lo = floor_z w; hi = suc_ℤ (floor_z w) }

pub sides_taken : (m : Medium) (n : Cells) (k : ℕ) (a : Axis) (r : Ends) → Scaled m → second_ends m n k a ≡ ok r → (p : Point) → EnclosesIn m n k p
    → T (finite (world_to_index m p a)) × (sides_of (world_to_index m p a) ≡ ok (floors (world_to_index m p a)))
unfolding second_ends sides_of second_low second_high
sides_taken m n k a r S e p i =
    let lo = world_to_index m (cell_corner m n k 0) a in
    let hi = world_to_index m (cell_corner m n k 1) a in
    let w = world_to_index m p a in
    let (l, x, y) = bind_ok (coordinate (floor binary64 lo)) (λ (l : ℤ). bind (top hi) (λ (h : ℤ). ok (made l h))) e in
    let (h, s, t) = bind_ok (top hi) (λ (h : ℤ). ok (made l h)) y in
    let d = index_mid m S (cell_corner m n k 0) (cell_corner m n k 1) p i a (low_end lo l x).0 (high_end hi h s).0 in (
      d.real,
      (λ j. bind (floor_ok lo w hi d l h x s j) (λ (l : ℤ). bind (top w) (λ (h : ℤ). ok (made l h))))
          ∙ (λ j. bind (next_ok lo w hi d l h x s j) (λ (h : ℤ). ok (made (floor_z w) h))),
    )
  where
    made : ℤ → ℤ → Ends
    made l h = record { lo = l; hi = h }
