-- The cells that the world box is cut into: their corners, and the ends of a cell's two boxes of voxels on each axis.
use Rattle.std.specs.Prelude.{ℕ, ◌+◌, ◌*◌, ◌%◌, ◌/◌, ◌≡◌, true, cond, ◌⊎◌, ℤ, pos, Float}
use Rattle.std.proofs.Math.IntN.{suc_ℤ}
use Rattle.std.specs.Int.Signed.{le_z}
use Rattle.std.specs.Float.{binary32, binary64}
use Rattle.std.specs.Float.Ieee.{add, sub, mul, div, le, of_int}
use Rattle.refusals.specs.Results.{Result, ok, bind}
use Rattle.float.specs.Fused.{trunc, floor}
use Rattle.float.specs.Coordinate.{coordinate}
use Rattle.float.specs.Integer.{floor_z}
use Rattle.layout.specs.Coordinates.{Coord}
pub use Rattle.cells.specs.Cells.{Cells}
use Rattle.medium.specs.Medium.{Point, Medium, Axis, x_axis, y_axis, z_axis, on_point, on_coord}
use Rattle.index.specs.Index.{world_to_index, majorant_index}

-- the corner k of n on one axis: (1 - t) * low + t * high with t = k / n, each step rounded
unfoldable pub corner : Medium → Axis → ℕ → ℕ → Float
corner m a n k =
    let t = div binary32 (of_int binary32 (pos k)) (of_int binary32 (pos n)) in
    add binary32 (mul binary32 (sub binary32 (of_int binary32 (pos 1)) t) (on_point a m.low)) (mul binary32 t (on_point a m.high))

-- where cell k stands on an axis: k = x + X * (y + Y * z)
abbrev pub cell_axis : Cells → ℕ → Axis → ℕ
cell_axis n k x_axis = k % n.x
cell_axis n k y_axis = k / n.x % n.y
cell_axis n k z_axis = k / (n.x * n.y)

-- the cell that stands there on the three axes
abbrev pub cell_of : Cells → ℕ → ℕ → ℕ → ℕ
cell_of n x y z = (z * n.y + y) * n.x + x

abbrev pub cells_on : Cells → Axis → ℕ
cells_on n x_axis = n.x
cells_on n y_axis = n.y
cells_on n z_axis = n.z

-- the corner of cell k with + 0 or + 1
abbrev pub cell_corner : Medium → Cells → ℕ → ℕ → Point
cell_corner m n k o =
    record {
      x = corner m x_axis n.x (cell_axis n k x_axis + o);
      y = corner m y_axis n.y (cell_axis n k y_axis + o);
      z = corner m z_axis n.z (cell_axis n k z_axis + o);
    }

abbrev pub max_z : ℤ → ℤ → ℤ
max_z a b = cond (le_z a b) b a

abbrev pub min_z : ℤ → ℤ → ℤ
min_z a b = cond (le_z a b) a b

-- the ends of a box on one axis
pub record Ends : Type 0 where
  pub lo : ℤ
  pub hi : ℤ

abbrev pub one : Float
one = of_int binary64 (pos 1)

-- the first box on one axis: less and plus 1 in f64, truncated, clipped to the index box
unfoldable pub first_ends : Medium → Cells → ℕ → Axis → Result Ends
first_ends m n k a =
    bind (coordinate (trunc binary64 (sub binary64 (majorant_index m (cell_corner m n k 0) a) one))) (λ (l : ℤ).
    bind (coordinate (trunc binary64 (add binary64 (majorant_index m (cell_corner m n k 1) a) one))) (λ (h : ℤ).
    ok (record { lo = max_z l (on_coord a m.index_low); hi = min_z h (on_coord a m.index_high) })))

-- the second: floor, and floor + 1
unfoldable pub second_ends : Medium → Cells → ℕ → Axis → Result Ends
second_ends m n k a =
    bind (coordinate (floor binary64 (world_to_index m (cell_corner m n k 0) a))) (λ (l : ℤ).
    bind (coordinate (add binary64 (floor binary64 (world_to_index m (cell_corner m n k 1) a)) one)) (λ (h : ℤ).
    ok (record { lo = l; hi = h })))

-- ---- where a point lies

-- low ≤ p ≤ high on each axis, as numbers
abbrev pub Between : Point → Point → Point → Type 0
Between l h p = (a : Axis) → (le (on_point a l) (on_point a p) ≡ true) × (le (on_point a p) (on_point a h) ≡ true)

-- cell k of n encloses the point. A cell whose corners rounding swapped encloses nothing.
abbrev pub EnclosesIn : Medium → Cells → ℕ → Point → Type 0
EnclosesIn m n k p = Between (cell_corner m n k 0) (cell_corner m n k 1) p

-- one of the eight voxels around a point: floor or floor + 1 of world_to_index_f on each axis
abbrev pub AroundIn : Medium → Point → Coord → Type 0
AroundIn m p c = (a : Axis) → (on_coord a c ≡ floor_z (world_to_index m p a)) ⊎ (on_coord a c ≡ suc_ℤ (floor_z (world_to_index m p a)))
