-- The cell that a point is found in: on each axis the first whose corners enclose it.
use Rattle.std.specs.Prelude.{ℕ, zero, suc, ◌+◌, ◌*◌, Bool, cond, ◌&&◌, ltb, Float}
use Rattle.std.specs.Float.Ieee.{le}
use Rattle.medium.specs.Medium.{Point, Medium, Axis, x_axis, y_axis, z_axis, on_point}
use Rattle.index.specs.Cells.{Cells, cell_of, cells_on}
use Rattle.index.specs.Axes.{corner_on}

-- corners k and k + 1 of n enclose v
abbrev pub holds_on : Float → Float → ℕ → ℕ → Float → Bool
holds_on low high n k v = le (corner_on low high n k) v && le v (corner_on low high n (k + 1))

-- the first of c cells from k on that holds v, and the one past them where none does
unfoldable pub cell_from : Float → Float → ℕ → Float → ℕ → ℕ → ℕ
cell_from low high n v zero k = k
cell_from low high n v (suc c) k = let rest = cell_from low high n v c (k + 1) in cond (holds_on low high n k v) k rest

abbrev pub axis_cell : Float → Float → ℕ → Float → ℕ
axis_cell low high n v = cell_from low high n v n 0

-- where a point lies on an axis of n cells
abbrev pub cell_on : Medium → Cells → Point → Axis → ℕ
cell_on m n p a = axis_cell (on_point a m.low) (on_point a m.high) (cells_on n a) (on_point a p)

-- the number of a cell that encloses the point, and the one past the last where none does
unfoldable pub cell_at : Medium → Cells → Point → ℕ
unfolding cell_from
cell_at m n p =
    let x = cell_on m n p x_axis in
    let y = cell_on m n p y_axis in
    let z = cell_on m n p z_axis in
    cond (ltb x n.x && ltb y n.y && ltb z n.z) (cell_of n x y z) (n.x * n.y * n.z)
