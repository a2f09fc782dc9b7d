-- How many cells the world box is cut into on each axis, what numbers pass (23), and how long their table is (18).
use Rattle.std.specs.Prelude.{ℕ, ◌*◌, Bool, ◌&&◌, cond, eqb, leb}
use Rattle.refusals.specs.Faults.{◌then◌, unless}

pub record Cells : Type 0 where
  pub x : ℕ
  pub y : ℕ
  pub z : ℕ

abbrev pub cells : ℕ → ℕ → ℕ → Cells
cells x y z = record { x = x; y = y; z = z }

-- a number that passes: 1 to 128
abbrev pub some_cells : ℕ → Bool
some_cells k = leb 1 k && leb k 128

-- 23 where one of the three does not
unfoldable pub cells_fault : Cells → ℕ
cells_fault n = unless (some_cells n.x && some_cells n.y && some_cells n.z) 23

-- a figure for each cell
abbrev pub cell_count : Cells → ℕ
cell_count n = n.x * n.y * n.z

-- 23, then 18 for a table of another length
unfoldable pub table_fault : Cells → ℕ → ℕ
table_fault n places = cells_fault n then unless (eqb places (cell_count n)) 18

-- the length of the table: none where the numbers do not pass
unfoldable pub table_length : Cells → ℕ
table_length n = cond (eqb (cells_fault n) 0) (cell_count n) 0
