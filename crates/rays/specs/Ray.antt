-- A ray on its way through the table of cells, and its next piece (majorant_iterator.rs, DDAMajorantIterator::next).
use Rattle.std.specs.Prelude.{ℕ, Bool, true, false, cond, ◌&&◌, List, length, ℤ, pos, negsuc, ◌+ℤ◌, ◌==◌, nat_lt, slice_index_or, unsigned_abs, Float}
use Rattle.std.specs.Float.{binary32}
use Rattle.std.specs.Float.Ieee.{add, lt, le}
use Rattle.refusals.specs.Results.{Result, ok, need}
use Rattle.refusals.specs.Faults.{passing}
use Rattle.float.specs.Zero.{+0}
use Rattle.layout.specs.Coordinates.{eq_z}
use Rattle.cells.specs.Cells.{Cells, cells, table_fault}
use Rattle.medium.specs.Medium.{Axis, x_axis, y_axis, z_axis}
use Rattle.index.specs.Cells.{cell_of}

-- One axis of a ray: the t at which it leaves its cell there, the t from one crossing to the next, the way that it goes, 1 or -1, the cell, and the number
-- of cells.
pub record Track : Type 0 where
  pub next : Float
  pub delta : Float
  pub step : ℤ
  pub cell : ℤ
  pub cells : ℕ

-- the ray between two pieces: from t_min on, up to t_max
pub record State : Type 0 where
  pub t_min : Float
  pub t_max : Float
  pub x : Track
  pub y : Track
  pub z : Track

abbrev pub on_state : State → Axis → Track
on_state s x_axis = s.x
on_state s y_axis = s.y
on_state s z_axis = s.z

abbrev pub cells_in : State → Cells
cells_in s = cells s.x.cells s.y.cells s.z.cells

-- ---- the checks

-- the cell is one of n
abbrev pub inside : ℤ → ℕ → Bool
inside (pos c) n = nat_lt c n
inside (negsuc c) n = false

-- 1 or -1
abbrev pub is_step : ℤ → Bool
is_step (pos n) = n == 1
is_step (negsuc n) = n == 0

abbrev pub sound : Track → Bool
sound t = inside t.cell t.cells && is_step t.step

-- ---- a step

-- The axis of the first crossing, by the source's table of eight cases: 2, 1, 2, 1, 2, 2, 0, 0. The tests are x < y, x < z and y < z; no test holds of a NaN.
abbrev pub axis_by : Bool → Bool → Bool → Axis
axis_by false false false = z_axis
axis_by false false true = y_axis
axis_by false true false = z_axis
axis_by false true true = y_axis
axis_by true false false = z_axis
axis_by true false true = z_axis
axis_by true true false = x_axis
axis_by true true true = x_axis

abbrev pub axis_of : Float → Float → Float → Axis
axis_of x y z = axis_by (lt x y) (lt x z) (lt y z)

abbrev pub axis_in : State → Axis
axis_in s = axis_of s.x.next s.y.next s.z.next

-- a piece ends at the crossing c if that is below t_max, and otherwise at t_max
abbrev pub exit_at : Float → Float → Float
exit_at t_max c = cond (lt c t_max) c t_max

-- the first cell past the table
abbrev pub limit : ℤ → ℕ → ℤ
limit (pos k) n = pos n
limit (negsuc k) n = negsuc 0

-- a step leads past the table
abbrev pub leaves : Track → Bool
leaves t = eq_z (t.cell +ℤ t.step) (limit t.step t.cells)

-- where the ray goes on after a step along t: at the piece's end, or at t_max if the crossing lies above it or the table ends
abbrev pub goes_on : Float → Track → Float
goes_on t_max t = cond (leaves t) t_max (cond (lt t_max t.next) t_max (exit_at t_max t.next))

abbrev pub advanced : Track → Track
advanced t = record {
  next = add binary32 t.next t.delta;
  delta = t.delta;
  step = t.step;
  cell = t.cell +ℤ t.step;
  cells = t.cells;
}

abbrev pub step_on : State → Axis → State
step_on s x_axis = record { t_min = goes_on s.t_max s.x; t_max = s.t_max; x = advanced s.x; y = s.y; z = s.z }
step_on s y_axis = record { t_min = goes_on s.t_max s.y; t_max = s.t_max; x = s.x; y = advanced s.y; z = s.z }
step_on s z_axis = record { t_min = goes_on s.t_max s.z; t_max = s.t_max; x = s.x; y = s.y; z = advanced s.z }

-- ---- the next piece

-- a part of the ray, and the figure of the cell that it lies in
pub record Piece : Type 0 where
  pub from : Float
  pub to : Float
  pub figure : Float

pub data Step : Type 0 where
  piece : Piece → State → Step
  over : Step

-- the place of the state's cell in the table
abbrev pub place_of : State → ℕ
place_of s = cell_of (cells_in s) (unsigned_abs s.x.cell) (unsigned_abs s.y.cell) (unsigned_abs s.z.cell)

abbrev pub piece_of : State → List Float → Piece
piece_of s table = record { from = s.t_min; to = exit_at s.t_max (on_state s (axis_in s)).next; figure = slice_index_or table (place_of s) +0 }

abbrev pub sound_state : State → Bool
sound_state s = sound s.x && sound s.y && sound s.z

-- The next piece and the state behind it, or the end of the ray. 23 and 18 for the table; then, short of the end, 18 for a cell outside or another step.
unfoldable pub next : State → List Float → Result Step
next s table =
    passing (table_fault (cells_in s) (length table))
    (cond (le s.t_max s.t_min) (ok over)
    (need (sound_state s) 18
    (ok (piece (piece_of s table) (step_on s (axis_in s))))))
