-- A window over tables in a ring of places, and what a push does to it.
use Rattle.std.specs.Prelude.{ℕ, zero, suc, ◌+◌, ◌-◌, ◌*◌, Bool, cond, ◌&&◌, List, [], ◌∷◌, ◌++◌, eqb, leb, ltb, length, take, drop, replicate, Float}
use Rattle.std.proofs.Math.Seq.{paste}
use Rattle.refusals.specs.Faults.{◌then◌, unless}
use Rattle.float.specs.Zero.{+0}
use Rattle.cells.specs.Cells.{Cells, cells, cells_fault, cell_count}
use Rattle.figures.specs.Figures.{figures_fault}
use Rattle.window.specs.Tables.{raised_by, answer_of}
use Rattle.window.specs.declared.Window.{Window}

-- what a push is handed: the numbers of the table's cells, and its figures
pub record Table : Type 0 where
  pub cells : Cells
  pub figures : List Float

-- what a push is handed and leaves: the window, the memory of w tables, and the answer
pub record State : Type 0 where
  pub window : Window
  pub memory : List Float
  pub answer : List Float

abbrev pub table_of : Cells → List Float → Table
table_of n l = record { cells = n; figures = l }

abbrev pub window_of : ℕ → Cells → ℕ → ℕ → Window
window_of w n held next = record { w = w; x = n.x; y = n.y; z = n.z; held = held; next = next }

abbrev pub state_of : Window → List Float → List Float → State
state_of v memory answer = record { window = v; memory = memory; answer = answer }

-- the numbers of the window's cells
abbrev pub cells_of : Window → Cells
cells_of v = cells v.x v.y v.z

-- ---- the ring of w places

-- the place before p and the one after it, going round
abbrev pub before : ℕ → ℕ → ℕ
before w p = cond (eqb p 0) (w - 1) (p - 1)

abbrev pub after : ℕ → ℕ → ℕ
after w p = cond (eqb (p + 1) w) 0 (p + 1)

-- the table of n figures in place p
abbrev pub table_at : ℕ → List Float → ℕ → List Float
table_at n memory p = take n (drop (p * n) memory)

-- the memory with the table t of n figures in place p
abbrev pub stored : ℕ → List Float → ℕ → List Float → List Float
stored n memory p t = paste memory (p * n) t n

-- the tables in the k places before p, going round; the oldest first
unfoldable pub ring : ℕ → ℕ → List Float → ℕ → ℕ → List (List Float)
ring n w memory zero p = []
ring n w memory (suc k) p = ring n w memory k (before w p) ++ (table_at n memory (before w p) ∷ [])

-- ---- the faults of a push, in their order: 23, 26, 18, 12, 15

abbrev pub width_in : ℕ → Bool
width_in w = leb 1 w && leb w 16

abbrev pub same_cells : Cells → Cells → Bool
same_cells m n = eqb m.x n.x && (eqb m.y n.y && eqb m.z n.z)

-- w is a width, and the cells are the window's
abbrev pub fits_window : Window → Cells → Bool
fits_window v n = width_in v.w && same_cells n (cells_of v)

-- n figures, a memory of w such tables, an answer as long, at most w tables held, and a next place among the w
abbrev pub fits_lengths : Window → ℕ → ℕ → ℕ → ℕ → Bool
fits_lengths v n table memory answer =
    eqb table n && (eqb memory (v.w * n) && (eqb answer n && (leb v.held v.w && ltb v.next v.w)))

-- of the lengths of memory and answer
unfoldable pub fault_of : Window → ℕ → ℕ → Table → ℕ
unfolding cells_fault figures_fault
fault_of v memory answer t =
    cells_fault t.cells
    then unless (fits_window v t.cells) 26
    then unless (fits_lengths v (cell_count t.cells) (length t.figures) memory answer) 18
    then figures_fault t.figures

abbrev pub push_fault : State → Table → ℕ
push_fault s t = fault_of s.window (length s.memory) (length s.answer) t

-- ---- a push

-- one table more, w at most
abbrev pub grown : ℕ → ℕ → ℕ
grown w held = cond (ltb held w) (held + 1) held

-- one table more is held, and the next place is the one after
abbrev pub advanced : Window → Window
advanced v = window_of v.w (cells_of v) (grown v.w v.held) (after v.w v.next)

-- the answer of the tables that a window holds
abbrev pub answer_in : Window → List Float → List Float
answer_in v memory = answer_of (cell_count (cells_of v)) (ring (cell_count (cells_of v)) v.w memory v.held v.next)

-- the table goes to the next place
abbrev pub pushed : State → Table → State
pushed s t =
    let v = s.window in
    let memory = stored (cell_count (cells_of v)) s.memory v.next t.figures in
    state_of (advanced v) memory (answer_in (advanced v) memory)

-- a refused push changes nothing
unfoldable pub push : State → Table → State
unfolding fault_of raised_by ring
push s t = cond (eqb (push_fault s t) 0) (pushed s t) s

-- ---- an opening: 23, 26, 18

-- of the lengths of memory and answer
unfoldable pub open_fault : ℕ → Cells → ℕ → ℕ → ℕ
unfolding cells_fault
open_fault w n memory answer =
    cells_fault n
    then unless (width_in w) 26
    then unless (eqb memory (w * cell_count n) && eqb answer (cell_count n)) 18

-- the window of a refused opening
abbrev pub shut : Window
shut = window_of 0 (cells 0 0 0) 0 0

-- a window that holds nothing; memory and answer are zero, and after a refusal so is the window
unfoldable pub opened : ℕ → Cells → ℕ → ℕ → State
unfolding open_fault
opened w n memory answer = state_of (cond (eqb (open_fault w n memory answer) 0) (window_of w n 0 0) shut) (replicate memory +0) (replicate answer +0)
