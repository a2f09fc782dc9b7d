-- What the law of runs says (proofs/Runs): a run of pushes, each handed what the one before left, which of its tables are accepted, and the
-- answer over these alone: no ring.
use Rattle.std.specs.Prelude.{length, Float, eqb}
use Rattle.std.proofs.Math.Bool.{cond}
use mathlib.Core.List.{List, [], ◌∷◌}
use Prim.Native.Nat.{ℕ}
use Rattle.refusals.specs.Faults.{◌then◌, unless}
use Rattle.cells.specs.Cells.{Cells, cells_fault, cell_count}
use Rattle.figures.specs.Figures.{figures_fault}
use Rattle.window.specs.Tables.{answer_of, last_of}
use Rattle.window.specs.Window.{Table, State, push, same_cells}

-- what a run of pushes leaves
unfoldable pub run : State → List Table → State
unfolding push
run s [] = s
run s (t ∷ ts) = run (push s t) ts

-- the fault of a table before a window over the cells n, whatever it holds
unfoldable pub own_fault : Cells → Table → ℕ
unfolding cells_fault figures_fault
own_fault n t =
    cells_fault t.cells
    then unless (same_cells t.cells n) 26
    then unless (eqb (length t.figures) (cell_count t.cells)) 18
    then figures_fault t.figures

-- the figures of the tables that have none, in their order
unfoldable pub accepted : Cells → List Table → List (List Float)
unfolding own_fault
accepted n [] = []
accepted n (t ∷ ts) = cond (eqb (own_fault n t) 0) (t.figures ∷ accepted n ts) (accepted n ts)

-- the answer after a run, over the accepted tables alone
abbrev pub last_answer : ℕ → Cells → List Table → List Float
last_answer w n ts = answer_of (cell_count n) (last_of w (accepted n ts))
