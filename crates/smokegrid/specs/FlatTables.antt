-- Tables of cells as C hands them over: three numbers, the six words of a window, and what a layer, an opening and a push make of them.
use Rattle.std.specs.Prelude.{ℕ, cond, ◌&&◌, List, [], ◌∷◌, eqb, length, get_or, replicate, Float}
use Rattle.medium.specs.Record.{cells_of}
use Rattle.refusals.specs.Results.{Result}
use Rattle.refusals.specs.Faults.{◌then◌, unless, passing}
use Rattle.float.specs.Zero.{+0}
use Rattle.sheet.specs.Sheet.{sheet}
use Rattle.window.specs.Window.{Table, State, table_of, state_of, push_fault, push, open_fault, opened}
use Rattle.window.specs.declared.Window.{Window}

-- 18 for cells of another length, and then the layer
unfoldable pub print_flat : List Float → List ℕ → ℕ → ℕ → Result (List ℕ)
unfolding sheet
print_flat table numbers k room = passing (unless (eqb (length numbers) 3) 18) (sheet (cells_of numbers) k table room)

-- ---- a window

-- w, the three numbers, the tables held, the place that the next one takes
abbrev pub words_of : Window → List ℕ
words_of v = v.w ∷ v.x ∷ v.y ∷ v.z ∷ v.held ∷ v.next ∷ []

abbrev pub window_from : List ℕ → Window
window_from l = record { w = get_or l 0 0; x = get_or l 1 0; y = get_or l 2 0; z = get_or l 3 0; held = get_or l 4 0; next = get_or l 5 0 }

-- a state in three arrays
pub record WindowArrays : Type 0 where
  pub window : List ℕ
  pub memory : List Float
  pub answer : List Float

abbrev pub window_arrays : List ℕ → List Float → List Float → WindowArrays
window_arrays window memory answer = record { window = window; memory = memory; answer = answer }

abbrev pub arrays_of : State → WindowArrays
arrays_of s = window_arrays (words_of s.window) s.memory s.answer

abbrev pub state_from : WindowArrays → State
state_from a = state_of (window_from a.window) a.memory a.answer

abbrev pub table_from : List ℕ → List Float → Table
table_from numbers figures = table_of (cells_of numbers) figures

-- 18 for cells or a window of another length
abbrev pub size_fault : List ℕ → ℕ → ℕ
size_fault numbers window = unless (eqb (length numbers) 3 && eqb window 6) 18

-- an opening, with `window`, `memory` and `answer` places in the arrays
unfoldable pub open_flat : ℕ → List ℕ → ℕ → ℕ → ℕ → ℕ
unfolding open_fault
open_flat w numbers window memory answer = size_fault numbers window then open_fault w (cells_of numbers) memory answer

-- zeros after a refusal
unfoldable pub opened_flat : ℕ → List ℕ → ℕ → ℕ → ℕ → WindowArrays
unfolding open_flat opened
opened_flat w numbers window memory answer =
    cond (eqb (open_flat w numbers window memory answer) 0) (arrays_of (opened w (cells_of numbers) memory answer))
    (window_arrays (replicate window 0) (replicate memory +0) (replicate answer +0))

-- a push
unfoldable pub push_flat : WindowArrays → List ℕ → List Float → ℕ
unfolding push
push_flat a numbers figures = size_fault numbers (length a.window) then push_fault (state_from a) (table_from numbers figures)

-- the arrays as they were after a refusal
unfoldable pub pushed_flat : WindowArrays → List ℕ → List Float → WindowArrays
unfolding push_flat
pushed_flat a numbers figures = cond (eqb (push_flat a numbers figures) 0) (arrays_of (push (state_from a) (table_from numbers figures))) a
