-- A run of pushes, worked out. Each is computed.
use Rattle.std.specs.Prelude.{◌≡◌, refl, true, false, List, [], ◌∷◌, pos, negsuc, Float}
use Rattle.std.specs.Float.{nan, fin}
use Rattle.std.specs.Float.Ieee.{lt}
use Rattle.float.specs.Zero.{+0}
use Rattle.cells.specs.Cells.{cells}
use Rattle.window.specs.Tables.{raised_by}
use Rattle.window.specs.Window.{Table, window_of, state_of, table_of, fault_of, push, open_fault, opened}
use Rattle.window.specs.Runs.{run, accepted, last_answer}

abbrev half : Float
half = fin false 1 (negsuc 0)

abbrev one : Float
one = fin false 1 (pos 0)

abbrev two : Float
two = fin false 1 (pos 1)

-- tables of 2 × 1 × 1 cells
abbrev pair : Float → Float → Table
pair a b = table_of (cells 2 1 1) (a ∷ b ∷ [])

-- the second push is refused, and of the three that are accepted a window of two keeps the last two
pushes : List Table
pushes = pair two +0 ∷ pair nan one ∷ pair half one ∷ pair (fin true 0 (pos 0)) half ∷ []

run_example : run (opened 2 (cells 2 1 1) 4 2) pushes ≡ state_of (window_of 2 (cells 2 1 1) 2 1) (fin true 0 (pos 0) ∷ half ∷ half ∷ one ∷ []) (half ∷ one ∷ [])
unfolding run opened pushes lt
run_example = refl

law_example : last_answer 2 (cells 2 1 1) pushes ≡ half ∷ one ∷ []
unfolding accepted raised_by pushes lt
law_example = refl

-- fewer tables than places: the zero of the answer is +0
few_example : (run (opened 3 (cells 2 1 1) 6 2) (pair one (fin true 0 (pos 0)) ∷ [])).answer ≡ one ∷ +0 ∷ []
unfolding run opened lt
few_example = refl

-- none
none_example : (run (opened 3 (cells 2 1 1) 6 2) []).answer ≡ +0 ∷ +0 ∷ []
unfolding run opened
none_example = refl

-- a state that no opening and pushes left: the one table held before place 0 is, going round, that of place 2
made_up : push (state_of (window_of 3 (cells 1 1 1) 1 0) (two ∷ two ∷ one ∷ []) (two ∷ [])) (table_of (cells 1 1 1) (half ∷ []))
    ≡ state_of (window_of 3 (cells 1 1 1) 2 1) (half ∷ two ∷ one ∷ []) (one ∷ [])
unfolding push lt
made_up = refl

-- a refused push changes nothing, whatever stands there
refused_push : push (state_of (window_of 1 (cells 1 1 1) 0 0) (nan ∷ []) (two ∷ [])) (table_of (cells 1 1 1) (nan ∷ []))
    ≡ state_of (window_of 1 (cells 1 1 1) 0 0) (nan ∷ []) (two ∷ [])
unfolding push lt
refused_push = refl

-- ---- faults, in their order

-- 23 of the table's numbers, before 26
number_first : fault_of (window_of 0 (cells 1 1 1) 0 0) 0 0 (table_of (cells 0 1 1) []) ≡ 23
unfolding fault_of
number_first = refl

-- 26 for other cells, before the table's length is looked at
cells_first : fault_of (window_of 1 (cells 1 1 1) 0 0) 1 1 (table_of (cells 2 1 1) []) ≡ 26
unfolding fault_of
cells_first = refl

-- 18 for a place past the last, before the figures are
place_past : fault_of (window_of 1 (cells 1 1 1) 0 1) 1 1 (table_of (cells 1 1 1) (nan ∷ [])) ≡ 18
unfolding fault_of
place_past = refl

-- 12 over the whole table before 15
not_finite_first : fault_of (window_of 1 (cells 2 1 1) 0 0) 2 2 (pair (fin true 1 (pos 0)) nan) ≡ 12
unfolding fault_of lt
not_finite_first = refl

minus_zero_passes : fault_of (window_of 1 (cells 2 1 1) 0 0) 2 2 (pair (fin true 0 (pos 0)) one) ≡ 0
unfolding fault_of lt
minus_zero_passes = refl

-- w = 17
wide : open_fault 17 (cells 1 1 1) 17 1 ≡ 26
unfolding open_fault
wide = refl
