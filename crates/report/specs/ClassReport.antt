-- The text of the second program (document 02, A9): how many coordinates of the grid's index box hold thin, middling and heavy smoke.
use Rattle.std.specs.Prelude.{ℕ, zero, suc, ◌+◌, List, [], ◌∷◌, ◌++◌, cond, eqb, length, Float}
use Rattle.std.specs.Float.{binary32}
use Rattle.std.specs.Float.Ieee.{of_bits}
use Rattle.sparse_grid.specs.Lookup.{read_in}
use Rattle.sparse_grid.specs.Count.{sum}
use Rattle.medium.specs.Medium.{Medium}
use Rattle.nanovdb.specs.Decode.{Accepted}
use Rattle.boxes.specs.Boxes.{Box}
use Rattle.walk.specs.Classes.{class_count, sides_fault}
use Rattle.report.specs.Report.{newline, number, refused_line, printed_of}

unfoldable pub class_word : List ℕ
class_word = 99 ∷ 108 ∷ 97 ∷ 115 ∷ 115 ∷ []

unfoldable pub total_word : List ℕ
total_word = 116 ∷ 111 ∷ 116 ∷ 97 ∷ 108 ∷ []

-- 0.25 and 0.75
abbrev pub limits : List Float
limits = of_bits binary32 0x3e80_0000 ∷ of_bits binary32 0x3f40_0000 ∷ []

abbrev pub index_box : Medium → Box
index_box m = record { lo = m.index_low; hi = m.index_high }

-- ---- the lines

-- class k, and how many coordinates it has
unfoldable pub class_line : ℕ → ℕ → List ℕ
unfolding class_word number
class_line k n = class_word ++ (number k ++ (number n ++ newline))

-- the first n classes
unfoldable pub class_lines : (ℕ → ℕ) → ℕ → List ℕ
unfolding class_line
class_lines count zero = []
class_lines count (suc n) = class_lines count n ++ class_line n (count n)

unfoldable pub total_line : ℕ → List ℕ
unfolding total_word number
total_line n = total_word ++ (number n ++ newline)

-- a line for each class, one class more than there are limits, and then their sum
unfoldable pub count_lines : (ℕ → ℕ) → List ℕ
unfolding class_lines total_line
count_lines count = class_lines count (length limits + 1) ++ total_line (sum (length limits + 1) count)

-- ---- the whole text

-- of a grid, whatever its size: 25 for a side of its index box of more than 2^20 coordinates
unfoldable pub class_text : ℕ → Accepted → List ℕ
unfolding count_lines refused_line
class_text n t =
    let b = index_box t.medium in
    cond (eqb (sides_fault b) 0) (count_lines (class_count (read_in t.grid) limits b)) (refused_line (sides_fault b))

unfoldable pub class_report_of : List ℕ → List ℕ
unfolding printed_of class_text
class_report_of b = printed_of class_text b
