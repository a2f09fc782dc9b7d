-- The page of a layer, as a list of ASCII codes.
use Rattle.std.specs.Prelude.{ℕ, zero, suc, ◌*◌, cond, List, [], ◌∷◌, ◌++◌, leb, ltb, length, take, drop, Float}
use Rattle.std.specs.Float.{binary32}
use Rattle.std.specs.Float.Ieee.{to_bits}
use Rattle.refusals.specs.Results.{Result, ok}
use Rattle.refusals.specs.Faults.{◌then◌, unless, passing}
use Rattle.float.specs.Zero.{+0}
use Rattle.cells.specs.Cells.{Cells, table_fault}
use Rattle.figures.specs.Figures.{figures_fault, greater}
use Rattle.text.specs.Numerals.{decimal, sixteens, hex8}
use Rattle.sheet.specs.Grades.{mark}

-- ---- the lines

abbrev pub newline : List ℕ
newline = 10 ∷ []

-- a number below 1000 in three places, with blanks in front
unfoldable pub place : ℕ → List ℕ
unfolding decimal
place n = cond (ltb n 10) (32 ∷ 32 ∷ decimal n) (cond (ltb n 100) (32 ∷ decimal n) (decimal n))

-- `layer`
unfoldable pub layer_word : List ℕ
layer_word = 108 ∷ 97 ∷ 121 ∷ 101 ∷ 114 ∷ []

-- layer k, and the bits of its greatest figure
unfoldable pub head_line : ℕ → Float → List ℕ
unfolding layer_word place sixteens
head_line k g = layer_word ++ ((32 ∷ []) ++ (place k ++ ((32 ∷ []) ++ (hex8 (to_bits binary32 g) ++ newline))))

-- a character for each figure of a row
unfoldable pub marks : Float → List Float → List ℕ
unfolding mark
marks g [] = []
marks g (v ∷ l) = mark v g ∷ marks g l

unfoldable pub row_line : Float → ℕ → List Float → List ℕ
unfolding place marks
row_line g y row = place y ++ ((32 ∷ []) ++ (marks g row ++ newline))

-- row y of a layer with x cells a row
abbrev pub row_of : ℕ → ℕ → List Float → List Float
row_of x y layer = take x (drop (y * x) layer)

-- the first y rows, the highest first
unfoldable pub row_lines : ℕ → Float → List Float → ℕ → List ℕ
unfolding row_line
row_lines x g layer zero = []
row_lines x g layer (suc y) = row_line g y (row_of x y layer) ++ row_lines x g layer y

-- ---- the page

-- the greatest of a and the figures
unfoldable pub most_of : Float → List Float → Float
most_of a [] = a
most_of a (v ∷ l) = most_of (greater a v) l

-- layer k of a table: cell x + X (y + Y k) for each x and y
abbrev pub layer_of : Cells → ℕ → List Float → List Float
layer_of n k table = row_of (n.x * n.y) k table

-- layer k, of x × y cells
unfoldable pub page_of : ℕ → ℕ → ℕ → List Float → List ℕ
unfolding head_line row_lines most_of
page_of x y k layer = head_line k (most_of +0 layer) ++ row_lines x (most_of +0 layer) layer y

-- layer k of a table
abbrev pub layer_page : Cells → ℕ → List Float → List ℕ
layer_page n k table = page_of n.x n.y k (layer_of n k table)

-- ---- what is turned away: 23, 18, 28, 12, 15, 9

-- with a buffer of `room` bytes
unfoldable pub sheet_fault : Cells → ℕ → List Float → ℕ → ℕ
unfolding table_fault figures_fault page_of
sheet_fault n k table room =
    table_fault n (length table)
    then unless (ltb k n.z) 28
    then figures_fault (layer_of n k table)
    then unless (leb (length (layer_page n k table)) room) 9

-- the text, or the number of its refusal
unfoldable pub sheet : Cells → ℕ → List Float → ℕ → Result (List ℕ)
unfolding sheet_fault
sheet n k table room = passing (sheet_fault n k table room) (ok (layer_page n k table))
