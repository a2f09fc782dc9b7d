-- Worked examples. Each is computed.
use Rattle.std.specs.Prelude.{◌≡◌, refl, true, false, List, [], ◌∷◌, ◌++◌, ℕ, ◌^◌, pos, negsuc, Float}
use Rattle.std.specs.Float.{nan, fin}
use Rattle.std.specs.Float.Ieee.{eq, lt, to_bits}
use Rattle.refusals.specs.Results.{ok, refused}
use Rattle.float.specs.Zero.{+0}
use Rattle.cells.specs.Cells.{cells, cells_fault}
use Rattle.sheet.specs.Grades.{units_of, grade, mark}
use Rattle.sheet.specs.Sheet.{place, layer_word, sheet_fault, sheet}

abbrev -0 : Float
-0 = fin true 0 (pos 0)

abbrev half : Float
half = fin false 1 (negsuc 0)

abbrev one : Float
one = fin false 1 (pos 0)

abbrev two : Float
two = fin false 1 (pos 1)

abbrev minus_one : Float
minus_one = fin true 1 (pos 0)

-- 2^-149, the smallest f32 above zero
abbrev least : Float
least = fin false 1 (negsuc 148)

-- ---- units and grades

least_units : units_of least ≡ 1
least_units = refl

one_units : units_of one ≡ 2 ^ 149
one_units = refl

-- 4.5 of 9 is below 5 of 9
half_way : grade 1 2 ≡ 5
unfolding grade
half_way = refl

-- one ninth is enough for 1, and the least more is not
ninth : grade 1 9 ≡ 1
unfolding grade
ninth = refl

above_ninth : grade 2 17 ≡ 2
unfolding grade
above_ninth = refl

-- the greatest itself
whole : grade 7 7 ≡ 9
unfolding grade
whole = refl

-- however far apart the two are
far_apart : mark least (fin false 16777215 (pos 104)) ≡ 49
unfolding mark eq
far_apart = refl

minus_zero_mark : mark -0 two ≡ 46
unfolding mark eq
minus_zero_mark = refl

-- ---- three places

-- `  7`, ` 42`, `127`
place_seven : place 7 ≡ 32 ∷ 32 ∷ 55 ∷ []
unfolding place
place_seven = refl

place_two_digits : place 42 ≡ 32 ∷ 52 ∷ 50 ∷ []
unfolding place
place_two_digits = refl

place_three_digits : place 127 ≡ 49 ∷ 50 ∷ 55 ∷ []
unfolding place
place_three_digits = refl

-- ---- pages

-- `layer   0 `
abbrev head : List ℕ
unfolding layer_word
head = layer_word ++ (32 ∷ 32 ∷ 32 ∷ 48 ∷ 32 ∷ [])

-- a table of 3 × 2 × 1 cells: the row y = 0, and then y = 1
table : List Float
table = +0 ∷ one ∷ half ∷ two ∷ -0 ∷ least ∷ []

-- `layer   0 40000000`, `  1 9.1`, `  (0).53`
page_example : sheet (cells 3 2 1) 0 table 35 ≡ ok (head ++ (52 ∷ 48 ∷ 48 ∷ 48 ∷ 48 ∷ 48 ∷ 48 ∷ 48 ∷ 10
    ∷ 32 ∷ 32 ∷ 49 ∷ 32 ∷ 57 ∷ 46 ∷ 49 ∷ 10
    ∷ 32 ∷ 32 ∷ 48 ∷ 32 ∷ 46 ∷ 53 ∷ 51 ∷ 10 ∷ []))
unfolding sheet cells_fault table eq lt to_bits layer_word
page_example = refl

-- one cell: `layer   0 3f800000`, `  0 9`
one_cell : sheet (cells 1 1 1) 0 (one ∷ []) 25
    ≡ ok (head ++ (51 ∷ 102 ∷ 56 ∷ 48 ∷ 48 ∷ 48 ∷ 48 ∷ 48 ∷ 10 ∷ 32 ∷ 32 ∷ 48 ∷ 32 ∷ 57 ∷ 10 ∷ []))
unfolding sheet cells_fault eq lt to_bits layer_word
one_cell = refl

-- zeros of either sign: `layer   0 00000000`, `  0 ..`
zeros : sheet (cells 2 1 1) 0 (-0 ∷ +0 ∷ []) 26
    ≡ ok (head ++ (48 ∷ 48 ∷ 48 ∷ 48 ∷ 48 ∷ 48 ∷ 48 ∷ 48 ∷ 10 ∷ 32 ∷ 32 ∷ 48 ∷ 32 ∷ 46 ∷ 46 ∷ 10 ∷ []))
unfolding sheet cells_fault eq lt to_bits layer_word
zeros = refl

-- 1 to 9 of 9, where figure × 9 is k × greatest exactly; and the next f32 above each of 1 to 8
edges : List Float
edges =
    one ∷ two ∷ fin false 3 (pos 0) ∷ fin false 1 (pos 2) ∷ fin false 5 (pos 0) ∷ fin false 3 (pos 1) ∷ fin false 7 (pos 0) ∷ fin false 1 (pos 3)
    ∷ fin false 9 (pos 0)
    ∷ fin false 8388609 (negsuc 22) ∷ fin false 8388609 (negsuc 21) ∷ fin false 12582913 (negsuc 21) ∷ fin false 8388609 (negsuc 20)
    ∷ fin false 10485761 (negsuc 20) ∷ fin false 12582913 (negsuc 20) ∷ fin false 14680065 (negsuc 20) ∷ fin false 8388609 (negsuc 19) ∷ +0 ∷ []

-- `layer   0 41100000`, `  1 23456789.`, `  0 123456789`
edge_page : sheet (cells 9 2 1) 0 edges 100 ≡ ok (head ++ (52 ∷ 49 ∷ 49 ∷ 48 ∷ 48 ∷ 48 ∷ 48 ∷ 48 ∷ 10
    ∷ 32 ∷ 32 ∷ 49 ∷ 32 ∷ 50 ∷ 51 ∷ 52 ∷ 53 ∷ 54 ∷ 55 ∷ 56 ∷ 57 ∷ 46 ∷ 10
    ∷ 32 ∷ 32 ∷ 48 ∷ 32 ∷ 49 ∷ 50 ∷ 51 ∷ 52 ∷ 53 ∷ 54 ∷ 55 ∷ 56 ∷ 57 ∷ 10 ∷ []))
unfolding sheet cells_fault edges eq lt to_bits layer_word
edge_page = refl

-- a subnormal beside 2^127: `layer   0 7f000000`, `  0 19`
subnormal : sheet (cells 2 1 1) 0 (least ∷ fin false 1 (pos 127) ∷ []) 26
    ≡ ok (head ++ (55 ∷ 102 ∷ 48 ∷ 48 ∷ 48 ∷ 48 ∷ 48 ∷ 48 ∷ 10 ∷ 32 ∷ 32 ∷ 48 ∷ 32 ∷ 49 ∷ 57 ∷ 10 ∷ []))
unfolding sheet cells_fault eq lt to_bits layer_word
subnormal = refl

-- ---- what is turned away

no_cells : sheet_fault (cells 1 0 1) 5 [] 0 ≡ 23
unfolding sheet_fault cells_fault
no_cells = refl

-- a table that is one figure short, before the layer is looked at
short_table : sheet_fault (cells 2 1 1) 5 (nan ∷ []) 0 ≡ 18
unfolding sheet_fault cells_fault
short_table = refl

-- a layer past the last, before its figures are looked at
past : sheet_fault (cells 1 1 1) 1 (nan ∷ []) 0 ≡ 28
unfolding sheet_fault cells_fault
past = refl

-- a figure of another layer does not count
other_layer : sheet_fault (cells 1 1 2) 0 (one ∷ nan ∷ []) 25 ≡ 0
unfolding sheet_fault cells_fault eq lt to_bits
other_layer = refl

-- 12 over the whole layer before 15, and both before the room
not_finite_first : sheet_fault (cells 2 1 1) 0 (minus_one ∷ nan ∷ []) 0 ≡ 12
unfolding sheet_fault cells_fault eq lt to_bits
not_finite_first = refl

negative : sheet_fault (cells 2 1 1) 0 (minus_one ∷ one ∷ []) 0 ≡ 15
unfolding sheet_fault cells_fault eq lt to_bits
negative = refl

-- one byte short
short : sheet (cells 3 2 1) 0 table 34 ≡ refused 9
unfolding sheet cells_fault table eq lt to_bits
short = refl
