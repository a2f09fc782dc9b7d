-- The text for an input (document 01, `gridreport`), as a list of ASCII codes.
use Rattle.std.specs.Prelude.{ℕ, zero, suc, ◌/◌, List, [], ◌∷◌, ◌++◌, cond, ℤ, leb, length, get_or, Float}
use Rattle.std.specs.Float.{binary32}
use Rattle.std.specs.Float.Ieee.{to_bits}
use Rattle.refusals.specs.Results.{Result, ok, refused}
use Rattle.float.specs.Zero.{+0}
use Rattle.layout.specs.Coordinates.{Coord}
use Rattle.sparse_grid.specs.Tables.{Grid, block_at}
use Rattle.medium.specs.Medium.{Medium}
use Rattle.nanovdb.specs.Decode.{Accepted, decode_density}
use Rattle.nanovdb.specs.Lent.{Lent, decode_into}
use Rattle.text.specs.Numerals.{decimal, signed_text, hex8, sixteens}

-- ---- the first words of the lines, and the end of a line

unfoldable pub grid_word : List ℕ
grid_word = 103 ∷ 114 ∷ 105 ∷ 100 ∷ []

unfoldable pub nodes_word : List ℕ
nodes_word = 110 ∷ 111 ∷ 100 ∷ 101 ∷ 115 ∷ []

unfoldable pub box_word : List ℕ
box_word = 98 ∷ 111 ∷ 120 ∷ []

unfoldable pub back_word : List ℕ
back_word = 98 ∷ 97 ∷ 99 ∷ 107 ∷ []

unfoldable pub root_word : List ℕ
root_word = 114 ∷ 111 ∷ 111 ∷ 116 ∷ []

unfoldable pub refused_word : List ℕ
refused_word = 114 ∷ 101 ∷ 102 ∷ 117 ∷ 115 ∷ 101 ∷ 100 ∷ []

unfoldable pub long_word : List ℕ
long_word = 108 ∷ 111 ∷ 110 ∷ 103 ∷ []

abbrev pub newline : List ℕ
newline = 10 ∷ []

-- ---- what stands behind them, each with a blank before it

unfoldable pub number : ℕ → List ℕ
unfolding decimal
number n = 32 ∷ decimal n

unfoldable pub coordinate : ℤ → List ℕ
unfolding signed_text
coordinate z = 32 ∷ signed_text z

unfoldable pub triple : Coord → List ℕ
unfolding coordinate
triple c = coordinate c.x ++ (coordinate c.y ++ coordinate c.z)

unfoldable pub bits : Float → List ℕ
unfolding sixteens
bits v = 32 ∷ hex8 (to_bits binary32 v)

-- ---- the lines

unfoldable pub grid_line : ℕ → List ℕ
unfolding grid_word number
grid_line n = grid_word ++ (number n ++ newline)

-- roots, upper, lower, leaf
unfoldable pub nodes_line : ℕ → ℕ → ℕ → ℕ → List ℕ
unfolding nodes_word number
nodes_line roots upper lower leaf = nodes_word ++ (number roots ++ (number upper ++ (number lower ++ (number leaf ++ newline))))

-- the corners of the index box
unfoldable pub box_line : Medium → List ℕ
unfolding box_word triple
box_line m = box_word ++ (triple m.index_low ++ (triple m.index_high ++ newline))

unfoldable pub back_line : Float → List ℕ
unfolding back_word bits
back_line v = back_word ++ (bits v ++ newline)

-- a root's block and its value
unfoldable pub root_line : Coord → Float → List ℕ
unfolding root_word triple bits
root_line c v = root_word ++ (triple c ++ (bits v ++ newline))

-- the first n roots, in their order
unfoldable pub root_lines : Grid → ℕ → List ℕ
unfolding root_line
root_lines g zero = []
root_lines g (suc n) = root_lines g n ++ root_line (block_at g n) (get_or g.root_values n +0)

unfoldable pub refused_line : ℕ → List ℕ
unfolding refused_word number
refused_line n = refused_word ++ (number n ++ newline)

unfoldable pub long_line : List ℕ
unfolding long_word
long_line = long_word ++ newline

-- ---- what both programs do with their input

-- 999 roots, no nodes and a work table of two spans
abbrev pub lent : Lent
lent = record {
  blocks = 2997;
  root_links = 999;
  root_values = 999;
  upper_links = 0;
  upper_values = 0;
  lower_links = 0;
  lower_values = 0;
  leaf_values = 0;
  work = 8;
}

-- what a text says of a grid of n bytes
abbrev pub Says : Type 0
Says = ℕ → Accepted → List ℕ

-- a grid has its text; a refusal prints one line alone
unfoldable pub result_text : Says → ℕ → Result Accepted → List ℕ
unfolding refused_line
result_text text n (ok t) = text n t
result_text text n (refused k) = refused_line k

-- the text of an input, where a grid of n bytes has the text that is given; more than 32,768 bytes are not read
unfoldable pub printed_of : Says → List ℕ → List ℕ
unfolding result_text decode_into decode_density long_line
printed_of text b = cond (leb (length b) 32768) (result_text text (length b) (decode_into decode_density b lent)) long_line

-- ---- the report

-- of a grid of n bytes
unfoldable pub grid_text : ℕ → Accepted → List ℕ
unfolding grid_line nodes_line box_line back_line root_lines
grid_text n t =
    let g = t.grid in
    grid_line n
    ++ (nodes_line (length g.root_links) (length g.upper_links / 32768) (length g.lower_links / 4096) (length g.leaf_values / 512)
    ++ (box_line t.medium
    ++ (back_line g.background
    ++ root_lines g (length g.root_links))))

unfoldable pub report_of : List ℕ → List ℕ
unfolding printed_of grid_text
report_of b = printed_of grid_text b
