-- Flat arrays of the C interface: counts, medium, corners and cells of a decode, or zeros after a refusal; and the medium that C hands over.
use Rattle.std.specs.Prelude.{ℕ, ◌+◌, List, [], ◌∷◌, ◌++◌, ◌&&◌, eqb, ℤ, pos, length, get_or, replicate, Float}
use Rattle.std.specs.Float.{nan}
use Rattle.refusals.specs.Results.{Result, ok, refused}
use Rattle.refusals.specs.Faults.{unless, passing}
use Rattle.float.specs.Zero.{+0}
use Rattle.layout.specs.Coordinates.{Coord}
use Rattle.sparse_grid.specs.Tables.{Grid}
use Rattle.cells.specs.Cells.{Cells}
use Rattle.medium.specs.Medium.{Point, Medium, make_medium}
use Rattle.medium.specs.Record.{cells_of}
use Rattle.nanovdb.specs.Decode.{Accepted, decode_density}
use Rattle.nanovdb.specs.Lent.{Lent, Answer, answer_of, decode_into}
use Rattle.index.specs.Answers.{index_bits}
use Rattle.majorant.specs.Build.{build_into}

-- roots, upper, lower and leaf nodes used
abbrev pub counts_of : Answer → List ℕ
counts_of a = a.roots ∷ a.upper ∷ a.lower ∷ a.leaf ∷ []

-- world minimum, world maximum, inverse map row after row, translation
abbrev pub floats_of : Medium → List Float
floats_of m = m.low.x ∷ m.low.y ∷ m.low.z ∷ m.high.x ∷ m.high.y ∷ m.high.z
    ∷ (m.map ++ (m.translation.x ∷ m.translation.y ∷ m.translation.z ∷ []))

-- index minimum, index maximum
abbrev pub corners_of : Medium → List ℤ
corners_of m = m.index_low.x ∷ m.index_low.y ∷ m.index_low.z ∷ m.index_high.x ∷ m.index_high.y ∷ m.index_high.z ∷ []

-- cells on x, y and z
abbrev pub numbers_of : Cells → List ℕ
numbers_of n = n.x ∷ n.y ∷ n.z ∷ []

-- the lengths of the arrays that a decode writes
pub record Arrays : Type 0 where
  pub counts : ℕ
  pub medium : ℕ
  pub corners : ℕ
  pub cells : ℕ

-- 18 where one has another length
abbrev pub flat_fault : Arrays → ℕ
flat_fault a = unless (eqb a.counts 4 && eqb a.medium 18 && eqb a.corners 6 && eqb a.cells 3) 18

unfoldable pub decode_flat : List ℕ → Lent → Arrays → Result Accepted
decode_flat b l a = passing (flat_fault a) (decode_into decode_density b l)

-- ---- what is left in each array of a length

abbrev pub counts_left : ℕ → Result Accepted → List ℕ
counts_left n (ok t) = counts_of (answer_of (ok t))
counts_left n (refused k) = replicate n 0

abbrev pub background_left : Result Accepted → Float
background_left r = (answer_of r).background

abbrev pub medium_left : ℕ → Result Accepted → List Float
medium_left n (ok t) = floats_of t.medium
medium_left n (refused k) = replicate n +0

abbrev pub corners_left : ℕ → Result Accepted → List ℤ
corners_left n (ok t) = corners_of t.medium
corners_left n (refused k) = replicate n (pos 0)

abbrev pub cells_left : ℕ → Result Accepted → List ℕ
cells_left n (ok t) = numbers_of t.medium.cells
cells_left n (refused k) = replicate n 0

-- ---- what C hands over in flat arrays

abbrev three : List ℤ → ℕ → Coord
three l k = record { x = get_or l k (pos 0); y = get_or l (k + 1) (pos 0); z = get_or l (k + 2) (pos 0) }

abbrev point : List Float → ℕ → Point
point l k = record { x = get_or l k nan; y = get_or l (k + 1) nan; z = get_or l (k + 2) nan }

-- the medium of 18 numbers, 6 corners and 3 numbers of cells: an array of that length has every place that is read, so the defaults are never met
abbrev pub medium_from : List Float → List ℤ → List ℕ → Medium
medium_from l c n =
    make_medium (point l 0) (point l 3) (three c 0) (three c 3)
    (get_or l 6 nan ∷ get_or l 7 nan ∷ get_or l 8 nan ∷ get_or l 9 nan ∷ get_or l 10 nan ∷ get_or l 11 nan
    ∷ get_or l 12 nan ∷ get_or l 13 nan ∷ get_or l 14 nan ∷ [])
    (point l 15) (cells_of n)

-- 18 for a medium or index bits of another length; corners and cells play no part
unfoldable pub index_flat : List Float → Point → ℕ → Result (List ℕ)
index_flat m p bits = passing (unless (eqb (length m) 18 && eqb bits 3) 18) (index_bits (medium_from m (replicate 6 (pos 0)) (replicate 3 0)) p)

-- 18 for a medium, corners or cells of another length, and then the build into a table of so many places
unfoldable pub build_flat : Grid → List Float → List ℤ → List ℕ → ℕ → Result (List Float)
build_flat g m c n places =
    passing (unless (eqb (length m) 18 && eqb (length c) 6 && eqb (length n) 3) 18) (build_into g (medium_from m c n) places)
