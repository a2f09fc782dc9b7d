-- Worked rays through the unit box, cut into four cells along x, by computation.
use Rattle.std.specs.Prelude.{◌≡◌, true, false, List, [], ◌∷◌, pos, negsuc, refl, Float}
use Rattle.std.specs.Float.{nan, inf, fin}
use Rattle.std.specs.Float.Ieee.{neg, round, sum, add, sub, mul, div, lt, eq, le, of_int}
use Rattle.refusals.specs.Results.{Result, ok, refused, bind}
use Rattle.float.specs.Zero.{+0}
use Rattle.float.specs.Saturated.{saturated}
use Rattle.medium.specs.Medium.{Point, Medium, make_medium, bounds_fault}
use Rattle.cells.specs.Cells.{Cells, cells, cells_fault, table_fault}
use Rattle.rays.specs.Ray.{State, Piece, next}
use Rattle.rays.specs.Open.{Beam, cell_at, track_from, track_on, open_ray}
use Rattle.rays.specs.Run.{pieces}

-- ---- numbers, as lib.Ieee writes them

abbrev -0 : Float
-0 = fin true 0 (pos 0)

abbrev quarter : Float
quarter = fin false 1 (negsuc 1)

abbrev half : Float
half = fin false 1 (negsuc 0)

abbrev three_quarters : Float
three_quarters = fin false 3 (negsuc 1)

abbrev one : Float
one = fin false 1 (pos 0)

abbrev two : Float
two = fin false 1 (pos 1)

abbrev point : Float → Float → Float → Point
point x y z = record { x = x; y = y; z = z }

-- ---- the unit box and its table, in which the figures are 1, 1/2, 1/4 and 2

abbrev in_cells : Cells → Medium
in_cells n =
    make_medium (point +0 +0 +0) (point one one one) (record { x = pos 0; y = pos 0; z = pos 0 }) (record { x = pos 0; y = pos 0; z = pos 0 }) []
    (point +0 +0 +0) n

abbrev unit : Medium
unit = in_cells (cells 4 1 1)

abbrev table : List Float
table = one ∷ half ∷ quarter ∷ two ∷ []

-- from t = 0 to t = 2
abbrev from : Point → Point → Beam
from o d = record { origin = o; direction = d; t_min = +0; t_max = two }

-- every piece: the ray ends within ten calls
abbrev run : Beam → Result (List Piece)
run b = bind (open_ray unit b 4) (λ (s : State). ok (pieces 10 s table))

abbrev part : Float → Float → Float → Piece
part a e g = record { from = a; to = e; figure = g }

-- ---- along x, from the low face: four pieces, the most that 4 + 1 + 1 - 2 allows

abbrev four_pieces : List Piece
four_pieces =
    part +0 quarter one ∷ part quarter half half ∷ part half three_quarters quarter ∷ part three_quarters one two ∷ []

pub along_x_lem : run (from (point +0 half half) (point one +0 +0)) ≡ ok four_pieces
unfolding open_ray cells_fault table_fault bounds_fault track_on track_from cell_at saturated next pieces neg round sum add sub mul div lt eq le of_int
along_x_lem = refl

-- on an edge of the box, where y and z are 0, too
pub on_edge : run (from (point +0 +0 +0) (point one +0 +0)) ≡ ok four_pieces
unfolding open_ray cells_fault table_fault bounds_fault track_on track_from cell_at saturated next pieces neg round sum add sub mul div lt eq le of_int
on_edge = refl

-- a direction of -0 counts as +0
pub minus_zero : run (from (point +0 half half) (point one -0 -0)) ≡ ok four_pieces
unfolding open_ray cells_fault table_fault bounds_fault track_on track_from cell_at saturated next pieces neg round sum add sub mul div lt eq le of_int
minus_zero = refl

-- backwards, from the high face
pub backwards : run (from (point one half half) (point (fin true 1 (pos 0)) +0 +0))
    ≡ ok (part +0 quarter two ∷ part quarter half quarter ∷ part half three_quarters half ∷ part three_quarters one one ∷ [])
unfolding open_ray cells_fault table_fault bounds_fault track_on track_from cell_at saturated next pieces neg round sum add sub mul div lt eq le of_int
backwards = refl

-- on the high face of y the crossing there is 0 / 0: no test holds of it, so z is taken, whose crossing is infinite, and one piece is all
pub high_face : run (from (point +0 one half) (point one +0 +0)) ≡ ok (part +0 two one ∷ [])
unfolding open_ray cells_fault table_fault bounds_fault track_on track_from cell_at saturated next pieces neg round sum add sub mul div lt eq le of_int
high_face = refl

-- from outside the box, which a caller's clip rules out, the first cell is the nearest, its crossing lies in the past, and the piece runs backwards
pub outside : run (from (point two half half) (point one +0 +0)) ≡ ok (part +0 (fin true 1 (pos 0)) two ∷ [])
unfolding open_ray cells_fault table_fault bounds_fault track_on track_from cell_at saturated next pieces neg round sum add sub mul div lt eq le of_int
outside = refl

-- ---- t may fall by rounding: at the float before 5 / 11 the position times 11 rounds to 5, so the cell is 5, whose low face lies just behind the ray

abbrev eleven : List Float
eleven = +0 ∷ +0 ∷ +0 ∷ +0 ∷ +0 ∷ half ∷ +0 ∷ +0 ∷ +0 ∷ +0 ∷ +0 ∷ []

pub falls : bind (open_ray (in_cells (cells 11 1 1)) (from (point (fin false 7626007 (negsuc 23)) half half) (point (fin true 1 (pos 0)) +0 +0)) 11)
    (λ (s : State). ok (pieces 1 s eleven)) ≡ ok (part +0 (fin true 1 (negsuc 24)) half ∷ [])
unfolding open_ray cells_fault table_fault bounds_fault track_on track_from cell_at saturated next pieces neg round sum add sub mul div lt eq le of_int
falls = refl

-- ---- refusals, in their order

-- no direction, and an infinite end
pub no_direction : run (from (point +0 half half) (point +0 -0 +0)) ≡ refused 22
unfolding open_ray cells_fault table_fault bounds_fault track_on track_from cell_at saturated next pieces neg round sum add sub mul div lt eq le of_int
no_direction = refl

pub no_end : open_ray unit (record { origin = point +0 +0 +0; direction = point one +0 +0; t_min = +0; t_max = inf false }) 4 ≡ refused 22
unfolding open_ray cells_fault table_fault bounds_fault track_on track_from cell_at saturated next pieces neg round sum add sub mul div lt eq le of_int
no_end = refl

-- 18 comes before 22, and 23 before 18
pub short_table : open_ray unit (from (point nan +0 +0) (point one +0 +0)) 3 ≡ refused 18
unfolding open_ray cells_fault table_fault bounds_fault track_on track_from cell_at saturated next pieces neg round sum add sub mul div lt eq le of_int
short_table = refl

pub many_cells : open_ray (in_cells (cells 129 1 0)) (from (point nan +0 +0) (point one +0 +0)) 3 ≡ refused 23
unfolding open_ray cells_fault table_fault bounds_fault track_on track_from cell_at saturated next pieces neg round sum add sub mul div lt eq le of_int
many_cells = refl
