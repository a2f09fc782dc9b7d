-- The medium that the code's record stands for. Its arrays have every place that is read, so the defaults are never met.
use Rattle.std.specs.Prelude.{ℕ, List, [], ◌∷◌, ℤ, pos, get_or, Float}
use Rattle.std.specs.Float.{nan}
use Rattle.layout.specs.Coordinates.{Coord}
use Rattle.cells.specs.Cells.{Cells, cells}
use Rattle.medium.specs.Medium.{Point, Temperature, Medium, make_medium, with_temperature}
use Rattle.medium.specs.declared.Medium as Code
use Rattle.medium.specs.declared.Temperature as Heat

abbrev pub point_of : List Float → Point
point_of l = record { x = get_or l 0 nan; y = get_or l 1 nan; z = get_or l 2 nan }

abbrev pub coord_of : List ℤ → Coord
coord_of l = record { x = get_or l 0 (pos 0); y = get_or l 1 (pos 0); z = get_or l 2 (pos 0) }

abbrev pub cells_of : List ℕ → Cells
cells_of l = cells (get_or l 0 0) (get_or l 1 0) (get_or l 2 0)

abbrev pub nine_of : List Float → List Float
nine_of l = get_or l 0 nan ∷ get_or l 1 nan ∷ get_or l 2 nan ∷ get_or l 3 nan ∷ get_or l 4 nan ∷ get_or l 5 nan
    ∷ get_or l 6 nan ∷ get_or l 7 nan ∷ get_or l 8 nan ∷ []

abbrev pub as_temperature : Heat.Temperature → Temperature
as_temperature t = record { present = t.present; offset = t.offset; scale = t.scale }

abbrev pub as_medium : Code.Medium → Medium
as_medium m =
    with_temperature (as_temperature m.temperature)
    (make_medium (point_of m.low) (point_of m.high) (coord_of m.index_low) (coord_of m.index_high) (nine_of m.map)
    (point_of m.translation) (cells_of m.cells))
