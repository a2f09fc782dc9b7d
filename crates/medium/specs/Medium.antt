-- The medium record: world box, index box, inverse map, translation, numbers of cells and temperature, and its checks (4, 14, 13; 23 is `cells`' own).
use Rattle.std.specs.Prelude.{ℕ, ◌+◌, List, Bool, false, ◌&&◌, ℤ, get_or, Float}
use Rattle.std.specs.Int.Signed.{le_z}
use Rattle.std.specs.Float.{binary32}
use Rattle.std.specs.Float.Ieee.{sub, lt, eq}
use Rattle.std.specs.Float.Ieee.Scale.{finite}
use Rattle.refusals.specs.Faults.{◌then◌, unless}
use Rattle.float.specs.Zero.{+0}
use Rattle.layout.specs.Coordinates.{Coord}
use Rattle.cells.specs.Cells.{Cells}

pub record Point : Type 0 where
  pub x : Float
  pub y : Float
  pub z : Float

-- whether a temperature grid stands beside the density grid, and how its values are read: (value - offset) * scale
pub record Temperature : Type 0 where
  pub present : Bool
  pub offset : Float
  pub scale : Float

abbrev pub no_temperature : Temperature
no_temperature = record { present = false; offset = +0; scale = +0 }

-- `low` and `high` are the corners of the world box; `map` has nine places, row after row; `cells` says how the world box is cut
pub record Medium : Type 0 where
  pub low : Point
  pub high : Point
  pub index_low : Coord
  pub index_high : Coord
  pub map : List Float
  pub translation : Point
  pub cells : Cells
  pub temperature : Temperature

-- a medium from its parts, without a temperature: media are made by this, so that a further field is added in one place
abbrev pub make_medium : Point → Point → Coord → Coord → List Float → Point → Cells → Medium
make_medium low high index_low index_high map translation cells = record {
  low = low;
  high = high;
  index_low = index_low;
  index_high = index_high;
  map = map;
  translation = translation;
  cells = cells;
  temperature = no_temperature;
}

-- the same medium with this temperature
abbrev pub with_temperature : Temperature → Medium → Medium
with_temperature t m = record {
  low = m.low;
  high = m.high;
  index_low = m.index_low;
  index_high = m.index_high;
  map = m.map;
  translation = m.translation;
  cells = m.cells;
  temperature = t;
}

-- the three axes
pub data Axis : Type 0 where
  x_axis y_axis z_axis : Axis

abbrev pub on_point : Axis → Point → Float
on_point x_axis p = p.x
on_point y_axis p = p.y
on_point z_axis p = p.z

abbrev pub on_coord : Axis → Coord → ℤ
on_coord x_axis c = c.x
on_coord y_axis c = c.y
on_coord z_axis c = c.z

-- where the row of an axis begins in the map
abbrev pub row : Axis → ℕ
row x_axis = 0
row y_axis = 3
row z_axis = 6

abbrev pub map_at : Medium → Axis → ℕ → Float
map_at m a col = get_or m.map (row a + col) +0

-- ---- the checks

-- the fault of the first axis that has one
abbrev pub each : (Axis → ℕ) → ℕ
each f = f x_axis then f y_axis then f z_axis

-- 4: a corner that is not finite, a minimum that is not below its maximum, or an infinite width
unfoldable pub bounds_fault : Medium → Axis → ℕ
bounds_fault m a =
    let l = on_point a m.low in let h = on_point a m.high in
    unless (finite l && finite h && lt l h && finite (sub binary32 h l)) 4

-- 14: an index minimum above its maximum
unfoldable pub index_fault : Medium → Axis → ℕ
index_fault m a = unless (le_z (on_coord a m.index_low) (on_coord a m.index_high)) 14

abbrev pub diagonal : Float → Bool
diagonal v = finite v && lt +0 v

abbrev pub zeroes : Float → Bool
zeroes v = eq v +0

-- 13 unless the map is finite, positive on the diagonal and zero elsewhere, and the translation is finite
unfoldable pub map_fault : Medium → ℕ
map_fault m =
    let at : ℕ → Float = λ i. get_or m.map i +0 in
    unless (diagonal (at 0) && zeroes (at 1) && zeroes (at 2)
    && zeroes (at 3) && diagonal (at 4) && zeroes (at 5)
    && zeroes (at 6) && zeroes (at 7) && diagonal (at 8)
    && finite m.translation.x && finite m.translation.y && finite m.translation.z) 13

-- the checks of a build, in order
abbrev pub medium_fault : Medium → ℕ
medium_fault m = each (bounds_fault m) then each (index_fault m) then map_fault m
