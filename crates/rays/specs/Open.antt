-- The opening of a ray (majorant_iterator.rs, DDAMajorantIterator::new): offsets and directions in the world box, the first cell, and the first crossings.
use Rattle.std.specs.Prelude.{ℕ, ◌-◌, Bool, false, cond, not, ◌&&◌, ℤ, pos, negsuc, ◌+ℤ◌, Float}
use Rattle.std.specs.Float.{nan, inf, fin, binary32}
use Rattle.std.specs.Float.Ieee.{add, sub, mul, div, le, eq, of_int}
use Rattle.std.specs.Float.Ieee.Scale.{finite}
use Rattle.refusals.specs.Results.{Result, ok}
use Rattle.refusals.specs.Faults.{◌then◌, unless, passing}
use Rattle.float.specs.Zero.{+0}
use Rattle.cells.specs.Cells.{table_fault}
use Rattle.medium.specs.Medium.{Point, Medium, Axis, x_axis, y_axis, z_axis, on_point, each, bounds_fault}
use Rattle.index.specs.Cells.{cells_on}
use Rattle.float.specs.Saturated.{clamp_z, saturated}
use Rattle.rays.specs.Ray.{Track, State}

-- a ray as it is asked for
pub record Beam : Type 0 where
  pub origin : Point
  pub direction : Point
  pub t_min : Float
  pub t_max : Float

abbrev pub all_finite : Point → Bool
all_finite p = finite p.x && finite p.y && finite p.z

-- +0 or -0 on each axis
abbrev pub all_zero : Point → Bool
all_zero p = eq p.x +0 && eq p.y +0 && eq p.z +0

-- 22: something that is not finite, or no direction
abbrev pub beam_fault : Beam → ℕ
beam_fault b = unless (all_finite b.origin && all_finite b.direction && finite b.t_min && finite b.t_max && not (all_zero b.direction)) 22

-- ---- one axis

-- -0 counts as +0
abbrev pub plain : Float → Float
plain d = cond (eq d +0) +0 d

-- without its sign
abbrev pub magnitude : Float → Float
magnitude nan = nan
magnitude (inf s) = inf false
magnitude (fin s m e) = fin false m e

-- a number of cells
abbrev pub count : ℕ → Float
count n = of_int binary32 (pos n)

-- the cell of n in which the position p lies, where 0 is the low face and 1 the high one
unfoldable pub cell_at : Float → ℕ → ℤ
cell_at p n = clamp_z (pos 0) (pos (n - 1)) (saturated (mul binary32 p (count n)))

-- from the position p in the direction d at t, through n cells. A ray crosses the high face of its cell, or the low one where d is negative.
unfoldable pub track_from : Float → Float → Float → ℕ → Track
track_from p d t n =
    let forward = le +0 d in
    let cell = cell_at p n in
    let face = div binary32 (of_int binary32 (cond forward (cell +ℤ pos 1) cell)) (count n) in
    record {
      next = add binary32 t (div binary32 (sub binary32 face p) d);
      delta = div binary32 (count 1) (mul binary32 (magnitude d) (count n));
      step = cond forward (pos 1) (negsuc 0);
      cell = cell;
      cells = n;
    }

-- from the world: the box from low to high, the origin o and the direction d, each step rounded
unfoldable pub track_on : Float → Float → Float → Float → Float → ℕ → Track
track_on low high o d t n =
    let width = sub binary32 high low in
    let along = plain (div binary32 d width) in
    track_from (add binary32 (div binary32 (sub binary32 o low) width) (mul binary32 t along)) along t n

-- ---- the three

abbrev pub track_of : Medium → Beam → Axis → Track
track_of m b a = track_on (on_point a m.low) (on_point a m.high) (on_point a b.origin) (on_point a b.direction) b.t_min (cells_on m.cells a)

abbrev pub start_of : Medium → Beam → State
start_of m b = record { t_min = b.t_min; t_max = b.t_max; x = track_of m b x_axis; y = track_of m b y_axis; z = track_of m b z_axis }

-- l is the table's length. 23, 18, 4, 22, in this order.
unfoldable pub open_ray : Medium → Beam → ℕ → Result State
open_ray m b l = passing (table_fault m.cells l then each (bounds_fault m) then beam_fault b) (ok (start_of m b))
