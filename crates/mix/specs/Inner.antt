-- What only the contracts of private functions cite: the voxels on either side of a position on one axis, and the mix of what is read there.
use Rattle.std.specs.Prelude.{ℤ, Float, Result as Answer}
use Rattle.refusals.specs.Results.{Result, ok, bind}
use Rattle.refusals.specs.declared.Refusal.{Refusal}
use Rattle.layout.specs.Coordinates.{Coord}
use Rattle.sparse_grid.specs.declared.lookup.Spot.{Spot}
use Rattle.sparse_grid.specs.Tables.{Grid}
use Rattle.sparse_grid.specs.Lookup.{value_in}
use Rattle.sparse_grid.specs.Answers.{at}
use Rattle.sparse_grid.specs.Ends.{found_by}
use Rattle.index.specs.Cells.{Ends}
use Rattle.index.specs.Sides.{sides_of}
use Rattle.mix.specs.declared.point.Side.{Side}
use Rattle.mix.specs.Mix.{lerp, part}

-- the ends on an axis, and the part of the way between them
pub record Sided : Type 0 where
  pub ends : Ends
  pub t : Float

-- what the code's record stands for
abbrev pub ends_in : Side → Ends
ends_in s = record { lo = s.lo; hi = s.hi }

abbrev pub as_sided : Side → Sided
as_sided s = record { ends = ends_in s; t = s.t }

-- the sides of a position; 16 where one lies outside i32
unfoldable pub sided_at : Float → Result Sided
sided_at p = bind (sides_of p) (λ (e : Ends). ok (record { ends = e; t = part p }))

-- what is read at a coordinate from where a lookup ended, and +0 where it was refused
abbrev pub read_from : Grid → Answer Spot Refusal → Coord → Float
read_from g s c = value_in (found_by g s c)

-- along z at x and y, along y at x, and along x
abbrev pub on_z : (Coord → Float) → ℤ → ℤ → Side → Float
on_z read x y k = lerp (read (at x y k.lo)) (read (at x y k.hi)) k.t

abbrev pub on_y : (Coord → Float) → ℤ → Side → Side → Float
on_y read x j k = lerp (on_z read x j.lo k) (on_z read x j.hi k) j.t

abbrev pub on_x : (Coord → Float) → Side → Side → Side → Float
on_x read i j k = lerp (on_y read i.lo j k) (on_y read i.hi j k) i.t
