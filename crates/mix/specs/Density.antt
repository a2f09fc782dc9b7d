-- The density between voxels at a world point: validate, 15, 4, 13, 24 and 16 in this order, and then the mix of the eight voxels around it.
-- The voxels are what a reader gives: a lookup of the tables, or the walk of the bytes.
use Rattle.std.specs.Prelude.{ℕ, zero, suc, ◌+◌, ◌*◌, List, [], ◌∷◌, ◌++◌, Bool, ◌&&◌, cond, eqb, length, get_or, Float}
use Rattle.std.specs.Float.{nan}
use Rattle.std.specs.Float.Ieee.{le}
use Rattle.refusals.specs.Results.{Result, ok, bind}
use Rattle.refusals.specs.Faults.{◌then◌, unless, passing}
use Rattle.layout.specs.Coordinates.{Coord}
use Rattle.sparse_grid.specs.Tables.{Grid}
use Rattle.sparse_grid.specs.Validate.{validate, density_fault}
use Rattle.sparse_grid.specs.Lookup.{read_in}
use Rattle.medium.specs.Medium.{Point, Medium, Axis, x_axis, y_axis, z_axis, on_point, bounds_fault, map_fault, each}
use Rattle.index.specs.Cells.{Ends}
use Rattle.index.specs.Index.{world_to_index}
use Rattle.index.specs.Sides.{sides_of}
use Rattle.mix.specs.Mix.{mix, part}

-- 24: the point lies outside the world box on an axis, or is a NaN there
abbrev pub outside_fault : Medium → Point → Axis → ℕ
outside_fault m p a = unless (le (on_point a m.low) (on_point a p) && le (on_point a p) (on_point a m.high)) 24

-- one of eight coordinates: the lower end of an axis with `false`, the higher with `true`
abbrev pub corner_of : Ends → Ends → Ends → Bool → Bool → Bool → Coord
corner_of i j k x y z = record { x = cond x i.hi i.lo; y = cond y j.hi j.lo; z = cond z k.hi k.lo }

-- the mix of what is read between these ends
unfoldable pub mix_between : (Coord → Float) → Medium → Point → Ends → Ends → Ends → Float
mix_between read m p i j k =
    mix (λ x y z. read (corner_of i j k x y z))
    (part (world_to_index m p x_axis)) (part (world_to_index m p y_axis)) (part (world_to_index m p z_axis))

-- 24, then 16 where one of the eight voxels lies outside i32
unfoldable pub density_by : (Coord → Float) → Medium → Point → Result Float
density_by read m p =
    passing (each (outside_fault m p))
    (bind (sides_of (world_to_index m p x_axis)) (λ (i : Ends).
    bind (sides_of (world_to_index m p y_axis)) (λ (j : Ends).
    bind (sides_of (world_to_index m p z_axis)) (λ (k : Ends).
    ok (mix_between read m p i j k)))))

-- what is tested of the grid and the medium. The index box, 14, plays no part
abbrev pub mix_fault : Grid → Medium → ℕ
mix_fault g m = validate g then density_fault g then each (bounds_fault m) then map_fault m

unfoldable pub density_at : Grid → Medium → Point → Result Float
density_at g m p = passing (mix_fault g m) (density_by (read_in g) m p)

-- ---- a list of points, three numbers each

abbrev pub point_at : List Float → ℕ → Point
point_at points i = record { x = get_or points (3 * i) nan; y = get_or points (3 * i + 1) nan; z = get_or points (3 * i + 2) nan }

-- the densities of the first n points in order, or the refusal of the first that has one
unfoldable pub densities_of : (Point → Result Float) → List Float → ℕ → Result (List Float)
densities_of density points zero = ok []
densities_of density points (suc n) =
    bind (densities_of density points n) (λ (l : List Float). bind (density (point_at points n)) (λ (v : Float). ok (l ++ (v ∷ []))))

-- into so many places: 18 for a list that is not three to a place, then the grid and the medium, once for the list and for an empty one too
unfoldable pub densities_into : Grid → Medium → List Float → ℕ → Result (List Float)
densities_into g m points places =
    passing (unless (eqb (length points) (3 * places)) 18 then mix_fault g m) (densities_of (density_by (read_in g) m) points places)
