-- What the code's lookups say: the level of its enum, a reading, and where a lookup ends for a cube of 8.
use Rattle.std.specs.Prelude.{Ok, Err, Result as Answer, List, Float}
use Rattle.refusals.specs.Results.{Result, ok, refused}
use Rattle.refusals.specs.Numbers.{number}
use Rattle.refusals.specs.declared.Refusal.{Refusal}
use Rattle.layout.specs.Coordinates.{Coord}
use Rattle.sparse_grid.specs.declared.lookup.Reading.{Reading}
use Rattle.sparse_grid.specs.declared.lookup.Spot.{Spot}
use Rattle.sparse_grid.specs.declared.lookup.Spot.TheVariants.{Leaf, Value}
use Rattle.sparse_grid.specs.Tables.{Grid, grid_of}
use Rattle.sparse_grid.specs.Lookup as lookup
use Rattle.sparse_grid.specs.Lookup.{Found, leaf_at}
use Rattle.sparse_grid.specs.Answers.{Spoken, level_of}

-- what a reading says: a value, and the level that spoke
abbrev pub as_spoken : Reading → Spoken
as_spoken r = record { value = r.value; level = level_of r.level }

abbrev pub spoken_by : Answer Reading Refusal → Result Spoken
spoken_by (Ok r) = ok (as_spoken r)
spoken_by (Err e) = refused (number e)

-- what a lookup gives at a coordinate from where it ends on
abbrev pub found_at : Grid → Spot → Coord → Found
found_at g (Leaf k) c = leaf_at g k c
found_at g (Value v l) c = lookup.value v (level_of l)

abbrev pub found_by : Grid → Answer Spot Refusal → Coord → Found
found_by g (Ok s) c = found_at g s c
found_by g (Err e) c = lookup.refused (number e)

-- the same grid with these leaves
abbrev pub with_leaves : Grid → List Float → Grid
with_leaves g leaves =
    grid_of g.background g.blocks g.root_links g.root_values g.upper_links g.upper_values g.lower_links g.lower_values leaves
