-- The tests that follow the tree, joined, are those of the definition. Assumes nothing.
use mathlib.Core.Path.{◌≡◌, ap, ◌∙◌}
use mathlib.Core.List.{List}
use Prim.Native.Nat.{ℕ}
use lib.Ieee.{Float}
use Rattle.refusals.specs.Faults.{◌then◌}
use Rattle.sparse_grid.specs.Tables.{Grid, grid_of}
use Rattle.sparse_grid.specs.Validate.{validate}
use Rattle.layout.specs.Coordinates.{Coord}
use Rattle.medium.specs.Medium.{Medium, Point, make_medium, each, index_fault, map_fault}
use Rattle.decode.specs.Inner.World.{SameFrame}
use Rattle.nanovdb.specs.Decode.{Accepted, tree_fault}

-- the grid of t with this background
abbrev pub over : Accepted → Float → Grid
over t x = let g = t.grid in
    grid_of x g.blocks g.root_links g.root_values g.upper_links g.upper_values g.lower_links g.lower_values g.leaf_values

-- the tests of the values, the map and the index box, joined
pub tested : (t : Accepted) {background : Float} {m : Medium} {v k i g f : ℕ} → background ≡ t.grid.background → SameFrame m t.medium
    → v ≡ validate (over t background) → k ≡ map_fault m → i ≡ each (index_fault m) → g ≡ (k then i) → f ≡ (v then g) → f ≡ tree_fault t
unfolding tree_fault map_fault index_fault
tested t {m = m} {k = k} {i} is are valid map index later all =
    let framed : Coord → Coord → List Float → Point → Medium = λ l h p q. make_medium m.low m.high l h p q m.cells in
    let mapped : k ≡ map_fault t.medium = map ∙ λ j. map_fault (framed m.index_low m.index_high (are.map j) (are.translation j)) in
    let indexed : i ≡ each (index_fault t.medium) =
    index ∙ λ j. each (index_fault (framed (are.index_low j) (are.index_high j) m.map m.translation)) in
    all ∙ (λ j. (valid ∙ ap (λ (x : Float). validate (over t x)) is) j then (later ∙ (λ j. mapped j then indexed j)) j)
