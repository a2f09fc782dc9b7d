-- The build on small examples: one that is accepted, one that is refused by 17, one by 4, and a thin world box whose corners rounding swaps. Each is computed.
use Rattle.std.specs.Prelude.{◌≡◌, ℕ, true, false, [], ◌∷◌, ℤ, pos, negsuc, refl, Float}
use Rattle.std.specs.Float.{fin, binary32}
use Rattle.std.specs.Float.Ieee.{add, sub, mul, div, lt, le, eq, of_int, to_signed, of_bits}
use Rattle.float.specs.Fused as F
use Rattle.medium.specs.Medium.{x_axis}
use Rattle.layout.specs.Coordinates.{Coord}
use Rattle.sparse_grid.specs.Tables.{Grid}
use Rattle.sparse_grid.specs.Validate.{validate, density_fault}
use Rattle.sparse_grid.specs.Lookup.{lookup}
use Rattle.medium.specs.Medium.{Point, Medium, make_medium, bounds_fault, index_fault, map_fault}
use Rattle.cells.specs.Cells.{Cells, cells, cells_fault, table_fault}
use Rattle.index.specs.Cells.{corner, first_ends, second_ends}
use Rattle.majorant.specs.Figures.{figure, figures}
use Rattle.index.specs.Index.{world_to_index, majorant_index}
use Rattle.boxes.specs.Boxes.{box_maximum}
use Rattle.majorant.specs.Build.{build, build_into}
use Rattle.float.specs.Zero.{+0}
use Rattle.float.specs.Coordinate.{coordinate}
use Rattle.refusals.specs.Results.{ok, refused}

abbrev whole : ℕ → Float
whole n = fin false n (pos 0)

abbrev half : Float
half = fin false 1 (negsuc 0)

abbrev at : Float → Point
at v = record { x = v; y = v; z = v }

abbrev here : ℤ → Coord
here v = record { x = v; y = v; z = v }

-- no roots, background 1 / 2
abbrev smoke : Grid
smoke =
    record {
      background = half;
      blocks = [];
      root_links = [];
      root_values = [];
      upper_links = [];
      upper_values = [];
      lower_links = [];
      lower_values = [];
      leaf_values = [];
    }

-- a medium with the corners of a world box and of an index box, the map that changes nothing, and n cells
abbrev medium_of : Point → Point → Coord → Coord → Cells → Medium
medium_of low high first last n = make_medium low high first last (whole 1 ∷ +0 ∷ +0 ∷ +0 ∷ whole 1 ∷ +0 ∷ +0 ∷ +0 ∷ whole 1 ∷ []) (at +0) n

abbrev box : Cells → Medium
box n = medium_of (at +0) (at (whole 1)) (here (pos 0)) (here (pos 3)) n

-- two cells on one axis
abbrev two : Cells
two = cells 2 1 1

accepted : build smoke (box two) ≡ ok (half ∷ half ∷ [])
unfolding build validate density_fault bounds_fault index_fault map_fault figures figure first_ends second_ends coordinate majorant_index world_to_index
    corner box_maximum lookup F.trunc F.floor F.fma F.plus F.narrow add sub mul div lt le eq of_int to_signed
accepted = refl

-- a table of another length than the cells
too_long : build_into smoke (box two) 3 ≡ refused 18
unfolding build_into table_fault cells_fault
too_long = refl

-- 23 comes before 18, for each number: none, and 129 on each axis; 128 passes it
no_cells : build_into smoke (box (cells 0 1 1)) 3 ≡ refused 23
unfolding build_into table_fault cells_fault
no_cells = refl

many_x : build_into smoke (box (cells 129 1 1)) 129 ≡ refused 23
unfolding build_into table_fault cells_fault
many_x = refl

many_y : build_into smoke (box (cells 1 129 1)) 129 ≡ refused 23
unfolding build_into table_fault cells_fault
many_y = refl

many_z : build_into smoke (box (cells 1 1 129)) 129 ≡ refused 23
unfolding build_into table_fault cells_fault
many_z = refl

most : build_into smoke (box (cells 128 128 128)) 2097151 ≡ refused 18
unfolding build_into table_fault cells_fault
most = refl

-- an index box that the cells miss: the first box is empty, the second is not
abbrev aside : Medium
aside = medium_of (at +0) (at (whole 1)) (here (pos 5)) (here (pos 7)) two

missed : build smoke aside ≡ refused 17
unfolding build validate density_fault bounds_fault index_fault map_fault figures figure first_ends second_ends coordinate majorant_index world_to_index
    corner box_maximum lookup F.trunc F.floor F.fma F.plus F.narrow add sub mul div lt le eq of_int to_signed
missed = refl

-- a zero width
abbrev flat : Medium
flat = medium_of (at +0) (at +0) (here (pos 0)) (here (pos 3)) two

no_width : build smoke flat ≡ refused 4
unfolding build validate density_fault bounds_fault index_fault map_fault figures figure first_ends second_ends coordinate majorant_index world_to_index
    corner box_maximum lookup F.trunc F.floor F.fma F.plus F.narrow add sub mul div lt le eq of_int to_signed
no_width = refl

-- a thin world box: corner 63 lies below corner 62, so corners do not rise with k, and cell 62 encloses nothing
abbrev thin : Medium
thin = medium_of (at (of_bits binary32 1068668056)) (at (of_bits binary32 1068668065)) (here (pos 0)) (here (pos 3)) (cells 64 64 64)

swapped : lt (corner thin x_axis 64 63) (corner thin x_axis 64 62) ≡ true
unfolding corner add sub mul div lt of_int of_bits
swapped = refl
