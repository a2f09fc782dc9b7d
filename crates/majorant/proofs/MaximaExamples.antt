-- Worked examples of a list of boxes: a tile of 0.5 in block (-1, 0, 0) beside a background of 0.25. Each is computed.
use Rattle.std.specs.Prelude.{◌≡◌, List, [], ◌∷◌, ℤ, pos, negsuc, refl, Float}
use Rattle.std.specs.Float.{binary32}
use Rattle.std.specs.Float.Ieee.{of_bits, lt, eq}
use Rattle.refusals.specs.Results.{ok, refused}
use Rattle.refusals.specs.Faults.{first_fault}
use Rattle.float.specs.Zero.{+0}
use Rattle.sparse_grid.specs.Tables.{Grid, grid_of}
use Rattle.sparse_grid.specs.Validate.{pair_fault, shape_fault, validate}
use Rattle.sparse_grid.specs.Lookup.{lookup}
use Rattle.boxes.specs.Boxes.{box_maximum}
use Rattle.majorant.specs.Maxima.{maxima_of, maxima_into, greatest_into}

abbrev half : Float
half = of_bits binary32 0x3f000000

abbrev quarter : Float
quarter = of_bits binary32 0x3e800000

abbrev tile : Grid
tile = grid_of quarter (negsuc 0 ∷ pos 0 ∷ pos 0 ∷ []) (0 ∷ []) (half ∷ []) [] [] [] [] []

-- one voxel of the tile, one outside it, and a box whose low x is above its high one
abbrev zones : List ℤ
zones =
    negsuc 0 ∷ pos 0 ∷ pos 0 ∷ negsuc 0 ∷ pos 0 ∷ pos 0
    ∷ pos 0 ∷ pos 0 ∷ pos 0 ∷ pos 0 ∷ pos 0 ∷ pos 0
    ∷ pos 1 ∷ pos 0 ∷ pos 0 ∷ pos 0 ∷ pos 0 ∷ pos 0
    ∷ []

each : maxima_into tile zones 3 ≡ ok (half ∷ quarter ∷ +0 ∷ [])
unfolding maxima_into maxima_of validate pair_fault shape_fault first_fault box_maximum lookup of_bits lt eq
each = refl

together : greatest_into tile zones 3 ≡ ok half
unfolding greatest_into maxima_of validate pair_fault shape_fault first_fault box_maximum lookup of_bits lt eq
together = refl

-- six numbers are one box: 18 for two places
two_places : maxima_into tile (pos 0 ∷ pos 0 ∷ pos 0 ∷ pos 0 ∷ pos 0 ∷ pos 0 ∷ []) 2 ≡ refused 18
unfolding maxima_into
two_places = refl

-- an empty list is +0, and is refused with its grid: here a link past the upper nodes
none : greatest_into tile [] 0 ≡ ok +0
unfolding greatest_into maxima_of validate pair_fault shape_fault first_fault of_bits lt eq
none = refl

none_refused : greatest_into (grid_of +0 (pos 0 ∷ pos 0 ∷ pos 0 ∷ []) (1 ∷ []) (+0 ∷ []) [] [] [] [] []) [] 0 ≡ refused 11
unfolding greatest_into maxima_of validate pair_fault shape_fault first_fault of_bits lt eq
none_refused = refl

-- the length of the list comes before the grid
length_first : greatest_into (grid_of +0 [] (1 ∷ []) [] [] [] [] [] []) (pos 0 ∷ []) 1 ≡ refused 18
unfolding greatest_into
length_first = refl
