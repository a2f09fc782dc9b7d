-- Worked examples: two roots that change places; their blocks alone in another order; and what a repeated block does.
use Rattle.std.specs.Prelude.{◌≡◌, List, [], ◌∷◌, ℤ, pos, negsuc, refl, Float}
use mathlib.Core.List.Permᴰ
use Rattle.std.specs.Float.{binary32}
use Rattle.std.specs.Float.Ieee.{of_bits}
use Rattle.refusals.specs.Faults.{first_fault}
use Rattle.layout.specs.Coordinates.{Coord}
use Rattle.layout.specs.Walk.{of_root}
use Rattle.sparse_grid.specs.Tables.{Grid, grid_of}
use Rattle.sparse_grid.specs.Validate.{pair_fault, shape_fault, earlier, root_fault, validate}
use Rattle.sparse_grid.specs.Lookup.{value, roots_from, lookup}
use Rattle.sparse_grid.specs.Answers.{at}
use Rattle.sparse_grid.specs.Roots.{blocks_of, links_of, values_of, rooted, records_from, records_of, Reordered}
use Rattle.sparse_grid.proofs.Permuted.{reordered_valid, reordered_lookup}

half : Float
half = of_bits binary32 0x3f00_0000

two : Float
two = of_bits binary32 0x4000_0000

-- two root tiles and no nodes
abbrev tiles : List ℤ → Float → Float → Grid
tiles blocks v w = grid_of (of_bits binary32 0) blocks (0 ∷ 0 ∷ []) (v ∷ w ∷ []) [] [] [] [] []

-- 0.5 in block (-1, 0, 0) as in the 832-byte sample, and 2 in block (0, 0, 0)
pub two_roots : Grid
two_roots = tiles (negsuc 0 ∷ pos 0 ∷ pos 0 ∷ pos 0 ∷ pos 0 ∷ pos 0 ∷ []) half two

pub roots_swapped : Grid
roots_swapped = tiles (pos 0 ∷ pos 0 ∷ pos 0 ∷ negsuc 0 ∷ pos 0 ∷ pos 0 ∷ []) two half

pub two_valid : validate two_roots ≡ 0
unfolding two_roots half two validate pair_fault shape_fault first_fault root_fault earlier of_bits
two_valid = refl

pub swapped : Reordered two_roots roots_swapped
unfolding two_roots roots_swapped rooted blocks_of links_of values_of records_of records_from
swapped = record { records = _ ∷ _ ∷ []; permuted = Permᴰ.swap refl refl; is = refl }

-- so the other order is valid, and reads the same everywhere
swapped_valid : validate roots_swapped ≡ 0
swapped_valid = reordered_valid two_roots roots_swapped swapped two_valid

swapped_lookup : (c : Coord) → lookup roots_swapped c ≡ lookup two_roots c
swapped_lookup = reordered_lookup two_roots roots_swapped swapped two_valid

-- ---- what the law does not say

abbrev corner : Coord
corner = at (negsuc 0) (pos 0) (pos 0)

before : lookup two_roots corner ≡ value half of_root
unfolding two_roots lookup pair_fault roots_from
before = refl

-- blocks alone in another order: 2 is read where 0.5 was
blocks_alone : lookup (tiles (pos 0 ∷ pos 0 ∷ pos 0 ∷ negsuc 0 ∷ pos 0 ∷ pos 0 ∷ []) half two) corner ≡ value two of_root
unfolding lookup pair_fault roots_from
blocks_alone = refl

-- a repeated block is not valid (11), and there the order of the roots is seen
abbrev repeated : Float → Float → Grid
repeated = tiles (negsuc 0 ∷ pos 0 ∷ pos 0 ∷ negsuc 0 ∷ pos 0 ∷ pos 0 ∷ [])

repeated_refused : validate (repeated half two) ≡ 11
unfolding half two validate pair_fault shape_fault first_fault root_fault earlier of_bits
repeated_refused = refl

first_found : (lookup (repeated half two) corner ≡ value half of_root) × (lookup (repeated two half) corner ≡ value two of_root)
unfolding lookup pair_fault roots_from
first_found = (refl, refl)
