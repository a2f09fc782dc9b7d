-- Worked example: the grid of document 01, with one tile 0.5 at block (-1, 0, 0), limits 0.25 and 0.75 and its index box: 0, 512, 0 and total 512.
use Rattle.std.specs.Prelude.{ℕ, ◌*◌, ◌/◌, ◌≡◌, refl, Bool, true, cond, List, [], ◌∷◌, eqb, pos, negsuc, Float}
use Rattle.std.proofs.Common.{arith, ap, ◌∙◌}
use Rattle.std.specs.Float.{binary32}
use Rattle.std.specs.Float.Ieee.{of_bits, lt}
use Rattle.float.specs.Zero.{+0}
use Rattle.layout.specs.Coordinates.{Signed32, block_of, same_block}
use Rattle.layout.specs.Walk.{of_root, of_background}
use Rattle.sparse_grid.specs.Tables.{Grid, grid_of, block_at}
use Rattle.sparse_grid.specs.Validate.{pair_fault}
use Rattle.sparse_grid.specs.Lookup.{read_in, lookup, roots_from, value, value_in}
use Rattle.sparse_grid.specs.Biased.{back, place}
use Rattle.sparse_grid.specs.BiasedLaws.{shr_4096}
use Rattle.sparse_grid.specs.Count.{bit}
use Rattle.boxes.specs.Boxes.{Box, between}
use Rattle.boxes.specs.RangeMax.{read_at, corner}
use Rattle.walk.specs.Walk.{zone_of}
use Rattle.walk.specs.Classes.{class, class_count, class_total}
use Rattle.walk.proofs.ClassLaws.{total_size}
use Rattle.walk.specs.Gather.{At, tally_flat}
use Rattle.walk.proofs.Placed.{class_tally}

abbrev half : Float
half = of_bits binary32 0x3f00_0000

abbrev limits : List Float
limits = of_bits binary32 0x3e80_0000 ∷ of_bits binary32 0x3f40_0000 ∷ []

unfoldable pub tile_grid : Grid
tile_grid = grid_of +0 (negsuc 0 ∷ pos 0 ∷ pos 0 ∷ []) (0 ∷ []) (half ∷ []) [] [] [] [] []

abbrev tile_box : Box
tile_box = between (negsuc 7) (pos 0) (pos 0) (negsuc 0) (pos 7) (pos 7)

middling : class limits half ≡ 1
unfolding lt of_bits
middling = refl

in_tile_lem : (x y z : ℕ) → At (zone_of tile_box) x y z → same_block (block_at tile_grid 0) (block_of (place x y z)) ≡ true
unfolding tile_grid back
in_tile_lem x y z s =
    let px : x / 4096 ≡ 524287 = omega arith in let py : y / 4096 ≡ 524288 = omega arith in let pz : z / 4096 ≡ 524288 = omega arith in
    (λ i. same_block (block_at tile_grid 0) (record { x = shr_4096 x i; y = shr_4096 y i; z = shr_4096 z i }))
    ∙ (λ i. same_block (block_at tile_grid 0) (corner (px i) (py i) (pz i)))

reads : (x y z : ℕ) → At (zone_of tile_box) x y z → read_at tile_grid x y z ≡ half
unfolding read_at lookup roots_from pair_fault tile_grid
reads x y z s = ap (λ (b : Bool). value_in (cond b (value half of_root) (value +0 of_background))) (in_tile_lem x y z s)

low_ends : Signed32 tile_box.lo
low_ends = record { x = omega arith; y = omega arith; z = omega arith }

high_ends : Signed32 tile_box.hi
high_ends = record { x = omega arith; y = omega arith; z = omega arith }

counted : (k : ℕ) → class_count (read_in tile_grid) limits tile_box k ≡ 512 * bit (eqb 1 k)
counted k =
    class_tally tile_box low_ends high_ends tile_grid limits k
    ∙ tally_flat _ (zone_of tile_box) (bit (eqb 1 k))
    (λ x y z s. ap (λ (v : Float). bit (eqb (class limits v) k)) (reads x y z s) ∙ ap (λ (c : ℕ). bit (eqb c k)) middling)

pub tile_counts : (class_count (read_in tile_grid) limits tile_box 0 ≡ 0) × (class_count (read_in tile_grid) limits tile_box 1 ≡ 512) ×
    (class_count (read_in tile_grid) limits tile_box 2 ≡ 0) × (class_total (read_in tile_grid) limits tile_box ≡ 512)
tile_counts = (counted 0, counted 1, counted 2, total_size (read_in tile_grid) limits tile_box)
