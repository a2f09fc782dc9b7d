-- Worked examples: the most at some sides, a tile, an empty box, and children that roots share.
use Rattle.std.proofs.Common.{arith, ◌∙◌, inl}
use Rattle.std.specs.Prelude.{◌≡◌, refl, pos, negsuc}
use Rattle.sparse_grid.specs.Biased.{raised}
use Rattle.sparse_grid.specs.Count.{sum}
use Rattle.boxes.specs.Boxes.{Box, between}
use Rattle.walk.specs.Walk.{
  meets,
  steps,
  R,
  U,
  L,
  most_read,
  zone_of,
  roots_only,
  uppers_only,
  lowers_only,
  leaves_only,
  roots_read,
  uppers_read,
  lowers_read,
  leaves_read,
}
use Rattle.walk.proofs.NodeWalk.{empty_steps}
use Rattle.walk.proofs.Shared.{shared_grid}
use Rattle.walk.proofs.Reached.{around, as_dear}
use Rattle.walk.proofs.ClassExamples.{tile_grid}

-- one coordinate meets one cell of each kind, two may meet two on each axis, and 4,096 two roots, 33 upper entries and 513 lower ones
sides : (most_read 1 ≡ 4) × (most_read 2 ≡ 32) × (most_read 8 ≡ 536) × (R 4096 ≡ 2) × (U 4096 ≡ 33) × (L 4096 ≡ 513) ×
    (most_read 4096 ≡ 68854518378)
sides = (refl, refl, refl, refl, refl, refl, refl)

-- a box of 8 a side in a root that is a tile: its entry, and nothing below it
abbrev in_tile : Box
in_tile = between (negsuc 7) (pos 0) (pos 0) (negsuc 0) (pos 7) (pos 7)

tile_read_lem : (roots_read tile_grid in_tile ≡ 1) × (uppers_read tile_grid in_tile ≡ 0) × (lowers_read tile_grid in_tile ≡ 0) ×
    (leaves_read tile_grid in_tile ≡ 0)
unfolding steps sum meets raised tile_grid
tile_read_lem = (refl, refl, refl, refl)

-- next to it: no root meets the box, and the background is no entry
abbrev beside : Box
beside = between (pos 0) (pos 0) (pos 0) (pos 7) (pos 7) (pos 7)

none_read : roots_read tile_grid beside ≡ 0
unfolding steps sum meets raised tile_grid
none_read = refl

-- low above high on x
abbrev hollow : Box
hollow = between (pos 9) (pos 0) (pos 0) (pos 8) (pos 7) (pos 7)

hollow_read : (roots_read shared_grid hollow ≡ 0) × (leaves_read shared_grid hollow ≡ 0)
hollow_read = (
  empty_steps roots_only shared_grid (zone_of hollow) (inl (omega arith)),
  empty_steps leaves_only shared_grid (zone_of hollow) (inl (omega arith)),
)

-- eight roots that share one upper node, one lower node and one leaf: the cube from (-1, -1, -1) to (0, 0, 0) reads an entry of each node on every path
shared_read : (roots_read shared_grid (around 2) ≡ 8) × (uppers_read shared_grid (around 2) ≡ 8) × (lowers_read shared_grid (around 2) ≡ 8)
    × (leaves_read shared_grid (around 2) ≡ 8)
shared_read = (
  as_dear 2 (omega arith) (omega arith) roots_only,
  as_dear 2 (omega arith) (omega arith) uppers_only,
  as_dear 2 (omega arith) (omega arith) lowers_only,
  as_dear 2 (omega arith) (omega arith) leaves_only,
)
