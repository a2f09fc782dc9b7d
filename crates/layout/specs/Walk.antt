-- NanoVDB.h's reading of a voxel from the bytes alone.
use Rattle.std.specs.Prelude.{ℕ, zero, suc, ◌+◌, ◌-◌, ◌*◌, ◌^◌, List, cond, ℤ, pos, negsuc, eqb, Float}
use Rattle.std.specs.Float.Ieee.{of_bits}
use Rattle.std.specs.Float.{binary32}
use Rattle.layout.specs.Bytes.{u32_at, u64_at, i64_at, mask_bit}
use Rattle.layout.specs.Coordinates.{Coord, mod_z, slot, block_of}

-- which level of the tree a reading came from
pub data Level : Type 0 where
  of_leaf of_lower of_upper of_root of_background : Level

-- the 32 bits that are read, and the level that they stood at
pub record Reading : Type 0 where
  pub bits : ℕ
  pub level : Level

-- a place, moved by a signed offset; below 0 it is 0, which no accepted grid reaches
abbrev pub shift : ℕ → ℤ → ℕ
shift p (pos k) = p + k
shift p (negsuc k) = p - (k + 1)

-- the 60 bits of a block's key: three fields of 20 bits in 21 each, x highest
abbrev pub key : Coord → ℕ
key c = let k = block_of c in mod_z k.x (2 ^ 20) * 2 ^ 42 + mod_z k.y (2 ^ 20) * 2 ^ 21 + mod_z k.z (2 ^ 20)

-- below a leaf, a lower node, an upper node that stands at `at`
abbrev pub leaf_walk : List ℕ → ℕ → Coord → Reading
leaf_walk b at c = record { bits = u32_at b (at + 96 + 4 * slot 8 1 c); level = of_leaf }

abbrev pub lower_walk : List ℕ → ℕ → Coord → Reading
lower_walk b at c =
    let s = slot 16 8 c in
    cond (eqb (mask_bit b (at + 544) s) 0)
    (record { bits = u32_at b (at + 1088 + 8 * s); level = of_lower })
    (leaf_walk b (shift at (i64_at b (at + 1088 + 8 * s))) c)

abbrev pub upper_walk : List ℕ → ℕ → Coord → Reading
upper_walk b at c =
    let s = slot 32 128 c in
    cond (eqb (mask_bit b (at + 4128) s) 0)
    (record { bits = u32_at b (at + 8256 + 8 * s); level = of_upper })
    (lower_walk b (shift at (i64_at b (at + 8256 + 8 * s))) c)

-- the tile at `tile` of the root at `root`
abbrev pub tile_walk : List ℕ → ℕ → ℕ → Coord → Reading
tile_walk b root tile c =
    cond (eqb (u64_at b (tile + 8)) 0)
    (record { bits = u32_at b (tile + 20); level = of_root })
    (upper_walk b (shift root (i64_at b (tile + 8))) c)

-- the first of n tiles from `tile` on whose key is the coordinate's block
unfoldable pub tiles_walk : ℕ → List ℕ → ℕ → ℕ → Coord → Reading
tiles_walk zero b root tile c = record { bits = u32_at b (root + 28); level = of_background }
tiles_walk (suc n) b root tile c =
    let rest = tiles_walk n b root (tile + 32) c in
    cond (eqb (u64_at b tile) (key c)) (tile_walk b root tile c) rest

-- the root stands at 672 plus the u64 at 696, its tile count at 24, its tiles from 64 on
unfoldable pub walk : List ℕ → Coord → Reading
unfolding tiles_walk
walk b c = let root = 672 + u64_at b 696 in tiles_walk (u32_at b (root + 24)) b root (root + 64) c

-- the number that the walk reads
abbrev pub voxel : List ℕ → Coord → Float
voxel b c = of_bits binary32 (walk b c).bits
