-- Coordinates of voxels: the block that one lies in, and its slot in each kind of node.
use Rattle.std.specs.Prelude.{ℕ, ◌+◌, ◌-◌, ◌*◌, ◌%◌, ◌/◌, ◌^◌, ◌<◌, Bool, false, ◌&&◌, ℤ, pos, negsuc, eqb}
use Rattle.std.specs.Int.Signed.{shr_z, mag}

pub record Coord : Type 0 where
  pub x : ℤ
  pub y : ℤ
  pub z : ℤ

-- three signed 32-bit numbers
pub record Signed32 (c : Coord) : Type 0 where
  pub x : mag c.x < 2 ^ 31
  pub y : mag c.y < 2 ^ 31
  pub z : mag c.z < 2 ^ 31

-- z modulo m, never negative
abbrev pub mod_z : ℤ → ℕ → ℕ
mod_z (pos a) m = a % m
mod_z (negsuc a) m = m - (a % m + 1)

-- the slot of a coordinate in a node whose side is n slots of d coordinates each
abbrev pub slot : ℕ → ℕ → Coord → ℕ
slot n d c = (mod_z c.x (n * d) / d * n + mod_z c.y (n * d) / d) * n + mod_z c.z (n * d) / d

-- the block of 4,096 coordinates a side that a coordinate lies in: each shifted right by 12
abbrev pub block_of : Coord → Coord
block_of c = record { x = shr_z c.x 4096; y = shr_z c.y 4096; z = shr_z c.z 4096 }

abbrev pub eq_z : ℤ → ℤ → Bool
eq_z (pos a) (pos b) = eqb a b
eq_z (pos a) (negsuc b) = false
eq_z (negsuc a) (pos b) = false
eq_z (negsuc a) (negsuc b) = eqb a b

abbrev pub same_block : Coord → Coord → Bool
same_block a b = eq_z a.x b.x && eq_z a.y b.y && eq_z a.z b.z
