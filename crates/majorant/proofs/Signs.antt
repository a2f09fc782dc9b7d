-- What a callee is handed of a block in range, or of the ends of a box. Assumes nothing.
use Rattle.std.proofs.Common.{◌≡◌, ◌^◌, ◌<◌, true, ℤ, pos, negsuc, arith, w32, SFits, to_z, of_z}
use lib.Signed.{mag, le_z}
use Rattle.sparse_grid.specs.Validate.{block_in}
use Rattle.sparse_grid.proofs.Signs.{low, high, both, seen}
use Rattle.boxes.specs.Boxes.{Box, between}

-- a number as a callee is handed it
abbrev pub handed_on : ℤ → ℤ
handed_on z = to_z w32 (of_z w32 z)

block_fits : (z : ℤ) → block_in z ≡ true → SFits w32 z
block_fits (pos k) h = record { sfits = let l = high k (both true (le_z (pos k) (pos 524287)) h).1 in omega arith }
block_fits (negsuc k) h = record { sfits = let l = low k (both (le_z (negsuc 524287) (negsuc k)) true h).0 in omega arith }

-- what a callee is handed of a block is in range too, and raised to the same number
pub handed : (z : ℤ) → block_in z ≡ true → handed_on z ≡ z
handed z h = seen (block_fits z h)

-- ---- the ends of a box
pub record Small (b : Box) : Type 0 where
  pub lx : mag b.lo.x < 2 ^ 31
  pub ly : mag b.lo.y < 2 ^ 31
  pub lz : mag b.lo.z < 2 ^ 31
  pub hx : mag b.hi.x < 2 ^ 31
  pub hy : mag b.hi.y < 2 ^ 31
  pub hz : mag b.hi.z < 2 ^ 31

pub given : (z : ℤ) → mag z < 2 ^ 31 → handed_on z ≡ z
given z h = seen (record { sfits = h })

pub box_handed : (b : Box) → Small b
    → between (handed_on b.lo.x) (handed_on b.lo.y) (handed_on b.lo.z) (handed_on b.hi.x) (handed_on b.hi.y) (handed_on b.hi.z) ≡ b
box_handed b s = λ i.
    between (given b.lo.x s.lx i) (given b.lo.y s.ly i) (given b.lo.z s.lz i)
    (given b.hi.x s.hx i) (given b.hi.y s.hy i) (given b.hi.z s.hz i)
