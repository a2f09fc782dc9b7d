-- The density between voxels over what the contracts of the C interface say: a decode and a build that answer 0, and then a density at a
-- point of the world box, of the grid and the medium as the decode left them.
use Rattle.std.specs.Prelude.{ℕ, ◌<◌, ◌≡◌, List, ℤ, T, get_or, Float}
use Rattle.std.specs.Float.Ieee.{le}
use Rattle.refusals.specs.Results.{ok}
use Rattle.float.specs.Zero.{+0}
use Rattle.layout.specs.Bytes.{Bytes}
use Rattle.layout.specs.Walk.{voxel}
use Rattle.cells.specs.Cells.{Cells, cell_count}
use Rattle.medium.specs.Medium.{Point}
use Rattle.medium.specs.Record.{cells_of}
use Rattle.nanovdb.specs.Decode.{medium_of}
use Rattle.nanovdb.specs.Lent.{Lent}
use Rattle.mix.specs.Density.{density_by}
use Rattle.mix.specs.Bounded.{ceiling, Mixed}
use Rattle.claim.specs.Claim.{Encloses, Inside}
use Rattle.smokegrid.specs.Flat.{Arrays}
use Rattle.smokegrid.specs.Promises.{Left, Decodes, Builds, MixesAt}
use Rattle.smokegrid_claim.specs.ThroughC.{used}

-- what smokegrid_mix answered at a point, beside a table of n cells
pub record MixKept (b : List ℕ) (n : Cells) (table : List Float) (p : Point) (number : ℕ) (value : Float) : Type 0 where
  -- it is not refused
  pub number_is : number ≡ 0
  -- it is the mix of the eight voxels that the walk of the bytes reads
  pub walked : density_by (voxel b) (medium_of b) p ≡ ok value
  -- and finite, not negative, and at most the figure times (1 + 2 ^ -20) plus 2 ^ -140, where a cell around the point has at most 2 ^ 126
  pub bounded : (k : ℕ) → k < cell_count n → Encloses b n k p → T (le (get_or table k +0) ceiling) → Mixed (get_or table k +0) value

abbrev pub MixThroughC : Type 0
MixThroughC = (b : List ℕ) → Bytes b → (lent : Lent) (arrays : Arrays) (number : ℕ) (left : Left) → Decodes b lent arrays number left → number ≡ 0
    → (corners : List ℤ) (cells : List ℕ) (places built : ℕ) (table : List Float)
    → Builds (used left) left.medium corners cells places built table → built ≡ 0
    → (p : Point) → Inside b p → (answer : ℕ) (value : Float) → MixesAt (used left) left.medium p answer value
    → MixKept b (cells_of cells) table p answer value
