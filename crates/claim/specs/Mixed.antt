-- The claim of the density between voxels, from the bytes to the figures: once a table was built of an accepted grid, each point of the
-- world box has a density, and it is bounded by the figure of each cell that encloses the point.
use Rattle.std.specs.Prelude.{ℕ, ◌<◌, ◌≡◌, List, T, get_or, Float}
use Rattle.std.specs.Float.Ieee.{le}
use Rattle.refusals.specs.Results.{ok}
use Rattle.float.specs.Zero.{+0}
use Rattle.layout.specs.Bytes.{Bytes}
use Rattle.layout.specs.Walk.{voxel}
use Rattle.sparse_grid.specs.Tables.{Grid}
use Rattle.cells.specs.Cells.{Cells, cell_count}
use Rattle.medium.specs.Medium.{Medium, Point}
use Rattle.medium.specs.Alike.{Alike}
use Rattle.nanovdb.specs.Nodes.{Places}
use Rattle.nanovdb.specs.Decode.{Accepted, decode_density, medium_of}
use Rattle.majorant.specs.Build.{build_into}
use Rattle.mix.specs.Density.{density_by, density_at}
use Rattle.mix.specs.Bounded.{ceiling, Mixed}
use Rattle.claim.specs.Claim.{Encloses, Inside}

-- g and m are the grid and the medium that the table of n cells was built of
pub record Shaded (b : List ℕ) (g : Grid) (m : Medium) (n : Cells) (figures : List Float) (p : Point) : Type 0 where
  pub density : Float
  -- the density is not refused, by whatever medium of the same corners, map and translation it is asked for
  pub answered : (k : Medium) → Alike m k → density_at g k p ≡ ok density
  -- it is the mix of the eight voxels that the walk of the bytes reads
  pub walked : density_by (voxel b) (medium_of b) p ≡ ok density
  -- wherever a cell that encloses the point has a figure of at most 2 ^ 126, the density is finite, not negative, and at most that figure
  -- times (1 + 2 ^ -20) plus 2 ^ -140
  pub bounded : (k : ℕ) → k < cell_count n → Encloses b n k p → T (le (get_or figures k +0) ceiling) → Mixed (get_or figures k +0) density

abbrev pub DemandA7 : Type 0
DemandA7 = (b : List ℕ) → Bytes b → (q : Places) (t : Accepted) → decode_density b q ≡ ok t
    → (m : Medium) → Alike t.medium m → (places : ℕ) (l : List Float) → build_into t.grid m places ≡ ok l
    → (p : Point) → Inside b p → Shaded b t.grid m m.cells l p
