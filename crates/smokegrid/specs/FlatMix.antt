-- The density between voxels with a medium in a flat array, as C hands it over.
use Rattle.std.specs.Prelude.{List, eqb, pos, length, replicate, Float}
use Rattle.refusals.specs.Results.{Result}
use Rattle.refusals.specs.Faults.{unless, passing}
use Rattle.sparse_grid.specs.Tables.{Grid}
use Rattle.medium.specs.Medium.{Point}
use Rattle.mix.specs.Density.{density_at}
use Rattle.smokegrid.specs.Flat.{medium_from}

-- 18 for a medium of another length, before anything else; corners and cells play no part
unfoldable pub mix_flat : Grid → List Float → Point → Result Float
mix_flat g m p = passing (unless (eqb (length m) 18) 18) (density_at g (medium_from m (replicate 6 (pos 0)) (replicate 3 0)) p)
