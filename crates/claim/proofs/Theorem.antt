-- The one claim, proved over the definitions that the contracts cite. Assumes nothing.
use Rattle.std.proofs.Common.{ap}
use Rattle.sparse_grid.specs.Lookup.{value_in}
use Rattle.nanovdb.proofs.Lookups.{lookups, reads}
use Rattle.claim.specs.Claim.{Demand3}
use Rattle.claim.proofs.Points.{holds}

pub demand3 : Demand3
demand3 b bytes p t accepted = holds b p t accepted (lookups b bytes p t accepted) (λ c small. ap value_in (reads b bytes p t accepted c small).0)
