-- One count grows.
use Rattle.majorant.proofs.Tallies.{more_lowers}
use Rattle.majorant.proofs.node_max.TallyCount.lower.Goals as goal

pub returns : goal.returns
returns c w = more_lowers w 1
