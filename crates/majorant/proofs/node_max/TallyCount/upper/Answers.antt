-- One count grows.
use Rattle.majorant.proofs.Tallies.{more_uppers}
use Rattle.majorant.proofs.node_max.TallyCount.upper.Goals as goal

pub returns : goal.returns
returns c w = more_uppers w 1
