-- One count grows.
use Rattle.majorant.proofs.Tallies.{more_roots}
use Rattle.majorant.proofs.node_max.TallyCount.roots.Goals as goal

pub returns : goal.returns
returns c w = more_roots w c.args.n
