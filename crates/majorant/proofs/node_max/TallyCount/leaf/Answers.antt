-- A sum that falls below what was added has begun again.
use Rattle.majorant.proofs.Tallies.{more_leaves, same_high}
use Rattle.majorant.proofs.node_max.TallyCount.leaf.Goals as goal

pub returns-then-self-size : goal.returns-then-self-size
returns-then-self-size c w = more_leaves w c.size-size.result c.size-size.ensures c.size-size.type_inv c.if-self-size.true

pub returns-else-self-size : goal.returns-else-self-size
returns-else-self-size c w = same_high w c.size-size.result c.size-size.ensures c.size-size.type_inv c.if-self-size.false
