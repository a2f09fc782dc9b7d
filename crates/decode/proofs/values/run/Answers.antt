-- One value more, up to the last.
use Rattle.std.proofs.Common.{arith}
use Rattle.decode.specs.Inner.Stored.{stored_none}
use Rattle.decode.proofs.nodes.Runs.{stored_next, stored_to}
use Rattle.decode.proofs.values.run.Goals as goal

pub loop-i-init : goal.loop-i-init
loop-i-init c = stored_none

pub loop-i-preserved : goal.loop-i-preserved
loop-i-preserved c = stored_next c.value_at.ensures c.loop-i.invariant

pub returns : goal.returns
returns c = stored_to (omega arith) c.loop-i.invariant
