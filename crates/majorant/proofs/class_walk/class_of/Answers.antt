-- The loop goes on past a limit that is not above the value.
use lib.Ieee.{nan}
use Rattle.majorant.proofs.Tallying.{class_on}
use Rattle.majorant.proofs.class_walk.class_of.Goals as goal

pub loop-i-preserved : goal.loop-i-preserved
loop-i-preserved c = (class_on c.args.limits.now c.args.v c.loop-i.i nan c.loop-i.invariant c.loop-i-test.true c.if-v-limits.false).1
