-- One figure more.
use Rattle.std.proofs.Common.{length, ◌+◌, ◌<◌, arith, length-set}
use Rattle.std.specs.Float.{nan}
use Rattle.window.proofs.Steps.{paste_more}
use Rattle.window.proofs.store.Goals as goal

pub loop-i-preserved : goal.loop-i-preserved
loop-i-preserved c =
    let room : c.args.at + c.loop-i.i < length c.args.memory.now = omega arith in (
      simp length-set c.loop-i.invariant.0,
      paste_more c.args.memory.now c.args.at c.args.table.now c.loop-i.memory c.loop-i.i nan c.loop-i.invariant.1 room c.loop-i-test.true,
    )
