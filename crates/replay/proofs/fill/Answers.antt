-- Each turn puts the next place's word.
use Rattle.std.proofs.Common.{rules}
use Rattle.replay.proofs.Filling.{goes_on}
use Rattle.replay.proofs.fill.Goals as goal

pub loop-preserved : goal.loop-preserved
loop-preserved g c =
    let read = c.in_ok-placed.ensures in
    goes_on (λ rest. g.T.Word.word rest 4) c.args.n c.loop.counter _ _ _ c.args.table.now c.loop.table _ _ _
    c.loop-test.true read.rest read.at read.value (search rules) c.loop.invariant
