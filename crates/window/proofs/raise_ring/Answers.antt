use Rattle.std.proofs.Common.{arith}
use Rattle.window.proofs.Steps.{left_all, left_as, left_one, left_four, left_none}
use Rattle.window.proofs.raise_ring.Goals as goal

pub loop-init : goal.loop-init
loop-init c = (omega arith, left_as _ _ _ _ _ (left_all _ _ _ _ _ c.requires.0) _ (omega arith))

pub loop-preserved : goal.loop-preserved
loop-preserved c =
    let r = c.raise_four_before-at in
    (omega arith, left_as _ _ _ _ _ (left_four _ _ _ _ _ c.loop.invariant.1 _ _ (omega arith) r.ensures.place r.ensures.answer) _ (omega arith))

pub loop-2-init : goal.loop-2-init
loop-2-init c = (omega arith, left_as _ _ _ _ _ c.loop.invariant.1 _ (omega arith))

pub loop-2-preserved : goal.loop-2-preserved
loop-2-preserved c =
    let r = c.raise_one_before-at in
    (omega arith, left_as _ _ _ _ _ (left_one _ _ _ _ _ c.loop-2.invariant.1 _ _ (omega arith) r.ensures.place r.ensures.answer) _ (omega arith))

pub returns : goal.returns
returns c = left_none _ _ _ _ _ c.loop-2.invariant.1 (omega arith)
