-- Each turn empties one chain more.
use Rattle.std.proofs.Common.{refl, arith, length-set}
use Rattle.decode.proofs.spans.PutLaws.{clear_next, clear_rep}
use Rattle.decode.proofs.spans.clear.Goals as goal

pub loop-h-init : goal.loop-h-init
loop-h-init c = (refl, λ j l. absurd (omega arith))

pub loop-h-preserved : goal.loop-h-preserved
loop-h-preserved c = (simp length-set c.loop-h.invariant.0, clear_next _ _ (omega arith) c.loop-h.invariant.1)

pub returns : goal.returns
returns c = (clear_rep _ _ (omega arith) (omega arith) c.loop-h.invariant.1, c.loop-h.invariant.0)
