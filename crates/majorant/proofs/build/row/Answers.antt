-- A figure takes the next place, and a refusal ends the row.
use Rattle.std.proofs.Common.{◌+◌, ◌∙◌, ap, length, take, arith, length-set}
use Rattle.refusals.specs.Results.{ok}
use Rattle.refusals.specs.Faults.{passing}
use Rattle.refusals.proofs.Exits.{number_some, exit_fault}
use Rattle.majorant.specs.Rows.{row_of}
use Rattle.majorant.proofs.Building.{filled_none, filled_more, filled_stop, filled_end, pushed, stopped_push}
use Rattle.majorant.proofs.build.row.Goals as goal

pub loop-i-init : goal.loop-i-init
loop-i-init c = filled_none _ _ _ _ _ (ap (λ k. take k c.args.majorants.now) (omega arith))

pub returns-in_err-majorants : goal.returns-in_err-majorants
unfolding row_of
returns-in_err-majorants c =
    let left = take (c.args.start + length c.args.xs.now) c.loop-i.majorants in
    ap (λ n. passing n (ok left)) (exit_fault c.from_residual.result _ c.from_residual.ensures.1)
    ∙ filled_stop c.loop-i.invariant _ c.loop-i-test.true (stopped_push _ c.in_err-majorants.ensures (number_some _)) (number_some _) left

pub loop-i-preserved : goal.loop-i-preserved
loop-i-preserved c =
    let l = c.loop-i in
    filled_more l.invariant c.loop-i-test.true
    (pushed l.majorants (omega (arith, c.loop-i-test.true, c.requires.1, l.invariant.long)) (omega arith) c.in_ok-majorants.ensures)
    (length-set _ _ _)

pub returns : goal.returns
unfolding row_of
returns c = filled_end c.loop-i.invariant c.loop-i-test.false (λ e. ap (λ k. c.args.start + k) e)
