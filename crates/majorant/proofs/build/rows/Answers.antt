-- A row takes the next places, and a refusal ends the rows.
use Rattle.std.proofs.Common.{◌*◌, ◌∙◌, sym, ap, length, take, zero-mul}
use Rattle.refusals.specs.Results.{ok}
use Rattle.refusals.specs.Faults.{passing}
use Rattle.refusals.proofs.Exits.{number_some, exit_fault}
use Rattle.majorant.specs.Rows.{rows_of}
use Rattle.majorant.proofs.Building.{filled_none, filled_more, filled_stop, filled_end, one_more}
use Rattle.majorant.proofs.build.rows.Goals as goal

pub loop-r-init : goal.loop-r-init
loop-r-init c = filled_none _ _ _ _ _ (ap (λ k. take k c.args.majorants.now) (sym (zero-mul _)))

pub returns-in_err-row : goal.returns-in_err-row
unfolding rows_of
returns-in_err-row c =
    let a = c.args in
    let left = take (length a.zs.now * length a.ys.now * length a.xs.now) c.row.new.majorants in
    ap (λ n. passing n (ok left)) (exit_fault c.from_residual.result _ c.from_residual.ensures.1)
    ∙ filled_stop c.loop-r.invariant _ c.loop-r-test.true c.in_err-row.ensures (number_some _) left

pub loop-r-preserved : goal.loop-r-preserved
loop-r-preserved c =
    filled_more c.loop-r.invariant c.loop-r-test.true
    (ap (λ k. ok (take k c.row.new.majorants)) (sym (one_more c.loop-r.r (length c.args.xs.now))) ∙ c.in_ok-row.ensures) c.row.auto.majorants

pub returns : goal.returns
unfolding rows_of
returns c = filled_end c.loop-r.invariant c.loop-r-test.false (λ e. ap (λ k. k * length c.args.xs.now) e)
