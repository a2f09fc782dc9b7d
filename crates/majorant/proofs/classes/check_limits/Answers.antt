-- The number of limits, and then the first that does not pass.
use Rattle.std.proofs.Common.{Bool, length, sym, ap, inl, inr, arith}
use Rattle.refusals.specs.Faults.{unless}
use Rattle.refusals.proofs.FaultSteps.{first_fault_none, first_fault_next, first_fault_end}
use Rattle.majorant.proofs.Classing.{limit_fault, limits_few, limits_pass, limit_stops}
use Rattle.majorant.proofs.classes.check_limits.Goals as goal
use Rattle.majorant.proofs.classes.check_limits.Goals.{then-n-lt1-via-then-n-lt1, then-n-lt1-via-else-n-lt1+then-n-gt-MOST}

pub loop-i-init : goal.loop-i-init
loop-i-init c = first_fault_none _

pub loop-i-preserved : goal.loop-i-preserved
loop-i-preserved c =
    let ls = c.args.limits.now in
    first_fault_next c.loop-i.i (limit_fault ls) c.loop-i.invariant (ap (λ (b : Bool). unless b 25) (sym c.if-not-limit_passes.ensures))

pub returns-then-not-limit_passes : goal.returns-then-not-limit_passes
returns-then-not-limit_passes c =
    let ls = c.args.limits.now in
    limits_pass ls (omega arith) (omega arith)
    (limit_stops ls c.loop-i.i c.loop-i-test.true c.loop-i.invariant (sym c.if-not-limit_passes.ensures))

pub returns : goal.returns
returns c =
    let ls = c.args.limits.now in
    limits_pass ls (omega arith) (omega arith)
    (sym (first_fault_end (length ls) c.loop-i.i (limit_fault ls) (omega arith) (omega arith) c.loop-i.invariant))

pub returns-then-n-lt1 : goal.returns-then-n-lt1
returns-then-n-lt1 c =
    elim c.then-n-lt1.branch [
      | then-n-lt1-via-then-n-lt1 w ↦ limits_few c.args.limits.now (inl (omega arith))
      | then-n-lt1-via-else-n-lt1+then-n-gt-MOST w ↦ limits_few c.args.limits.now (inr (omega arith))
    ]
