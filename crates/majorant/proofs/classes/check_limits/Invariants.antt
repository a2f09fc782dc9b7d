-- The limits before i pass.
use Rattle.std.proofs.Common.{◌≡◌}
use Rattle.refusals.specs.Faults.{first_fault}
use Rattle.majorant.proofs.Classing.{limit_fault}
use Rattle.majorant.proofs.classes.check_limits.Given as goal

abbrev pub invariant-loop-i : goal.invariant-loop-i
invariant-loop-i l = first_fault l.i (limit_fault l.limits) ≡ 0
