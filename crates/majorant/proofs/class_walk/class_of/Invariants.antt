-- No limit before i is above the value.
use Rattle.std.proofs.Common.{◌≡◌, ◌+◌, drop}
use Rattle.walk.specs.Classes.{class}
use Rattle.majorant.proofs.class_walk.class_of.Given as goal

abbrev pub invariant-loop-i : goal.invariant-loop-i
invariant-loop-i l = class l.limits l.v ≡ l.i + class (drop l.i l.limits) l.v
