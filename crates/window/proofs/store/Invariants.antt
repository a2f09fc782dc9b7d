-- After i turns the first i figures are copied.
use Rattle.std.proofs.Common.{◌≡◌, length}
use Rattle.std.proofs.Math.Seq.{paste}
use Rattle.window.proofs.store.Given as goal

abbrev pub invariant-loop-i : goal.invariant-loop-i
invariant-loop-i l = (length l.memory ≡ length l.initial.memory) × (l.memory ≡ paste l.initial.memory l.at l.table l.i)
