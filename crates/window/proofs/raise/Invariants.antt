-- After i turns the first i cells are raised.
use Rattle.std.proofs.Common.{◌≡◌, ◌≤◌, length}
use Rattle.window.proofs.TableLaws.{front}
use Rattle.window.proofs.raise.Given as goal

abbrev pub invariant-loop-i : goal.invariant-loop-i
invariant-loop-i l = (l.i ≤ length l.initial.answer) × (length l.answer ≡ length l.initial.answer) × (l.answer ≡ front l.i l.initial.answer l.table)
