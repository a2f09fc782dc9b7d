-- After i turns the first i cells are raised by the four tables.
use Rattle.std.proofs.Common.{◌≡◌, ◌≤◌, length}
use Rattle.window.proofs.FourLaws.{fronts}
use Rattle.window.proofs.raise_four.Given as goal

abbrev pub invariant-loop-i : goal.invariant-loop-i
invariant-loop-i l =
    (l.i ≤ length l.initial.answer) × (length l.answer ≡ length l.initial.answer) × (l.answer ≡ fronts l.initial.answer l.a l.b l.c l.d l.i)
