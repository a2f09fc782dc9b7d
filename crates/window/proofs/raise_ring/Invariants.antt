-- The tables that are left, older than the places passed, are still to be raised into the answer so far.
use Rattle.std.proofs.Common.{◌-◌, ◌*◌, ◌%◌, ◌≤◌}
use Rattle.window.proofs.Steps.{Left}
use Rattle.window.proofs.raise_ring.Given as goal

abbrev pub invariant-loop : goal.invariant-loop
invariant-loop l = (l.counter ≤ l.end) × Left l.fn.answer l.memory l.w l.held l.next l.answer (l.held - 4 * l.counter) l.at

abbrev pub invariant-loop-2 : goal.invariant-loop-2
invariant-loop-2 l = (l.counter ≤ l.end) × Left l.fn.answer l.memory l.w l.held l.next l.answer (l.held % 4 - l.counter) l.at
