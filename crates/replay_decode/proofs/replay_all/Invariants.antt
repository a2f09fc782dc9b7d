-- each count grows by at most one at each turn
use Rattle.std.proofs.Common.{◌≤◌}
use Rattle.replay_decode.proofs.replay_all.Given as goal

abbrev pub invariant-loop : goal.invariant-loop
invariant-loop g l = (l.differ ≤ l.counter) × (l.smoky ≤ l.counter) × (l.unbuilt ≤ l.counter)
