-- both counts are bounded by the turns, so that no sum wraps
use Rattle.std.proofs.Common.{◌*◌, ◌≤◌}
use Rattle.replay_grid.proofs.replay_all.Given as goal

abbrev pub invariant-loop : goal.invariant-loop
invariant-loop g l = (l.lookups ≤ 65535 * l.counter) × (l.differ ≤ 65537 * l.counter)
