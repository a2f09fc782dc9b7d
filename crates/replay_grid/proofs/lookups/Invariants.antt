-- at most one lookup of each turn differs
use Rattle.std.proofs.Common.{◌≤◌}
use Rattle.replay_grid.proofs.lookups.Given as goal

abbrev pub invariant-loop : goal.invariant-loop
invariant-loop g l = l.differ ≤ l.counter
