-- at most one record is read, and at most one answer differs, at each turn
use Rattle.std.proofs.Common.{◌≤◌}
use Rattle.replay_float.proofs.replay.Given as goal

abbrev pub invariant-loop : goal.invariant-loop
invariant-loop g l = (l.seen.read ≤ l.counter) × (l.seen.differ ≤ l.counter)
