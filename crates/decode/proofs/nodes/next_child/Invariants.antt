-- No slot from i to `at` has a child.
use Rattle.std.proofs.Common.{◌-◌}
use Rattle.decode.proofs.nodes.Children.{Passed}
use Rattle.decode.proofs.nodes.next_child.Given as goal

abbrev pub invariant-loop-at : goal.invariant-loop-at
invariant-loop-at l = Passed l.bytes l.mask l.i l.n l.at

abbrev pub decreases-loop-at : goal.decreases-loop-at
decreases-loop-at l = l.n - l.at
