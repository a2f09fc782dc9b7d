-- The part before `at` is gathered.
use Rattle.std.proofs.Common.{◌-◌}
use Rattle.medium.specs.Medium.{x_axis}
use Rattle.majorant.specs.Walks.{zone_of}
use Rattle.majorant.proofs.Walked.{Upto}
use Rattle.majorant.proofs.nodes.all.Given as goal

abbrev pub invariant-loop-at : goal.invariant-loop-at
invariant-loop-at g l =
    let n = g.N.Table in
    Upto g.G.Gather.Done (n.reads l.node) x_axis (n.read l.node) (zone_of l.part) l.side l.part.x.lo l.part.x.hi l.at l.initial.gathered l.gathered

abbrev pub decreases-loop-at : goal.decreases-loop-at
decreases-loop-at g l = l.part.x.hi - l.at
