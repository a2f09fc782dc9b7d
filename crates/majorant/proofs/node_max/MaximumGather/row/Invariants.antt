-- The greatest of the values before the one at the index.
use Rattle.std.proofs.Common.{◌+◌, ◌-◌, get_or}
use Rattle.float.specs.Zero.{+0}
use Rattle.medium.specs.Medium.{z_axis}
use Rattle.boxes.specs.Most.{Most}
use Rattle.walk.specs.Gather.{At}
use Rattle.majorant.specs.Walks.{along, zone_of}
use Rattle.majorant.proofs.node_max.MaximumGather.row.Given as goal

abbrev pub invariant-loop-v : goal.invariant-loop-v
invariant-loop-v g l =
    let p = l.fn.part in
    Most (λ x y z. get_or l.values (z - p.z.lo) +0) (At (along z_axis (zone_of p) p.z.lo (p.z.lo + l.v-index))) l.maximum
