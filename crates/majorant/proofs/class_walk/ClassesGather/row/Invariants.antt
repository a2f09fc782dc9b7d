-- The values before the one at the index are counted.
use Rattle.majorant.specs.Gathered.{Classed}
use Rattle.majorant.specs.Walks.{along, zone_of}
use Rattle.std.proofs.Common.{◌+◌, ◌-◌, get_or}
use Rattle.float.specs.Zero.{+0}
use Rattle.medium.specs.Medium.{z_axis}
use Rattle.majorant.proofs.class_walk.ClassesGather.row.Given as goal

abbrev pub invariant-loop-v : goal.invariant-loop-v
invariant-loop-v l =
    let p = l.fn.part in
    Classed (λ x y z. get_or l.values (z - p.z.lo) +0) (along z_axis (zone_of p) p.z.lo (p.z.lo + l.v-index)) l.initial.self l.self
