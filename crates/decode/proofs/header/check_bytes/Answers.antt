-- The ways out of `check_bytes`: 1, 2, 3, and the world box. Assumes nothing.
use Rattle.decode.proofs.header.Faults.{fault_long, fault_short, fault_header, fault_bounds}
use Rattle.decode.proofs.header.check_bytes.Goals as goal

pub returns-then-n-gt4294967295 : goal.returns-then-n-gt4294967295
returns-then-n-gt4294967295 c = fault_long _ c.if-n-gt4294967295.true

pub returns-then-n-lt672 : goal.returns-then-n-lt672
returns-then-n-lt672 c = fault_short _ c.if-n-gt4294967295.false c.if-n-lt672.true

pub returns-then-not-header_passes : goal.returns-then-not-header_passes
returns-then-not-header_passes c =
    fault_header _ c.if-n-gt4294967295.false c.if-n-lt672.false c.header_passes.ensures c.if-not-header_passes.true

pub returns : goal.returns
returns c =
    fault_bounds _ c.if-n-gt4294967295.false c.if-n-lt672.false c.header_passes.ensures c.if-not-header_passes.false
    (c.world_of.ensures 0) c.check_bounds.ensures
