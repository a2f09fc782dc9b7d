-- Past the test of the table each axis has 1 to 128 cells.
use Rattle.std.proofs.Common.{length}
use Rattle.medium.specs.Medium.{x_axis, y_axis, z_axis}
use Rattle.medium.specs.Record.{as_medium}
use Rattle.rays.proofs.Opening.{few_cells}
use Rattle.rays.proofs.state.Ray.open.Goals as goal

pub track_on-requires : goal.track_on-requires
track_on-requires c = few_cells (as_medium c.args.m) (length c.args.majorants.now) x_axis c.in_ok-check_table.ensures

pub track_on-requires-2 : goal.track_on-requires-2
track_on-requires-2 c = few_cells (as_medium c.args.m) (length c.args.majorants.now) y_axis c.in_ok-check_table.ensures

pub track_on-requires-3 : goal.track_on-requires-3
track_on-requires-3 c = few_cells (as_medium c.args.m) (length c.args.majorants.now) z_axis c.in_ok-check_table.ensures
