-- A fault is the answer; without one the counts are.
use Rattle.std.proofs.Common.{refl, ◌∙◌}
use Rattle.refusals.proofs.Exits.{number_some, exit_said}
use Rattle.sparse_grid.specs.Record.{as_grid}
use Rattle.boxes.specs.Boxes.{as_box}
use Rattle.majorant.proofs.Classing.{counts_stopped, counts_given, grid_valid, limits_valid, sides_valid}
use Rattle.majorant.proofs.count_classes.Goals as goal

pub returns-in_err-check_classes : goal.returns-in_err-check_classes
returns-in_err-check_classes c =
    let a = c.args in
    exit_said c.from_residual.result _ c.from_residual.ensures.1
    ∙ counts_stopped (as_grid a.grid.now) a.limits.now (as_box a.of) c.in_err-check_classes.ensures (number_some _)

pub box_classes-requires : goal.box_classes-requires
box_classes-requires c =
    let a = c.args in
    let g = as_grid a.grid.now in
    let e = c.in_ok-check_classes.ensures in
    (grid_valid g a.limits.now (as_box a.of) e refl, sides_valid g a.limits.now (as_box a.of) e refl, limits_valid g a.limits.now (as_box a.of) e refl)

pub returns : goal.returns
returns c =
    let a = c.args in
    counts_given (as_grid a.grid.now) a.limits.now (as_box a.of) c.in_ok-check_classes.ensures c.box_classes.result refl c.box_classes.ensures.long
    c.box_classes.ensures.counts
