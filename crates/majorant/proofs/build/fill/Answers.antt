-- A fault before the cells is the answer; without one the figures are.
use Rattle.std.proofs.Common.{◌∙◌, ap, length}
use Rattle.refusals.specs.Results.{ok}
use Rattle.refusals.specs.Faults.{passing}
use Rattle.refusals.proofs.Exits.{number_some, exit_fault}
use Rattle.sparse_grid.specs.Record.{as_grid}
use Rattle.medium.specs.Record.{as_medium}
use Rattle.majorant.proofs.Builds.{build_stops, build_passed, build_figures}
use Rattle.majorant.proofs.build.fill.Goals as goal

pub returns-in_err-check : goal.returns-in_err-check
returns-in_err-check c =
    let a = c.args in
    ap (λ n. passing n (ok a.majorants.now)) (exit_fault c.from_residual.result _ c.from_residual.ensures.1)
    ∙ build_stops (as_grid a.grid.now) (as_medium a.m.now) (length a.majorants.now) a.majorants.now c.in_err-check.ensures (number_some _)

pub cells-requires : goal.cells-requires
cells-requires c =
    let a = c.args in
    build_passed (as_grid a.grid.now) (as_medium a.m.now) (length a.majorants.now) c.in_ok-check.ensures

pub returns : goal.returns
returns c =
    let a = c.args in
    c.cells.ensures ∙ build_figures (as_grid a.grid.now) (as_medium a.m.now) (length a.majorants.now) c.in_ok-check.ensures
