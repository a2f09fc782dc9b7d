-- A fault before the boxes is the answer; without one the maxima are.
use Rattle.std.proofs.Common.{◌∙◌, ap, length}
use Rattle.refusals.specs.Results.{ok}
use Rattle.refusals.specs.Faults.{passing}
use Rattle.refusals.proofs.Exits.{number_some, exit_fault, exit_said}
use Rattle.sparse_grid.specs.Record.{as_grid}
use Rattle.majorant.proofs.Listing.{list_stops, greatest_stops, maxima_given}
use Rattle.majorant.proofs.maxima.fill.Goals as goal

pub returns-in_err-check-clause-greatest : goal.returns-in_err-check-clause-greatest
returns-in_err-check-clause-greatest c =
    let a = c.args in
    exit_said c.from_residual.result _ c.from_residual.ensures.1
    ∙ greatest_stops (as_grid a.grid.now) a.boxes.now (length a.maxima.now) c.in_err-check.ensures (number_some _)

pub returns-in_err-check-clause-table : goal.returns-in_err-check-clause-table
returns-in_err-check-clause-table c =
    let a = c.args in
    ap (λ n. passing n (ok a.maxima.now)) (exit_fault c.from_residual.result _ c.from_residual.ensures.1)
    ∙ list_stops (as_grid a.grid.now) a.boxes.now (length a.maxima.now) c.in_err-check.ensures (number_some _) a.maxima.now

pub returns-clause-greatest : goal.returns-clause-greatest
returns-clause-greatest c =
    let a = c.args in
    (maxima_given (as_grid a.grid.now) a.boxes.now (length a.maxima.now) c.in_ok-check.ensures c.maxima.ensures).0

pub returns-clause-table : goal.returns-clause-table
returns-clause-table c =
    let a = c.args in
    (maxima_given (as_grid a.grid.now) a.boxes.now (length a.maxima.now) c.in_ok-check.ensures c.maxima.ensures).1
