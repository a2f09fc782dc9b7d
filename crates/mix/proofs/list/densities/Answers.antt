-- A density takes the next place, and a refusal ends the list.
use Rattle.std.proofs.Common.{◌∙◌, ap}
use Rattle.refusals.specs.Results.{ok}
use Rattle.refusals.specs.Faults.{passing}
use Rattle.refusals.proofs.Exits.{number_some, exit_fault}
use Rattle.sparse_grid.specs.Lookup.{read_in}
use Rattle.sparse_grid.specs.Record.{as_grid}
use Rattle.medium.specs.Record.{as_medium}
use Rattle.mix.specs.Density.{density_by}
use Rattle.mix.proofs.Laws.{filled_none, filled_more, filled_stop}
use Rattle.mix.proofs.list.densities.Goals as goal

pub loop-i-init : goal.loop-i-init
loop-i-init c = filled_none _ _ c.args.values.now

pub returns-in_err-values : goal.returns-in_err-values
returns-in_err-values c =
    let a = c.args in
    let l = c.loop-i in
    ap (λ n. passing n (ok l.values)) (exit_fault _ c.in_err-values.field-0.0 c.from_residual.ensures.1)
    ∙ filled_stop (density_by (read_in (as_grid a.grid.now)) (as_medium a.m.now)) a.points.now _ l.invariant c.loop-i-test.true
    c.in_err-values.ensures (number_some _)

pub loop-i-preserved : goal.loop-i-preserved
loop-i-preserved c =
    let a = c.args in
    filled_more (density_by (read_in (as_grid a.grid.now)) (as_medium a.m.now)) a.points.now _ c.loop-i.invariant c.loop-i-test.true
    c.in_ok-values.ensures
