-- Where an axis finds no cell there is none, and where each finds one they are one cell.
use Rattle.std.proofs.Common.{refl}
use Rattle.medium.specs.Medium.{x_axis, y_axis, z_axis}
use Rattle.medium.specs.Record.{as_medium, point_of}
use Rattle.claim.proofs.Cell.{axis_none, axis_met, cell_is}
use Rattle.claim.proofs.cell_at.Goals as goal

pub returns-in_err-x-clause-none : goal.returns-in_err-x-clause-none
returns-in_err-x-clause-none c = λ _. axis_none (as_medium c.args.m.now) (point_of c.args.p) x_axis c.of.ensures (c.in_err-x.ensures.none refl)

pub returns-in_err-y-clause-none : goal.returns-in_err-y-clause-none
returns-in_err-y-clause-none c = λ _. axis_none (as_medium c.args.m.now) (point_of c.args.p) y_axis c.of-2.ensures (c.in_err-y.ensures.none refl)

pub returns-in_err-z-clause-none : goal.returns-in_err-z-clause-none
returns-in_err-z-clause-none c = λ _. axis_none (as_medium c.args.m.now) (point_of c.args.p) z_axis c.of-3.ensures (c.in_err-z.ensures.none refl)

pub returns-clause-found : goal.returns-clause-found
returns-clause-found c =
    let m = as_medium c.args.m.now in
    let p = point_of c.args.p in
    cell_is m p
    (axis_met m p x_axis c.of.ensures c.in_ok-x.ensures.found)
    (axis_met m p y_axis c.of-2.ensures c.in_ok-y.ensures.found)
    (axis_met m p z_axis c.of-3.ensures c.in_ok-z.ensures.found)
