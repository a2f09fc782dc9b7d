-- 18 for another length, and otherwise the opened ray.
use Rattle.std.proofs.Common.{rules, refl, sym, ap, ◌∙◌, length}
use Rattle.medium.specs.Record.{as_medium}
use Rattle.rays.specs.Open.{open_ray}
use Rattle.smokegrid.specs.FlatRay.{beam}
use Rattle.smokegrid.proofs.Rayed.{open_stops, open_goes, open_out, few_opened}
use Rattle.smokegrid.proofs.smokegrid_ray_open.Goals as goal

pub returns-then-not-fits : goal.returns-then-not-fits
returns-then-not-fits c =
    let a = c.args in
    let b = beam a.ox a.oy a.oz a.dx a.dy a.dz a.t_min a.t_max in
    open_out a.medium.now a.cells.now b (length a.majorants.now) (length a.ray_times.now) (length a.ray_cells.now)
    (open_stops a.medium.now a.cells.now b _ _ _ (sym c.can_open-fits.ensures ∙ c.if-not-fits.true)) c.number.ensures c.zero.ensures c.zero-2.ensures

pub put_numbers-requires-clause-few : goal.put_numbers-requires-clause-few
put_numbers-requires-clause-few c =
    let a = c.args in
    let b = beam a.ox a.oy a.oz a.dx a.dy a.dz a.t_min a.t_max in
    few_opened (as_medium c.medium_from-m.result) b a.majorants.now c.in-Ok.ensures

pub returns-in-Ok : goal.returns-in-Ok
returns-in-Ok c =
    let a = c.args in
    let b = beam a.ox a.oy a.oz a.dx a.dy a.dz a.t_min a.t_max in
    let places = length a.majorants.now in
    open_out a.medium.now a.cells.now b places (length a.ray_times.now) (length a.ray_cells.now)
    (c.in-Ok.ensures ∙ ap (λ m. open_ray m b places) c.medium_from-m.ensures
    ∙ open_goes a.medium.now a.cells.now b places _ _ (sym c.can_open-fits.ensures ∙ c.if-not-fits.false))
    refl c.put_times.ensures c.put_numbers.ensures

pub returns-in-Err : goal.returns-in-Err
returns-in-Err c =
    let a = c.args in
    let b = beam a.ox a.oy a.oz a.dx a.dy a.dz a.t_min a.t_max in
    let places = length a.majorants.now in
    open_out a.medium.now a.cells.now b places (length a.ray_times.now) (length a.ray_cells.now)
    (c.in-Err.ensures ∙ ap (λ m. open_ray m b places) c.medium_from-m.ensures
    ∙ open_goes a.medium.now a.cells.now b places _ _ (sym c.can_open-fits.ensures ∙ c.if-not-fits.false))
    c.number-in-Err.ensures c.zero.ensures (search rules)
