-- The tables of the three axes give the figures in order.
use Rattle.std.proofs.Common.{◌∙◌, sym, ap, take_all, le_of_eq, arith}
use Rattle.refusals.specs.Results.{ok}
use Rattle.refusals.specs.Numbers.{fault_of}
use Rattle.refusals.specs.Faults.{passing}
use Rattle.sparse_grid.specs.Lookup.{read_in}
use Rattle.sparse_grid.specs.Record.{as_grid}
use Rattle.medium.specs.Medium.{x_axis, y_axis, z_axis}
use Rattle.medium.specs.Record.{as_medium}
use Rattle.index.specs.Answers.{as_line}
use Rattle.boxes.specs.Boxes.{box_maximum}
use Rattle.majorant.proofs.RowLaws.{front, count_is, cells_are}
use Rattle.majorant.proofs.build.cells.Goals as goal

pub returns : goal.returns
returns c =
    let m = as_medium c.args.m.now in
    let n = m.cells in
    let N = c.requires.2.count in
    let xs = c.axis_table-xs in
    let ys = c.axis_table-ys in
    let zs = c.axis_table-zs in
    let x = front m x_axis n.x (as_line c.of.result) xs.result (omega (arith, xs.ensures.long, N.x.most)) c.of.ensures xs.ensures.ends in
    let y = front m y_axis n.y (as_line c.of-2.result) ys.result (omega (arith, ys.ensures.long, N.y.most)) c.of-2.ensures ys.ensures.ends in
    let z = front m z_axis n.z (as_line c.of-3.result) zs.result (omega (arith, zs.ensures.long, N.z.most)) c.of-3.ensures zs.ensures.ends in
    let every = le_of_eq (c.rows.auto.majorants ∙ c.requires.2.places_is ∙ sym (count_is m n x y z)) in
    ap (λ l. passing (fault_of c.rows.result) (ok l)) (sym (take_all _ c.rows.new.majorants every))
    ∙ c.rows.ensures ∙ cells_are m n x y z (box_maximum (read_in (as_grid c.args.grid.now))) c.requires.1 N.y.some
