-- A second box within the first has no greater maximum.
use Rattle.std.proofs.Common.{sym, ap, ◌∙◌}
use Rattle.refusals.specs.Results.{ok}
use Rattle.sparse_grid.specs.Lookup.{read_in}
use Rattle.sparse_grid.specs.Record.{as_grid}
use Rattle.boxes.specs.Boxes.{box_maximum}
use Rattle.index.specs.Outcomes.{as_both}
use Rattle.majorant.proofs.RowLaws.{held_figure}
use Rattle.majorant.proofs.build.box_figure.Goals as goal

pub returns-then-first_holds-3 : goal.returns-then-first_holds-3
returns-then-first_holds-3 c =
    let a = c.args in
    let read = read_in (as_grid a.grid.now) in
    ap ok (c.range_max-maximum.ensures ∙ ap (box_maximum read) c.box_made.ensures)
    ∙ sym (held_figure read (as_both a.x) (as_both a.y) (as_both a.z)
    (sym c.first_holds.ensures ∙ c.if-first_holds.true)
    (sym c.first_holds-then-first_holds.ensures ∙ c.if-first_holds-2.true)
    (sym c.first_holds-then-first_holds-2.ensures ∙ c.if-first_holds-3.true))
