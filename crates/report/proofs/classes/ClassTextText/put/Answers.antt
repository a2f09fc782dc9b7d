-- The count over a valid grid, and what it answers.
use Rattle.std.proofs.Common.{ap, ◌∙◌}
use Rattle.sparse_grid.specs.Record.{as_grid}
use Rattle.medium.specs.Record.{as_medium}
use Rattle.walk.specs.Classes.{public_counts}
use Rattle.text.proofs.Writing.{as_text}
use Rattle.report.specs.ClassReport.{limits, index_box}
use Rattle.report.specs.Inner.{counts_in}
use Rattle.report.proofs.Counting.{counts_fit, classes_text}
use Rattle.report.proofs.classes.ClassTextText.put.Goals as goal

pub put_counts-requires : goal.put_counts-requires
put_counts-requires c =
    let a = c.args in
    counts_fit (as_grid a.grid.now) (index_box (as_medium a.m)) (c.in-Ok.ensures ∙ ap (public_counts (as_grid a.grid.now) limits) c.index_box.ensures)

pub returns-in-Ok : goal.returns-in-Ok
unfolding counts_in
returns-in-Ok c valid =
    let a = c.args in
    let counted = c.in-Ok.ensures ∙ ap (public_counts (as_grid a.grid.now) limits) c.index_box.ensures in
    as_text c.put_counts.ensures (ap counts_in counted ∙ classes_text a.n (as_grid a.grid.now) (as_medium a.m) valid)

pub returns-in-Err : goal.returns-in-Err
unfolding counts_in
returns-in-Err c valid =
    let a = c.args in
    let counted = c.in-Err.ensures ∙ ap (public_counts (as_grid a.grid.now) limits) c.index_box.ensures in
    as_text c.put_refused.ensures.text (ap counts_in counted ∙ classes_text a.n (as_grid a.grid.now) (as_medium a.m) valid)
