-- The list's answer is that of the grid.
use Rattle.std.proofs.Common.{ap, ◌∙◌, length, replicate}
use Rattle.refusals.specs.Results.{value_or}
use Rattle.float.specs.Zero.{+0}
use Rattle.sparse_grid.specs.Tables.{grid_of}
use Rattle.majorant.specs.Maxima.{maxima_into, greatest_into}
use Rattle.smokegrid.proofs.Flats.{list_out}
use Rattle.smokegrid.proofs.smokegrid_box_maxima.Goals as goal

pub returns : goal.returns
returns c =
    let a = c.args in
    let g =
    grid_of a.background a.blocks.now a.root_links.now a.root_values.now a.upper_links.now a.upper_values.now
    a.lower_links.now a.lower_values.now a.leaf_values.now in
    let n = length a.maxima.now in
    list_out g a.boxes.now n (c.box_maxima.ensures.greatest ∙ ap (λ g. greatest_into g a.boxes.now n) c.grid-grid.ensures)
    c.give.ensures.number c.give.ensures.value
    (c.box_maxima.ensures.table ∙ ap (λ g. value_or (replicate n +0) (maxima_into g a.boxes.now n)) c.grid-grid.ensures)
