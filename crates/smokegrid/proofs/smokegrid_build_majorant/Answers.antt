-- 18 for another length, and otherwise the build with the medium that was read.
use Rattle.std.proofs.Common.{sym, ◌∙◌, length}
use Rattle.sparse_grid.specs.Tables.{grid_of}
use Rattle.majorant.specs.Build.{build_into}
use Rattle.smokegrid.proofs.Flats.{build_stops, build_goes, build_out}
use Rattle.smokegrid.proofs.smokegrid_build_majorant.Goals as goal

pub returns-then-not-are_medium : goal.returns-then-not-are_medium
returns-then-not-are_medium c =
    let a = c.args in
    let g =
    grid_of a.background a.blocks.now a.root_links.now a.root_values.now a.upper_links.now a.upper_values.now
    a.lower_links.now a.lower_values.now a.leaf_values.now in
    let n = length a.majorants.now in
    build_out g a.medium.now a.corners.now a.cells.now n
    (build_stops g a.medium.now a.corners.now a.cells.now n (sym c.are_medium.ensures ∙ c.if-not-are_medium.true)) c.number.ensures c.zero.ensures

pub returns : goal.returns
returns c =
    let a = c.args in
    let g =
    grid_of a.background a.blocks.now a.root_links.now a.root_values.now a.upper_links.now a.upper_values.now
    a.lower_links.now a.lower_values.now a.leaf_values.now in
    let n = length a.majorants.now in
    build_out g a.medium.now a.corners.now a.cells.now n
    ((λ i. build_into (c.grid-grid.ensures i) (c.medium_from.ensures i) n)
    ∙ build_goes g a.medium.now a.corners.now a.cells.now n (sym c.are_medium.ensures ∙ c.if-not-are_medium.false))
    (c.fault.ensures ∙ c.build_majorant.ensures.number) c.build_majorant.ensures.table
