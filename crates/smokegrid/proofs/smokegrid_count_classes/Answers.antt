-- 18 for another length, and otherwise the counts of the box by class.
use Rattle.std.proofs.Common.{refl, ◌∙◌, length, eq-eqb, ne_eqb}
use Rattle.sparse_grid.specs.Tables.{grid_of}
use Rattle.boxes.specs.Boxes.{between}
use Rattle.walk.specs.Classes.{public_counts}
use Rattle.majorant.proofs.Signs.{Small, box_handed}
use Rattle.smokegrid.proofs.Flats.{classes_stops, classes_goes, classes_out}
use Rattle.smokegrid.proofs.smokegrid_count_classes.Goals as goal

pub returns-then-not-fits : goal.returns-then-not-fits
returns-then-not-fits c =
    let a = c.args in
    let g =
    grid_of a.background a.blocks.now a.root_links.now a.root_values.now a.upper_links.now a.upper_values.now
    a.lower_links.now a.lower_values.now a.leaf_values.now in
    let x = between a.lx a.ly a.lz a.hx a.hy a.hz in
    let n = length a.counts.now in
    classes_out g a.limits.now x n (classes_stops g a.limits.now x n (ne_eqb _ _ c.if-not-fits.true)) c.number.ensures c.zero.ensures

pub returns-in-Ok : goal.returns-in-Ok
returns-in-Ok c =
    let a = c.args in
    let g =
    grid_of a.background a.blocks.now a.root_links.now a.root_values.now a.upper_links.now a.upper_values.now
    a.lower_links.now a.lower_values.now a.leaf_values.now in
    let x = between a.lx a.ly a.lz a.hx a.hy a.hz in
    let n = length a.counts.now in
    let r = c.ranges in
    let small : Small x =
    record { lx = r.lx.sfits; ly = r.ly.sfits; lz = r.lz.sfits; hx = r.hx.sfits; hy = r.hy.sfits; hz = r.hz.sfits } in
    let boxed = c.corners.ensures ∙ box_handed x small in
    classes_out g a.limits.now x n
    (c.in-Ok.ensures ∙ (λ i. public_counts (c.grid-grid.ensures i) a.limits.now (boxed i))
    ∙ classes_goes g a.limits.now x n (eq-eqb _ _ c.if-not-fits.false))
    refl c.copy_from_slice.ensures.after

pub returns-in-Err : goal.returns-in-Err
returns-in-Err c =
    let a = c.args in
    let g =
    grid_of a.background a.blocks.now a.root_links.now a.root_values.now a.upper_links.now a.upper_values.now
    a.lower_links.now a.lower_values.now a.leaf_values.now in
    let x = between a.lx a.ly a.lz a.hx a.hy a.hz in
    let n = length a.counts.now in
    let r = c.ranges in
    let small : Small x =
    record { lx = r.lx.sfits; ly = r.ly.sfits; lz = r.lz.sfits; hx = r.hx.sfits; hy = r.hy.sfits; hz = r.hz.sfits } in
    let boxed = c.corners.ensures ∙ box_handed x small in
    classes_out g a.limits.now x n
    (c.in-Err.ensures ∙ (λ i. public_counts (c.grid-grid.ensures i) a.limits.now (boxed i))
    ∙ classes_goes g a.limits.now x n (eq-eqb _ _ c.if-not-fits.false))
    c.number-in-Err.ensures c.zero.ensures
