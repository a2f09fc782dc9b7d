-- 18 for another length, and otherwise the counts of the box.
use Rattle.std.proofs.Common.{refl, ◌∙◌, length, eq-eqb, ne_eqb}
use lib.Ieee.{binary32}
use Rattle.float.proofs.Literal.{zero_literal}
use Rattle.sparse_grid.specs.Tables.{grid_of}
use Rattle.boxes.specs.Boxes.{between}
use Rattle.majorant.specs.Counted.{public_counted}
use Rattle.majorant.proofs.Signs.{Small, box_handed}
use Rattle.smokegrid.proofs.Flats.{counted_stops, counted_goes, counted_out}
use Rattle.smokegrid.proofs.smokegrid_box_maximum_counted.Goals as goal

pub returns-then-not-fits : goal.returns-then-not-fits
returns-then-not-fits c =
    let a = c.args in
    let g =
    grid_of a.background a.blocks.now a.root_links.now a.root_values.now a.upper_links.now a.upper_values.now
    a.lower_links.now a.lower_values.now a.leaf_values.now in
    let x = between a.lx a.ly a.lz a.hx a.hy a.hz in
    let n = length a.counts.now in
    counted_out g x n (counted_stops g x n (ne_eqb _ _ c.if-not-fits.true)) c.number.ensures (zero_literal binary32) c.zero.ensures

pub returns-in-Ok : goal.returns-in-Ok
returns-in-Ok c =
    let a = c.args in
    let g =
    grid_of a.background a.blocks.now a.root_links.now a.root_values.now a.upper_links.now a.upper_values.now
    a.lower_links.now a.lower_values.now a.leaf_values.now in
    let x = between a.lx a.ly a.lz a.hx a.hy a.hz in
    let n = length a.counts.now in
    let r = c.ranges in
    let small : Small x =
    record { lx = r.lx.sfits; ly = r.ly.sfits; lz = r.lz.sfits; hx = r.hx.sfits; hy = r.hy.sfits; hz = r.hz.sfits } in
    let boxed = c.corners.ensures ∙ box_handed x small in
    counted_out g x n
    (c.in-Ok.ensures ∙ (λ i. public_counted (c.grid-grid.ensures i) (boxed i))
    ∙ counted_goes g x n (eq-eqb _ _ c.if-not-fits.false))
    refl refl
    c.put_read.ensures

pub returns-in-Err : goal.returns-in-Err
returns-in-Err c =
    let a = c.args in
    let g =
    grid_of a.background a.blocks.now a.root_links.now a.root_values.now a.upper_links.now a.upper_values.now
    a.lower_links.now a.lower_values.now a.leaf_values.now in
    let x = between a.lx a.ly a.lz a.hx a.hy a.hz in
    let n = length a.counts.now in
    let r = c.ranges in
    let small : Small x =
    record { lx = r.lx.sfits; ly = r.ly.sfits; lz = r.lz.sfits; hx = r.hx.sfits; hy = r.hy.sfits; hz = r.hz.sfits } in
    let boxed = c.corners.ensures ∙ box_handed x small in
    counted_out g x n
    (c.in-Err.ensures ∙ (λ i. public_counted (c.grid-grid.ensures i) (boxed i))
    ∙ counted_goes g x n (eq-eqb _ _ c.if-not-fits.false))
    c.number-in-Err.ensures (zero_literal binary32) c.zero.ensures
