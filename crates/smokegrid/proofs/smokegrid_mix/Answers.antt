-- 18 for another length, and otherwise the density of the medium that was read.
use Rattle.std.proofs.Common.{◌∙◌, eq-eqb, ne_eqb}
use Rattle.sparse_grid.specs.Tables.{grid_of}
use Rattle.medium.specs.Medium.{Point}
use Rattle.mix.specs.Density.{density_at}
use Rattle.smokegrid.proofs.Flats.{mix_stops, mix_goes, mix_out}
use Rattle.smokegrid.proofs.smokegrid_mix.Goals as goal

pub returns-then-medium-ne18 : goal.returns-then-medium-ne18
returns-then-medium-ne18 c =
    let a = c.args in
    let g =
    grid_of a.background a.blocks.now a.root_links.now a.root_values.now a.upper_links.now a.upper_values.now
    a.lower_links.now a.lower_values.now a.leaf_values.now in
    let p : Point = record { x = a.x; y = a.y; z = a.z } in
    mix_out g a.medium.now p (mix_stops g a.medium.now p (ne_eqb _ _ c.if-medium-ne18.true)) c.give.ensures.number c.give.ensures.value

pub returns : goal.returns
returns c =
    let a = c.args in
    let g =
    grid_of a.background a.blocks.now a.root_links.now a.root_values.now a.upper_links.now a.upper_values.now
    a.lower_links.now a.lower_values.now a.leaf_values.now in
    let p : Point = record { x = a.x; y = a.y; z = a.z } in
    mix_out g a.medium.now p
    (c.density_at.ensures ∙ (λ i. density_at (c.grid-grid.ensures i) (c.medium_from-m.ensures i) p)
    ∙ mix_goes g a.medium.now p (eq-eqb _ _ c.if-medium-ne18.false))
    c.give-2.ensures.number c.give-2.ensures.value
