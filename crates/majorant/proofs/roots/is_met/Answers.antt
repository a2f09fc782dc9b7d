-- No test told the root apart from the part.
use Rattle.std.proofs.Common.{◌||◌, ℤ, sym, ap, ◌∙◌}
use Rattle.sparse_grid.specs.Tables.{block_at}
use Rattle.sparse_grid.specs.Record.{as_grid}
use Rattle.sparse_grid.specs.Biased.{raised}
use Rattle.boxes.specs.RangeMax.{apart}
use Rattle.majorant.proofs.Signs.{handed}
use Rattle.majorant.proofs.roots.is_met.Goals as goal

pub returns : goal.returns
returns c =
    let a = c.args in
    let b = block_at (as_grid a.grid.now) a.i in
    let h = c.requires.0.sound.ranged a.i c.requires.0.inside in
    let x = sym (c.if-is_apart.ensures ∙ ap (λ (z : ℤ). apart (raised z) a.of.x.lo a.of.x.hi) (handed b.x h.0)) in
    let y = sym (c.if-is_apart-2.ensures ∙ ap (λ (z : ℤ). apart (raised z) a.of.y.lo a.of.y.hi) (handed b.y h.1)) in
    let z = sym (c.if-is_apart-3.ensures ∙ ap (λ (z : ℤ). apart (raised z) a.of.z.lo a.of.z.hi) (handed b.z h.2)) in
    λ j. x j || y j || z j
