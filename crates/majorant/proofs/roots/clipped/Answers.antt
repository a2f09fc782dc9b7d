-- The block is the root's, however it is read.
use Rattle.std.proofs.Common.{ℤ, subst}
use Rattle.sparse_grid.specs.Tables.{block_at}
use Rattle.sparse_grid.specs.Record.{as_grid}
use Rattle.sparse_grid.specs.Biased.{raised}
use Rattle.boxes.specs.RangeMax.{Clip}
use Rattle.majorant.proofs.Signs.{handed}
use Rattle.majorant.proofs.roots.clipped.Goals as goal

pub returns : goal.returns
returns c =
    let a = c.args in
    let b = block_at (as_grid a.grid.now) a.i in
    let h = c.requires.0.sound.ranged a.i c.requires.0.inside in
    record {
      met = c.requires.2;
      x = subst (λ (n : ℤ). Clip (raised n) a.of.x.lo a.of.x.hi c.clip.result.lo c.clip.result.hi) (handed b.x h.0) c.clip.ensures;
      y = subst (λ (n : ℤ). Clip (raised n) a.of.y.lo a.of.y.hi c.clip-2.result.lo c.clip-2.result.hi) (handed b.y h.1) c.clip-2.ensures;
      z = subst (λ (n : ℤ). Clip (raised n) a.of.z.lo a.of.z.hi c.clip-3.result.lo c.clip-3.result.hi) (handed b.z h.2) c.clip-3.ensures;
    }
