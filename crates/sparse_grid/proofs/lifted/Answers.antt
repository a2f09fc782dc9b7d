-- 2^31 and 2^31 + 2^19 more are 2^19 more, modulo 2^32
use Rattle.std.proofs.Common.{◌<◌, sym, ap, ◌∙◌, arith}
use Rattle.sparse_grid.specs.Biased.{raised}
use Rattle.sparse_grid.specs.BiasedLaws.{raised_back}
use Rattle.sparse_grid.proofs.Signs.{seen}
use Rattle.sparse_grid.proofs.lifted.Goals as goal

pub returns : goal.returns
returns c =
    let l : c.biased.result < 4294967296 = omega arith in
    sym (raised_back c.biased.result l) ∙ ap raised (sym c.biased.ensures ∙ seen c.ranges.block)
