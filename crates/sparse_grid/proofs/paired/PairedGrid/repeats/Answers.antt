use Rattle.std.proofs.Common.{sym, ◌∙◌}
use Rattle.layout.specs.Record.{as_coord}
use Rattle.sparse_grid.specs.Record.{as_grid}
use Rattle.sparse_grid.proofs.Blocks.{earlier_found}
use Rattle.sparse_grid.proofs.paired.PairedGrid.repeats.Goals as goal

pub returns-then-has_block : goal.returns-then-has_block
returns-then-has_block c =
    sym (earlier_found (as_grid c.args.self.now.grid) (as_coord c.args.block) c.args.i c.loop-j.j c.loop-j-test.true
    (sym c.has_block.ensures ∙ c.if-has_block.true))
