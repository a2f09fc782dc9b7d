-- no root before j has the block
use Rattle.std.proofs.Common.{◌≡◌, false}
use Rattle.layout.specs.Record.{as_coord}
use Rattle.sparse_grid.specs.Validate.{earlier}
use Rattle.sparse_grid.specs.Record.{as_grid}
use Rattle.sparse_grid.proofs.paired.PairedGrid.repeats.Given as goal

abbrev pub invariant-loop-j : goal.invariant-loop-j
invariant-loop-j l = earlier (as_grid l.self.grid) l.j (as_coord l.block) ≡ false
