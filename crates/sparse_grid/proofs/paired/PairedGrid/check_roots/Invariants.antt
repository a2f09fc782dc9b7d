-- no root before i has a fault, and their blocks rank below `top`
use Rattle.std.proofs.Common.{◌≡◌}
use Rattle.refusals.specs.Faults.{first_fault}
use Rattle.sparse_grid.specs.Validate.{root_fault}
use Rattle.sparse_grid.specs.Record.{as_grid}
use Rattle.sparse_grid.specs.Inner.{Topped}
use Rattle.sparse_grid.proofs.paired.PairedGrid.check_roots.Given as goal

abbrev pub invariant-loop-i : goal.invariant-loop-i
invariant-loop-i l = record { topped : Topped l.self.grid.blocks.now l.i l.top; sound : first_fault l.i (root_fault (as_grid l.self.grid)) ≡ 0 }
