-- no entry before i has a fault
use Rattle.std.proofs.Common.{◌≡◌, slice_index, slice_index_or}
use Rattle.refusals.specs.Faults.{first_fault}
use Rattle.float.specs.Zero.{+0}
use Rattle.sparse_grid.specs.Validate.{entry_fault}
use Rattle.sparse_grid.proofs.grid.Entries.check.Given as goal

abbrev pub invariant-loop-i : goal.invariant-loop-i
invariant-loop-i l = first_fault l.i (λ k. entry_fault l.count (slice_index l.self.links.now k) (slice_index_or l.self.values.now k +0)) ≡ 0
