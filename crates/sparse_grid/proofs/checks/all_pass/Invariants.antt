-- `sound` says whether the values so far pass
use Rattle.std.proofs.Common.{◌≡◌, ℕ, slice_index_or}
use Rattle.refusals.specs.Faults.{unless, first_fault}
use Rattle.float.specs.Zero.{+0}
use Rattle.sparse_grid.proofs.checks.all_pass.Given as goal

abbrev pub invariant-loop-v : goal.invariant-loop-v
invariant-loop-v g l = (n : ℕ) → first_fault l.v-index (λ i. unless (g.test (slice_index_or l.values i +0)) n) ≡ unless l.sound n
