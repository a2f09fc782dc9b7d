-- the first k places hold the ends of the first k cells
use Rattle.std.proofs.Common.{◌≡◌, ℕ, ◌<◌, length}
use Rattle.index.specs.Axes.{axis_ends}
use Rattle.index.specs.Answers.{as_line}
use Rattle.majorant.specs.Rows.{ends_in}
use Rattle.majorant.proofs.build.axis_table.Given as goal

abbrev pub invariant-loop-k : goal.invariant-loop-k
invariant-loop-k l = (length l.table ≡ 128) × ((j : ℕ) → j < l.k → ends_in l.table j ≡ axis_ends (as_line l.line) l.n j)
