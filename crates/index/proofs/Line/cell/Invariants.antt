-- the search from k on finds what the search from 0 on finds
use Rattle.std.proofs.Common.{◌≡◌, ◌-◌}
use Rattle.index.specs.Found.{cell_from, axis_cell}
use Rattle.index.proofs.Line.cell.Given as goal

abbrev pub invariant-loop-k : goal.invariant-loop-k
invariant-loop-k l = cell_from l.self.low l.self.high l.n l.v (l.n - l.k) l.k ≡ axis_cell l.self.low l.self.high l.n l.v
