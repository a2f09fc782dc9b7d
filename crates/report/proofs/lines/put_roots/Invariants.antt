-- The first i roots are written.
use Rattle.text.specs.Written.{Writes}
use Rattle.sparse_grid.specs.Record.{as_grid}
use Rattle.report.specs.Report.{root_lines}
use Rattle.report.proofs.lines.put_roots.Given as goal

abbrev pub invariant-loop-i : goal.invariant-loop-i
invariant-loop-i l = Writes l.initial.page (root_lines (as_grid l.grid) l.i) l.page
