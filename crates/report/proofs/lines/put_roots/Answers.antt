-- One root more.
use Rattle.text.proofs.Writing.{nothing}
use Rattle.sparse_grid.specs.Record.{as_grid}
use Rattle.report.specs.Report.{root_lines}
use Rattle.report.proofs.Fields.{root_more}
use Rattle.report.proofs.lines.put_roots.Goals as goal

pub loop-i-init : goal.loop-i-init
unfolding root_lines
loop-i-init c = nothing c.args.page.now

pub loop-i-preserved : goal.loop-i-preserved
loop-i-preserved c = root_more (as_grid c.args.grid.now) c.loop-i.i c.loop-i.invariant c.put_root.ensures
