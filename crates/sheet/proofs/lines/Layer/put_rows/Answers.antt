-- The next row below those written.
use Rattle.std.proofs.Common.{arith}
use Rattle.text.proofs.Writing.{begins, leaves_less, leaves_none}
use Rattle.sheet.specs.Sheet.{row_lines}
use Rattle.sheet.proofs.Pages.{rows_next, rows_none}
use Rattle.sheet.proofs.lines.Layer.put_rows.Goals as goal

pub loop-row-init : goal.loop-row-init
loop-row-init c = let s = c.args.self in begins c.args.page.now (row_lines s.x s.greatest s.figures.now s.y)

pub loop-row-preserved : goal.loop-row-preserved
loop-row-preserved c =
    let s = c.args.self in
    leaves_less c.loop-row.invariant (rows_next s.x s.greatest s.figures.now c.loop-row.row c.loop-row-test.true) c.put_row.ensures

pub returns : goal.returns
returns c =
    let s = c.args.self in
    leaves_none c.loop-row.invariant (rows_none s.x s.greatest s.figures.now c.loop-row.row (omega arith))
