-- The rows below those written are left to be written.
use Rattle.text.proofs.Writing.{Leaves}
use Rattle.sheet.specs.Sheet.{row_lines}
use Rattle.sheet.proofs.lines.Layer.put_rows.Given as goal

abbrev pub invariant-loop-row : goal.invariant-loop-row
invariant-loop-row l =
    let lines = row_lines l.self.x l.self.greatest l.self.figures.now in
    Leaves l.initial.page (lines l.self.y) l.page (lines l.row)
