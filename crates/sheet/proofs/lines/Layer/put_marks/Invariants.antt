-- The characters of what is left of the row are left to be written.
use Rattle.std.proofs.Common.{drop}
use Rattle.text.proofs.Writing.{Leaves}
use Rattle.sheet.specs.Sheet.{marks}
use Rattle.sheet.proofs.lines.Layer.put_marks.Given as goal

abbrev pub invariant-loop-figure : goal.invariant-loop-figure
invariant-loop-figure l =
    let marks = marks l.self.greatest in
    Leaves l.initial.page (marks l.figure-items) l.page (marks (drop l.figure-index l.figure-items))
