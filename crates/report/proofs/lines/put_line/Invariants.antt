-- The numbers that are not written, and the end of the line, are left to be written.
use Rattle.std.proofs.Common.{◌++◌, drop}
use Rattle.text.proofs.Writing.{Leaves}
use Rattle.report.specs.Lines.{numbers}
use Rattle.report.proofs.lines.put_line.Given as goal

abbrev pub invariant-loop-n : goal.invariant-loop-n
invariant-loop-n l = Leaves l.fn.page (l.word ++ numbers l.values) l.page (numbers (drop l.n-index l.values))
