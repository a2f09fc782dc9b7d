-- The first k classes are written.
use Rattle.std.proofs.Common.{get_or}
use Rattle.text.specs.Written.{Writes}
use Rattle.report.specs.ClassReport.{class_lines}
use Rattle.report.proofs.classes.put_counts.Given as goal

abbrev pub invariant-loop-k : goal.invariant-loop-k
invariant-loop-k l = Writes l.initial.page (class_lines (λ j. get_or l.fn.counts j 0) l.k) l.page
