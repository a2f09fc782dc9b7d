-- The lines of three classes, and their total.
use Rattle.std.proofs.Common.{get_or, arith}
use Rattle.text.proofs.Writing.{nothing}
use Rattle.report.specs.ClassReport.{class_word, class_line, class_lines, total_word, total_line}
use Rattle.report.proofs.Counting.{class_more, three_lines}
use Rattle.report.proofs.classes.put_counts.Goals as goal

pub loop-k-init : goal.loop-k-init
unfolding class_lines
loop-k-init c = nothing c.args.page.now

pub loop-k-preserved : goal.loop-k-preserved
unfolding class_word class_line
loop-k-preserved c = class_more (λ j. get_or c.args.counts j 0) c.loop-k.k _ (omega arith) c.loop-k.invariant c.put_line.ensures

pub returns : goal.returns
unfolding total_word total_line
returns c = three_lines (λ j. get_or c.args.counts j 0) c.loop-k.k (omega arith) c.loop-k.invariant c.put_line-2.ensures
