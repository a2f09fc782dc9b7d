-- The word, and the number of the refusal.
use Rattle.std.proofs.Common.{arith}
use Rattle.report.specs.Report.{refused_word}
use Rattle.report.proofs.Fields.{refused_text}
use Rattle.report.proofs.lines.put_refused.Goals as goal

pub returns-clause-text : goal.returns-clause-text
unfolding refused_word
returns-clause-text c = refused_text (omega (arith, c.from.ensures, c.number.ensures)) c.put_line.ensures
