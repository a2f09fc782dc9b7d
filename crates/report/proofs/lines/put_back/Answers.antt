-- The parts of its line, one after another.
use Rattle.text.proofs.Writing.{◌then◌}
use Rattle.report.specs.Report.{back_word, back_line}
use Rattle.report.proofs.lines.put_back.Goals as goal

pub returns : goal.returns
unfolding back_word back_line
returns c = c.put_bytes.ensures then c.put_bits.ensures then c.put_byte.ensures
