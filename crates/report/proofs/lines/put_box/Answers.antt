-- The parts of its line, one after another.
use Rattle.text.proofs.Writing.{◌then◌}
use Rattle.report.specs.Report.{box_word, box_line}
use Rattle.report.proofs.lines.put_box.Goals as goal

pub returns : goal.returns
unfolding box_word box_line
returns c = c.put_bytes.ensures then c.put_triple.ensures then c.put_triple-2.ensures then c.put_byte.ensures
