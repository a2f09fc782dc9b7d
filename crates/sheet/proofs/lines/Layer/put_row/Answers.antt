-- The parts of its line, one after another.
use Rattle.text.proofs.Writing.{◌then◌}
use Rattle.sheet.specs.Sheet.{row_line}
use Rattle.sheet.proofs.lines.Layer.put_row.Goals as goal

pub returns : goal.returns
unfolding row_line
returns c = c.put_place.ensures then c.put_byte.ensures then c.put_marks.ensures then c.put_byte-2.ensures
