-- A blank and the digits.
use Rattle.text.proofs.Writing.{◌then◌}
use Rattle.report.specs.Report.{number}
use Rattle.report.proofs.lines.put_number.Goals as goal

pub returns : goal.returns
unfolding number
returns c = c.put_byte.ensures then c.put_decimal.ensures
