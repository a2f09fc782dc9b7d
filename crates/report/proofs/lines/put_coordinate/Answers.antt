-- A blank and the signed digits.
use Rattle.report.proofs.Fields.{put_coordinate}
use Rattle.report.proofs.lines.put_coordinate.Goals as goal

pub returns : goal.returns
returns c = put_coordinate c.ranges.n c.put_byte.ensures c.put_signed.ensures
