-- A blank and the eight digits of the bits.
use Rattle.report.proofs.Fields.{put_bits}
use Rattle.report.proofs.lines.put_bits.Goals as goal

pub returns : goal.returns
returns c = put_bits c.args.v c.bits_of.ensures c.put_byte.ensures c.put_hex8.ensures
