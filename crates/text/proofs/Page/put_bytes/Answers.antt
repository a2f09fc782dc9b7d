-- One byte more is written behind the first.
use Rattle.std.proofs.Common.{arith}
use Rattle.text.proofs.Writing.{writes_more}
use Rattle.text.proofs.Page.put_bytes.Goals as goal

pub loop-byte-preserved : goal.loop-byte-preserved
loop-byte-preserved c = writes_more _ c.loop-byte.byte-index (omega arith) c.loop-byte.invariant c.put_byte.ensures
