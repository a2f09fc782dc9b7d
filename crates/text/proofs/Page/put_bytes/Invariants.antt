-- The first bytes are written.
use Rattle.std.proofs.Common.{take}
use Rattle.text.specs.Written.{Writes}
use Rattle.text.proofs.Page.put_bytes.Given as goal

abbrev pub invariant-loop-byte : goal.invariant-loop-byte
invariant-loop-byte l = Writes l.initial.self (take l.byte-index l.bytes) l.self
