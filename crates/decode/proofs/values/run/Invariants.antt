-- The values below i are stored.
use Rattle.std.proofs.Common.{ℕ, ◌+◌, ◌*◌}
use Rattle.layout.specs.Bytes.{f32_at}
use Rattle.decode.specs.Inner.Stored.{Stored}
use Rattle.decode.proofs.values.run.Given as goal

abbrev pub invariant-loop-i : goal.invariant-loop-i
invariant-loop-i l = Stored (λ (i : ℕ). f32_at l.bytes (l.table + 8 * i)) l.base l.from l.fn.values l.i l.values
