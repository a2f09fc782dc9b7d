-- The first i of the eight digits are written.
use Rattle.std.proofs.Common.{◌-◌, ◌*◌, ◌/◌, ◌^◌}
use Rattle.text.specs.Numerals.{sixteens}
use Rattle.text.specs.Written.{Writes}
use Rattle.text.proofs.Page.put_hex8.Given as goal

abbrev pub invariant-loop-i : goal.invariant-loop-i
invariant-loop-i l = Writes l.initial.self (sixteens l.i (l.n / 2 ^ (32 - 4 * l.i))) l.self
