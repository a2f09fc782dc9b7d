-- The digits of a finite pattern at their place.
use Rattle.std.proofs.Common.{ℕ, ◌*◌, ◌<◌, sym, ap, ◌∙◌, subst}
use Rattle.std.specs.Prelude.{◌^◌}
use Rattle.std.specs.Float.{binary32}
use Rattle.float.proofs.Tests.{yes}
use Rattle.float.specs.Fields.{digits_of, place_of}
use Rattle.sheet.proofs.UnitLaws.{digits_lt, units_bits}
use Rattle.sheet.proofs.grade.units.Goals as goal

pub returns : goal.returns
returns c =
    let whole = ap (λ (n : ℕ). digits_of binary32 n * 2 ^ place_of binary32 n) c.bits_of-b.ensures in (
      (λ i. c.digits.ensures i * 2 ^ c.place.ensures i) ∙ whole ∙ units_bits c.args.v (yes c.well_formed.0.1) c.requires,
      subst (λ (n : ℕ). n < 2 ^ 24) (sym c.digits.ensures) (digits_lt c.bits_of-b.result),
    )
