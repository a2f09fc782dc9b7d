-- The tests are those of `coordinate`, which asks besides that v is finite; in range, the whole part in 64 bits is that in 32.
use Rattle.std.proofs.Common.{◌≡◌, ℤ, sym, ◌∙◌, ap, subst, w32, w64, FitsSigned, to_z, of_z}
use Rattle.std.proofs.lemmas.Int.{to_z-of_z}
use Rattle.std.specs.Float.Ieee.{of_bits, neg, to_signed}
use Rattle.std.specs.Float.Ieee.Casts.{to_signed_in}
use Rattle.refusals.specs.Results.{ok}
use Rattle.float.proofs.Tests.{yes}
use Rattle.float.proofs.Ranged.{in_64, same_signed, inside, under, over}
use Rattle.float.proofs.whole.checked_coordinate.Goals as goal
use Rattle.float.proofs.whole.checked_coordinate.Goals.{else-v-via-then-v+else-v-2, else-v-via-else-v}

pub truncating_f64_to_i64-requires-clause-lower_bound : goal.truncating_f64_to_i64-requires-clause-lower_bound
unfolding of_bits neg
truncating_f64_to_i64-requires-clause-lower_bound c = (in_64 c.args.v (yes c.if-v.true) (yes c.if-v-2.true)).0

pub truncating_f64_to_i64-requires-clause-upper_bound : goal.truncating_f64_to_i64-requires-clause-upper_bound
unfolding of_bits neg
truncating_f64_to_i64-requires-clause-upper_bound c = (in_64 c.args.v (yes c.if-v.true) (yes c.if-v-2.true)).1

-- what a local of 64 bits holds
whole : (c : goal.After-truncating_f64_to_i64) → to_z w64 (of_z w64 c.truncating_f64_to_i64.result) ≡ to_signed 31 c.args.v
unfolding of_bits neg
whole c =
    let r = c.truncating_f64_to_i64 in
    to_z-of_z w64 r.result (record { sfits = r.type_inv }) ∙ r.ensures ∙ same_signed c.args.v (yes c.if-v.true) (yes c.if-v-2.true)

pub overflow_cast-result : goal.overflow_cast-result
overflow_cast-result c = subst (λ (z : ℤ). FitsSigned w32 z) (sym (whole c)) (record { sfits = to_signed_in 31 c.args.v })

pub returns-then-v-2 : goal.returns-then-v-2
unfolding of_bits neg
returns-then-v-2 c =
    ap (λ (z : ℤ). ok (to_z w32 (of_z w32 z))) (whole c) ∙ ap ok (to_z-of_z w32 (to_signed 31 c.args.v) (record { sfits = to_signed_in 31 c.args.v }))
    ∙ sym (inside c.args.v c.if-v.true c.if-v-2.true)

pub returns-else-v : goal.returns-else-v
unfolding of_bits neg
returns-else-v c =
    elim c.else-v.branch [
      | else-v-via-then-v+else-v-2 w ↦ sym (over c.args.v w.if-v-2.false)
      | else-v-via-else-v w ↦ sym (under c.args.v w.if-v.false)
    ]
