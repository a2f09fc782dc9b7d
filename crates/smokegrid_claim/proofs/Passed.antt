-- A result whose number is 0 came past its faults.
use Rattle.std.specs.Prelude.{◌≡◌, refl, ℕ, zero, suc}
use Rattle.std.proofs.Common.{arith}
use Rattle.refusals.specs.Results.{Result, number_of}
use Rattle.refusals.specs.Faults.{passing}

-- no fault before a result whose number is 0
pub passed : {A : Type 0} (n : ℕ) (r : Result A) → number_of (passing n r) ≡ 0 → passing n r ≡ r
passed zero r z = refl
passed (suc n) r z = absurd (omega arith)
