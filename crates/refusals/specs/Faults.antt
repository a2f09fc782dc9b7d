-- Refusals in the order in which they are tested. A fault is the number of a refusal, and 0 is none.
use Rattle.std.specs.Prelude.{ℕ, zero, suc, Bool, cond, eqb}
use Rattle.refusals.specs.Results.{Result, refused}

infixr 40 ◌then◌
-- the first of two faults
abbrev pub ◌then◌ : ℕ → ℕ → ℕ
a then b = cond (eqb a 0) b a

-- n where the test fails
abbrev pub unless : Bool → ℕ → ℕ
unless ok n = cond ok 0 n

-- the fault of the lowest place below n that has one
unfoldable pub first_fault : ℕ → (ℕ → ℕ) → ℕ
first_fault zero f = 0
first_fault (suc n) f = first_fault n f then f n

-- what follows where there is no fault, and otherwise the fault
abbrev pub passing : {A : Type 0} → ℕ → Result A → Result A
passing zero r = r
passing (suc n) r = refused (suc n)
