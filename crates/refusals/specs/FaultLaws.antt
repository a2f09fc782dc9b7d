-- Where there is no fault, each test before it held. Assumes nothing.
use Rattle.std.specs.Prelude.{◌≡◌, refl, Bool, true, false, ℕ, zero, suc, ◌<◌, T}
use Rattle.std.proofs.Common.{ap, ◌∙◌, inl, inr, eq-or-lt_of_le, le_of_suc-le-suc, arith, ne_eqb}
use Rattle.refusals.specs.Results.{Result, ok}
use Rattle.refusals.specs.ResultLaws.{stopped}
use Rattle.refusals.specs.Faults.{◌then◌, unless, first_fault, passing}

pub then_zero : (a b : ℕ) → (a then b) ≡ 0 → (a ≡ 0) × (b ≡ 0)
then_zero zero b e = (refl, e)
then_zero (suc a) b e = let z : suc a ≡ 0 = rw (ne_eqb (suc a) 0 (λ (h : suc a ≡ 0). omega arith)) at e in absurd (omega arith)

pub unless_zero : (t : Bool) (n : ℕ) → unless t (suc n) ≡ 0 → T t
unless_zero true n e = tt
unless_zero false n e = omega arith

pub first_fault_zero : (n : ℕ) (f : ℕ → ℕ) → first_fault n f ≡ 0 → (i : ℕ) → i < n → f i ≡ 0
unfolding first_fault
first_fault_zero zero f e i h = omega arith
first_fault_zero (suc n) f e i h =
    let s = then_zero (first_fault n f) (f n) e in
    elim (eq-or-lt_of_le (le_of_suc-le-suc h)) [ inl p ↦ ap f p ∙ s.1 | inr q ↦ first_fault_zero n f s.0 i q ]

pub passing_ok : {A : Type 0} (n : ℕ) (r : Result A) {a : A} → passing n r ≡ ok a → (n ≡ 0) × (r ≡ ok a)
passing_ok zero r e = (refl, e)
passing_ok (suc n) r e = absurd (stopped e)
