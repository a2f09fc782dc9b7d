-- Which of several faults is the first: what a program that tests them in order goes by. Assumes nothing.
use Rattle.std.specs.Prelude.{◌≡◌, refl, Bool, true, false, cond, ℕ, zero, suc, ◌+◌, ◌≤◌, ◌<◌, eqb}
use Rattle.std.proofs.Common.{sym, ap, ◌∙◌, inl, inr, eq-or-lt_of_le, le_of_suc-le-suc, add-one, arith, eq-eqb, ne_eqb}
use Rattle.refusals.specs.Results.{Result, refused}
use Rattle.refusals.specs.Faults.{◌then◌, first_fault, passing}

-- after no fault the next one counts
pub then_next : (a b : ℕ) → a ≡ 0 → (a then b) ≡ b
then_next a b e = ap (λ (t : Bool). cond t b a) (eq-eqb a 0 e)

-- a fault ends the tests
pub then_stop : (a b : ℕ) → (a ≡ 0 → ⊥) → (a then b) ≡ a
then_stop a b h = ap (λ (t : Bool). cond t b a) (ne_eqb a 0 h)

pub then_assoc : (a b c : ℕ) → ((a then b) then c) ≡ (a then (b then c))
then_assoc a b c = go (eqb a 0) refl
  where
    go : (t : Bool) → eqb a 0 ≡ t → (cond t b a then c) ≡ cond t (b then c) a
    go true e = refl
    go false e = ap (λ (t : Bool). cond t c a) e

-- what follows a fault is the fault, and what follows none goes on
pub passing_stop : {A : Type 0} (n : ℕ) (r : Result A) → (n ≡ 0 → ⊥) → passing n r ≡ refused n
passing_stop zero r h = absurd (h refl)
passing_stop (suc n) r h = refl

pub passing_on : {A : Type 0} (n : ℕ) (r : Result A) → n ≡ 0 → passing n r ≡ r
passing_on n r e = ap (λ (k : ℕ). passing k r) e

-- ---- the first of a row of faults: none of the places before i has one

pub first_fault_none : (f : ℕ → ℕ) → first_fault 0 f ≡ 0
unfolding first_fault
first_fault_none f = refl

pub first_fault_next : (i : ℕ) (f : ℕ → ℕ) → first_fault i f ≡ 0 → f i ≡ 0 → first_fault (i + 1) f ≡ 0
unfolding first_fault
first_fault_next i f e h = ap (λ (k : ℕ). first_fault k f) (add-one i) ∙ then_next (first_fault i f) (f i) e ∙ h

-- the fault of place i is the first
pub first_fault_at : (n i : ℕ) (f : ℕ → ℕ) → i < n → first_fault i f ≡ 0 → (f i ≡ 0 → ⊥) → first_fault n f ≡ f i
unfolding first_fault
first_fault_at zero i f l e h = absurd (omega arith)
first_fault_at (suc n) i f l e h =
    elim (eq-or-lt_of_le (le_of_suc-le-suc l)) [
      | inl p ↦ ap (λ (k : ℕ). first_fault (suc k) f) (sym p) ∙ then_next (first_fault i f) (f i) e
      | inr q ↦ (let r = first_fault_at n i f q e h in then_stop (first_fault n f) (f n) (λ z. h (sym r ∙ z)) ∙ r)
    ]

-- there is no place left
pub first_fault_end : (n i : ℕ) (f : ℕ → ℕ) → i ≤ n → n ≤ i → first_fault i f ≡ 0 → first_fault n f ≡ 0
first_fault_end n i f l k e = let q : n ≡ i = omega arith in ap (λ (m : ℕ). first_fault m f) q ∙ e
