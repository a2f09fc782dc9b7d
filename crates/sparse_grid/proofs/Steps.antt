-- What a program answers that tests places in order.
use Rattle.std.proofs.Common.{◌≡◌, ℕ, ◌<◌, sym, ◌∙◌}
use Rattle.refusals.specs.Faults.{first_fault}
use Rattle.refusals.proofs.FaultSteps.{first_fault_at}

-- the fault k of place i
pub stops : {k : ℕ} (n i : ℕ) (f : ℕ → ℕ) → i < n → first_fault i f ≡ 0 → f i ≡ k → (k ≡ 0 → ⊥) → k ≡ first_fault n f
stops n i f l e q h = sym (first_fault_at n i f l e (λ z. h (sym q ∙ z)) ∙ q)
