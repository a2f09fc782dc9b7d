-- What several proofs cite: a row of tests each of whose failures is 19. Assumes nothing.
use mathlib.Core.Path.{◌≡◌, sym, ◌∙◌}
use mathlib.Core.Bool.{Bool, true, false}
use Prim.Native.Nat.{ℕ, ◌+◌, ◌<◌}
use native.Mathlib.Omega.{arith}
use Rattle.refusals.specs.Faults.{unless, first_fault}
use Rattle.refusals.proofs.FaultSteps.{first_fault_next, first_fault_at}

-- ---- a row of tests, none of which failed before place i

module _ (p : ℕ → Bool) (i : ℕ) (passed : first_fault i (λ k. unless (p k) 19) ≡ 0) where
  pub row_goes : p i ≡ true → first_fault (i + 1) (λ k. unless (p k) 19) ≡ 0
  row_goes h = first_fault_next i (λ k. unless (p k) 19) passed (rw h)

  pub row_stops : (n : ℕ) → i < n → p i ≡ false → 19 ≡ first_fault n (λ k. unless (p k) 19)
  row_stops n l h =
      let f : unless (p i) 19 ≡ 19 = rw h in
      sym (first_fault_at n i (λ k. unless (p k) 19) l passed (λ z. let d = sym f ∙ z in omega arith) ∙ f)
