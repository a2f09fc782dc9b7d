-- What the code answers after its tests: the fault, or the value.
use Rattle.std.proofs.Common.{◌≡◌, ℕ, zero, suc, sym, refl, ap, ◌∙◌}
use Rattle.refusals.specs.Results.{Result, ok, refused}
use Rattle.refusals.specs.Faults.{passing}

module _ {A : Type 0} {n m : ℕ} where
  pub stopped : (r : Result A) → n ≡ m → (n ≡ 0 → ⊥) → refused n ≡ passing m r
  stopped r e h = go n h ∙ ap (λ (k : ℕ). passing k r) e
    where
      go : (n : ℕ) → (n ≡ 0 → ⊥) → refused n ≡ passing n r
      go zero h = absurd (h refl)
      go (suc n) h = refl

  pub passed : {a v : A} → n ≡ m → n ≡ 0 → a ≡ v → ok a ≡ passing m (ok v)
  passed {a} {v} e h q = ap ok q ∙ ap (λ (k : ℕ). passing k (ok v)) (sym h ∙ e)
