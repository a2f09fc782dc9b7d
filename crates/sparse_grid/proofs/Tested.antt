-- A table whose values must all pass one test, gone through to its end: `s` says whether those before place i pass.
use Rattle.std.proofs.Common.{◌≡◌, ℕ, zero, suc, ◌+◌, ◌<◌, Bool, true, false, List, length, get_or, refl, sym, ap, ◌∙◌, add-one, arith}
use lib.Ieee.{Float, nan}
use Rattle.refusals.specs.Faults.{◌then◌, unless, first_fault}
use Rattle.refusals.proofs.FaultSteps.{then_stop}
use Rattle.refusals.proofs.ListLaws.{get_d_any}
use Rattle.float.specs.Zero.{+0}

unless_passed : (s : Bool) (n : ℕ) → (unless s n then 0) ≡ unless s n
unless_passed true n = refl
unless_passed false zero = refl
unless_passed false (suc n) = then_stop (suc n) 0 (λ z. omega arith)

unless_failed : (s : Bool) (n : ℕ) → (unless s n then n) ≡ n
unless_failed true n = refl
unless_failed false zero = refl
unless_failed false (suc n) = then_stop (suc n) (suc n) (λ z. omega arith)

module _ (values : List Float) (p : Float → Bool) (n i : ℕ) (s : Bool) (within : i < length values)
    (before : first_fault i (λ k. unless (p (get_or values k +0)) n) ≡ unless s n) where
  abbrev fault : ℕ → ℕ
  fault k = unless (p (get_or values k +0)) n

  -- place i, whose value is read with another default, passes where t is true
  next : (t : Bool) → t ≡ p (get_or values i nan) → first_fault (i + 1) fault ≡ (unless s n then unless t n)
  unfolding first_fault
  next t here =
      ap (λ (k : ℕ). first_fault k fault) (add-one i)
      ∙ (λ k. before k then unless ((ap p (get_d_any values i +0 nan within) ∙ sym here) k) n)

  pub passed : true ≡ p (get_or values i nan) → first_fault (i + 1) fault ≡ unless s n
  passed here = next true here ∙ unless_passed s n

  pub failed : false ≡ p (get_or values i nan) → first_fault (i + 1) fault ≡ n
  failed here = next false here ∙ unless_failed s n
