-- A result that is a value splits: each step before it gave a value, and each test held. Assumes nothing.
use Rattle.std.specs.Prelude.{◌≡◌, refl, Bool, true, false, cond, ℕ, zero, suc, ◌+◌, ◌<◌, T}
use Rattle.std.proofs.Common.{sym, ap, ◌∙◌, subst, inl, inr, eq-or-lt_of_le, le_of_suc-le-suc, add-one, arith}
use Rattle.refusals.specs.Results.{Result, ok, refused, value_or, Said, said, bind, need}

abbrev Stopped : {A : Type 0} → Result A → Type 0
Stopped (ok a) = ⊥
Stopped (refused n) = Unit {0}

pub stopped : {A : Type 0} {n : ℕ} {a : A} → refused n ≡ ok a → ⊥
stopped e = subst Stopped e tt

pub ok_injective : {A : Type 0} {a b : A} → ok a ≡ ok b → a ≡ b
ok_injective {a = a} e = ap (value_or a) e

pub bind_ok : {A B : Type 0} (m : Result A) (f : A → Result B) {b : B} → bind m f ≡ ok b → (a : A) × (m ≡ ok a) × (f a ≡ ok b)
bind_ok (ok a) f e = (a, refl, e)
bind_ok (refused n) f e = absurd (stopped e)

pub need_ok : {A : Type 0} (t : Bool) (n : ℕ) (r : Result A) {a : A} → need t n r ≡ ok a → T t × (r ≡ ok a)
need_ok true n r e = (tt, e)
need_ok false n r e = absurd (stopped e)

-- ---- what an answer says tells which it is

abbrev outcome : {A : Type 0} → Said A → Result A
outcome s = cond s.accepted (ok s.value) (refused s.number)

outcome_said : {A : Type 0} (z : A) (r : Result A) → outcome (said z r) ≡ r
outcome_said z (ok a) = refl
outcome_said z (refused n) = refl

pub said_same : {A : Type 0} (z : A) (r s : Result A) → said z r ≡ said z s → r ≡ s
said_same z r s e = sym (outcome_said z r) ∙ ap outcome e ∙ outcome_said z s

-- ---- a run of steps, each from what the one before gave

module _ {A : Type 0} (run : ℕ → Result A) (step : ℕ → A → Result A) (next : (n : ℕ) → run (suc n) ≡ bind (run n) (step n)) where
  pub run_more : (i : ℕ) (a c : A) → run i ≡ ok a → step i a ≡ ok c → run (i + 1) ≡ ok c
  run_more i a c e f = ap run (add-one i) ∙ next i ∙ ap (λ (r : Result A). bind r (step i)) e ∙ f

  -- a step that refuses ends the run
  pub run_stop : (i n k : ℕ) (a : A) → run i ≡ ok a → step i a ≡ refused k → i < n → run n ≡ refused k
  run_stop i zero k a e f h = absurd (omega arith)
  run_stop i (suc n) k a e f h = elim (eq-or-lt_of_le (le_of_suc-le-suc h)) [
    | inl q ↦ subst (λ (m : ℕ). run (suc m) ≡ refused k) q (next i ∙ ap (λ (r : Result A). bind r (step i)) e ∙ f)
    | inr q ↦ next n ∙ ap (λ (r : Result A). bind r (step n)) (run_stop i n k a e f q)
  ]
