-- What the build's loops keep. Assumes nothing.
use Rattle.std.specs.Prelude.{◌≡◌, ℕ, zero, suc, ◌+◌, ◌*◌, ◌<◌, ◌≤◌, List, length, take, set}
use Rattle.std.proofs.Common.{sym, refl, ap, ◌∙◌, le_trans, le_of_eq, mul-le-mul_right, suc-mul, add-one, arith, take-suc-set}
use lib.Ieee.{Float}
use Rattle.refusals.specs.Results.{Result, ok, refused, bind}
use Rattle.refusals.specs.ResultLaws.{run_more, run_stop}
use Rattle.refusals.specs.Faults.{passing}
use Rattle.refusals.proofs.FaultSteps.{passing_stop}
use Rattle.majorant.specs.Rows.{chain, push}

-- ---- steps that fill the front of a table

-- after i of n steps from l on: their figures are the first a places of t, which is as long as t₀
pub record Filled (step : ℕ → List Float → Result (List Float)) (l : List Float) (n i a : ℕ) (t₀ t : List Float) : Type 0 where
  pub most : i ≤ n
  pub long : length t ≡ length t₀
  pub run : chain step i l ≡ ok (take a t)

next : (step : ℕ → List Float → Result (List Float)) (l : List Float) (c : ℕ) → chain step (suc c) l ≡ bind (chain step c l) (step c)
next step l c = unfold chain in refl

pub filled_none : (step : ℕ → List Float → Result (List Float)) (l : List Float) (n a : ℕ) (t : List Float) → l ≡ take a t → Filled step l n 0 a t t
unfolding chain
filled_none step l n a t e = record { most = omega arith; long = refl; run = ap ok e }

module _ {step : ℕ → List Float → Result (List Float)} {l : List Float} {n i a : ℕ} {t₀ t : List Float} (f : Filled step l n i a t₀ t) where
  -- the next step leaves the first b places of u
  pub filled_more : {b : ℕ} {u : List Float} → i < n → ok (take b u) ≡ step i (take a t) → length u ≡ length t → Filled step l n (i + 1) b t₀ u
  filled_more {b} {u} h e k = record {
    most = omega arith;
    long = k ∙ f.long;
    run = run_more (λ (c : ℕ). chain step c l) step (next step l) i (take a t) (take b u) f.run (sym e);
  }

  -- a step that refuses ends them
  pub filled_stop : {k : ℕ} (r : Result (List Float)) → i < n → passing k r ≡ step i (take a t) → (k ≡ 0 → ⊥) → (u : List Float)
      → passing k (ok u) ≡ chain step n l
  filled_stop {k} r h e z u =
      passing_stop k (ok u) z
      ∙ sym (run_stop (λ (c : ℕ). chain step c l) step (next step l) i n k (take a t) f.run (sym e ∙ passing_stop k r z) h)

  pub filled_end : {b : ℕ} → n ≤ i → (i ≡ n → a ≡ b) → ok (take b t) ≡ chain step n l
  filled_end h o =
      let e : i ≡ n = omega (arith, f.most) in
      sym (ap (λ (c : ℕ). chain step c l) (sym e) ∙ f.run ∙ ap (λ (k : ℕ). ok (take k t)) (o e))

-- one figure stored behind the front
pub pushed : {a b : ℕ} {v : Float} (t : List Float) {c : Result Float} → a < length t → b ≡ a + 1 → ok v ≡ c → ok (take b (set t a v)) ≡ push c (take a t)
pushed {a} {b} {v} t h o e =
    ap (λ (k : ℕ). ok (take k (set t a v))) (o ∙ add-one a) ∙ ap ok (take-suc-set t a v h) ∙ ap (λ (x : Result Float). push x (take a t)) e

-- a fault pushes nothing
pub stopped_push : {k : ℕ} {c : Result Float} (l : List Float) → refused k ≡ c → (k ≡ 0 → ⊥) → passing k (ok l) ≡ push c l
stopped_push {k} l e z = passing_stop k (ok l) z ∙ ap (λ (x : Result Float). push x l) e

-- ---- places
pub room : (j n s : ℕ) → j < n → j * s + s ≤ n * s
room j n s h = le_trans (le_of_eq (sym (suc-mul j s))) (mul-le-mul_right s h)

pub one_more : (j s : ℕ) → j * s + s ≡ (j + 1) * s
one_more j s = sym (suc-mul j s) ∙ ap (λ (k : ℕ). k * s) (sym (add-one j))
