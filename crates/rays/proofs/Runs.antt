-- The run of an opened ray: at most X + Y + Z - 2 pieces and then none for ever, each from where the one before ended, and each figure from a place of the
-- table. Assumes nothing.
use Rattle.std.specs.Prelude.{◌≡◌, ℕ, zero, suc, ◌≤◌, List, [], length, Float}
use Rattle.std.proofs.Math.Path.{refl, ap, subst}
use Rattle.std.proofs.Common.{◌∙◌, arith}
use Rattle.std.proofs.Math.Logic.{inl, inr}
use Prim.Native.Nat.{zero-le}
use Rattle.std.proofs.Math.Nat.{suc-le-suc_iff}
use Rattle.refusals.specs.Results.{Result, ok, number_of}
use Rattle.rays.specs.Ray.{State, Step, over, next}
use Rattle.rays.specs.Run.{left, calls, follow, pieces, Chained}
use Rattle.rays.proofs.Turns.{Ready, ended, went, turn, next_over}

module _ (table : List Float) where
  -- ---- the end

  pub stays_over : (i : ℕ) (s : State) → next s table ≡ ok over → calls i s table ≡ s
  unfolding calls
  stays_over zero s e = refl
  stays_over (suc i) s e = ap (λ (r : Result Step). calls i (left s r) table) e ∙ stays_over i s e

  none : (i : ℕ) (s : State) → next s table ≡ ok over → pieces i s table ≡ []
  unfolding pieces
  none zero s e = refl
  none (suc i) s e = ap (λ (r : Result Step). follow r (λ s'. pieces i s' table)) e

  -- ---- from a state from which at most k pieces come

  pub few : (i : ℕ) (s : State) (k : ℕ) → Ready table s k → length (pieces i s table) ≤ k
  unfolding pieces
  few zero s k r = zero-le
  few (suc i) s k r = elim (turn table s k r) [
    | ended e ↦ rw e zero-le
    | went p s' j e q ready from to ↦ rw (e, q) (suc-le-suc_iff.1 (few i s' j ready))
  ]

  pub over_after : (i : ℕ) (s : State) (k : ℕ) → Ready table s k → k ≤ i → next (calls i s table) table ≡ ok over
  unfolding calls
  over_after zero s k r h = elim (turn table s k r) [
    | ended e ↦ e
    | went p s' j e q ready from to ↦ absurd (omega arith)
  ]
  over_after (suc i) s k r h = elim (turn table s k r) [
    | ended e ↦ ap (λ (t : Result Step). next (calls i (left s t) table) table) e ∙ ap (λ (t : State). next t table) (stays_over i s e) ∙ e
    | went p s' j e q ready from to ↦ ap (λ (t : Result Step). next (calls i (left s t) table) table) e ∙ over_after i s' j ready (omega arith)
  ]

  pub unrefused : (i : ℕ) (s : State) (k : ℕ) → Ready table s k → number_of (next (calls i s table) table) ≡ 0
  unfolding calls
  unrefused zero s k r = elim (turn table s k r) [
    | ended e ↦ ap number_of e
    | went p s' j e q ready from to ↦ ap number_of e
  ]
  unrefused (suc i) s k r = elim (turn table s k r) [
    | ended e ↦ ap (λ (t : Result Step). number_of (next (calls i (left s t) table) table)) e ∙ unrefused i s k r
    | went p s' j e q ready from to ↦ ap (λ (t : Result Step). number_of (next (calls i (left s t) table) table)) e ∙ unrefused i s' j ready
  ]

  pub chained : (i : ℕ) (s : State) (k : ℕ) → Ready table s k → Chained s.t_min (pieces i s table)
  unfolding pieces
  chained zero s k r = tt
  chained (suc i) s k r = elim (turn table s k r) [
    | ended e ↦ rw e tt
    | went p s' j e q ready from to ↦ rw e (
      from,
      elim to [
        | inl end ↦ rw (none i s' (next_over table s' ready.fitting end)) tt
        | inr same ↦ subst (λ (t : Float). Chained t (pieces i s' table)) same (chained i s' j ready)
      ],
    )
  ]
