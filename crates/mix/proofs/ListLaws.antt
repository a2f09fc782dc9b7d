-- A list of points: each density is what the single call answers. Assumes nothing.
use Rattle.std.specs.Prelude.{◌≡◌, List, [], ◌∷◌, ◌++◌, ℕ, zero, suc, ◌+◌, ◌*◌, ◌<◌, eqb, length, get_or, Float}
use Rattle.std.proofs.Common.{sym, ap, ◌∙◌, subst, inl, inr, eq-or-lt_of_le, le_of_suc-le-suc, not-suc-le-zero, add-one, length-append}
use Rattle.std.proofs.Math.ListN.{get_or-append}
use Rattle.std.proofs.Math.Seq.{get_or-append_seam}
use Rattle.refusals.specs.Results.{Result, ok, bind}
use Rattle.refusals.specs.ResultLaws.{bind_ok, ok_injective}
use Rattle.refusals.specs.Faults.{◌then◌, unless}
use Rattle.refusals.specs.FaultLaws.{then_zero, passing_ok}
use Rattle.refusals.proofs.FaultSteps.{passing_on}
use Rattle.float.specs.Zero.{+0}
use Rattle.sparse_grid.specs.Tables.{Grid}
use Rattle.sparse_grid.specs.Lookup.{read_in}
use Rattle.medium.specs.Medium.{Point, Medium}
use Rattle.mix.specs.Density.{density_by, mix_fault, density_at, point_at, densities_of, densities_into}

abbrev Each : (Point → Result Float) → List Float → ℕ → List Float → Type 0
Each density points n l = (length l ≡ n) × ((i : ℕ) → i < n → density (point_at points i) ≡ ok (get_or l i +0))

each_of : (density : Point → Result Float) (points : List Float) (n : ℕ) (l : List Float) → densities_of density points n ≡ ok l
    → Each density points n l
unfolding densities_of
each_of density points zero l e = (ap length (sym (ok_injective e)), λ i h. absurd (not-suc-le-zero h))
each_of density points (suc n) l e =
    let (k, p, q) = bind_ok (densities_of density points n)
    (λ (l : List Float). bind (density (point_at points n)) (λ (v : Float). ok (l ++ (v ∷ [])))) e in
    let (v, r, s) = bind_ok (density (point_at points n)) (λ (v : Float). ok (k ++ (v ∷ []))) q in
    more k v (each_of density points n k p) r (ok_injective s)
  where
    more : (k : List Float) (v : Float) → Each density points n k → density (point_at points n) ≡ ok v → k ++ (v ∷ []) ≡ l
        → Each density points (suc n) l
    more k v (z, f) r s = (
      ap length (sym s) ∙ length-append k (v ∷ []) ∙ ap (λ (x : ℕ). x + 1) z ∙ add-one n,
      λ i h. elim (eq-or-lt_of_le (le_of_suc-le-suc h)) [
        | inl e ↦ ap (λ (j : ℕ). density (point_at points j)) e ∙ r
            ∙ ap ok (sym (ap (λ (x : List Float). get_or x i +0) (sym s) ∙ ap (λ (j : ℕ). get_or (k ++ (v ∷ [])) j +0) (e ∙ sym z)
            ∙ get_or-append_seam k v [] +0))
        | inr j ↦ f i j
            ∙ ap ok (sym (ap (λ (x : List Float). get_or x i +0) (sym s)
            ∙ get_or-append k (v ∷ []) +0 i (subst (λ (n : ℕ). i < n) (sym z) j)))
      ],
    )

-- of a list that is not refused
pub list_each : (g : Grid) (m : Medium) (points : List Float) (places : ℕ) (l : List Float) → densities_into g m points places ≡ ok l
    → (length l ≡ places) × ((i : ℕ) → i < places → density_at g m (point_at points i) ≡ ok (get_or l i +0))
unfolding densities_into density_at
list_each g m points places l e =
    let fault = unless (eqb (length points) (3 * places)) 18 in
    let p = passing_ok (fault then mix_fault g m) (densities_of (density_by (read_in g) m) points places) e in
    let z = (then_zero fault (mix_fault g m) p.0).1 in
    let (long, all) = each_of (density_by (read_in g) m) points places l p.1 in
    (long, λ i h. passing_on (mix_fault g m) (density_by (read_in g) m (point_at points i)) z ∙ all i h)
