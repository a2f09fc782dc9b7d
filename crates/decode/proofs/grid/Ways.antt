-- The ways of the definition's decode, each from the tests that lead there: for a scalar grid, and from there for a density grid. Assumes nothing.
use Rattle.std.specs.Prelude.{◌≡◌, refl, List, ℕ, zero, suc}
use Rattle.std.proofs.Common.{ap, ◌∙◌}
use Rattle.refusals.specs.Results.{Result, ok, refused, bind}
use Rattle.refusals.specs.Faults.{passing}
use Rattle.refusals.proofs.FaultSteps.{passing_stop, passing_on}
use Rattle.sparse_grid.specs.Validate.{density_fault}
use Rattle.nanovdb.specs.Nodes.{Places}
use Rattle.nanovdb.specs.Tree.{Roots, tree}
use Rattle.nanovdb.specs.Decode.{Accepted, tables_of, medium_of, bytes_fault, tree_fault, decode_scalar, decode_density}
use Rattle.nanovdb.specs.Lent.{Lent, lent_fault, places_of, decode_into}

-- what a tree gives
abbrev pub accepted_of : List ℕ → Roots → Accepted
accepted_of b r = record { grid = tables_of b r; medium = medium_of b }

module _ (b : List ℕ) (p : Places) where
  -- the tree, and then the tests of what it gave
  abbrev scalar_rest : Roots → Result Accepted
  scalar_rest = λ (r : Roots). let t : Accepted = accepted_of b r in passing (tree_fault t) (ok t)

  scalar_is : decode_scalar b p ≡ passing (bytes_fault b) (bind (tree b p) scalar_rest)
  unfolding decode_scalar
  scalar_is = refl

  pub of_bytes : (bytes_fault b ≡ 0 → ⊥) → decode_scalar b p ≡ refused (bytes_fault b)
  of_bytes h = scalar_is ∙ passing_stop (bytes_fault b) (bind (tree b p) scalar_rest) h

  module _ (passed : bytes_fault b ≡ 0) where
    scalar_tree : {t : Result Roots} → tree b p ≡ t → decode_scalar b p ≡ bind t scalar_rest
    scalar_tree e = scalar_is ∙ passing_on (bytes_fault b) (bind (tree b p) scalar_rest) passed ∙ ap (λ (t : Result Roots). bind t scalar_rest) e

    pub of_tree : (n : ℕ) → tree b p ≡ refused n → decode_scalar b p ≡ refused n
    of_tree n e = scalar_tree e

    module _ (r : Roots) (read : tree b p ≡ ok r) where
      pub of_fault : (tree_fault (accepted_of b r) ≡ 0 → ⊥) → decode_scalar b p ≡ refused (tree_fault (accepted_of b r))
      of_fault h = scalar_tree read ∙ passing_stop (tree_fault (accepted_of b r)) (ok (accepted_of b r)) h

      pub of_accepted : tree_fault (accepted_of b r) ≡ 0 → decode_scalar b p ≡ ok (accepted_of b r)
      of_accepted h = scalar_tree read ∙ passing_on (tree_fault (accepted_of b r)) (ok (accepted_of b r)) h

-- ---- into lent tables

pub into_lent : (decode : List ℕ → Places → Result Accepted) (b : List ℕ) (l : Lent) → (lent_fault l ≡ 0 → ⊥) → decode_into decode b l ≡ refused (lent_fault l)
unfolding decode_into
into_lent decode b l h = passing_stop (lent_fault l) (decode b (places_of l)) h

pub into_places : (decode : List ℕ → Places → Result Accepted) (b : List ℕ) (l : Lent) → lent_fault l ≡ 0 → decode_into decode b l ≡ decode b (places_of l)
unfolding decode_into
into_places decode b l e = passing_on (lent_fault l) (decode b (places_of l)) e

-- ---- a density grid: what comes of a scalar grid, and then 15

abbrev dense : Accepted → Result Accepted
dense = λ (t : Accepted). passing (density_fault t.grid) (ok t)

bind_passing : {A : Type 0} (n : ℕ) (r : Result A) (f : A → Result A) → passing n (bind r f) ≡ bind (passing n r) f
bind_passing zero r f = refl
bind_passing (suc n) r f = refl

pub of_scalar : (b : List ℕ) (l : Lent) {r : Result Accepted} → decode_into decode_scalar b l ≡ r → decode_into decode_density b l ≡ bind r dense
unfolding decode_into decode_density
of_scalar b l e =
    bind_passing (lent_fault l) (decode_scalar b (places_of l)) dense
    ∙ ap (λ (r : Result Accepted). bind r dense) e
