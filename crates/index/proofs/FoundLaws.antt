-- The search on one axis finds a cell that holds the number, where there is one. Assumes nothing.
use Rattle.std.specs.Prelude.{◌≡◌, ℕ, zero, suc, ◌+◌, ◌-◌, ◌≤◌, ◌<◌, Bool, true, false, Float}
use Rattle.std.proofs.Math.Path.{refl, ap}
use Rattle.std.proofs.Common.{sym, ◌∙◌, subst, arith}
use Rattle.std.proofs.Math.Nat as NatL
use Rattle.std.proofs.Math.Bool.{cond}
use Rattle.index.specs.Found.{holds_on, cell_from, axis_cell}

module _ (low high : Float) (n : ℕ) (v : Float) where
  found_here : (c k : ℕ) → holds_on low high n k v ≡ true → cell_from low high n v (suc c) k ≡ k
  unfolding cell_from
  found_here c k e = ap (λ (t : Bool). cond t k (cell_from low high n v c (k + 1))) e

  found_later : (c k : ℕ) → holds_on low high n k v ≡ false → cell_from low high n v (suc c) k ≡ cell_from low high n v c (k + 1)
  unfolding cell_from
  found_later c k e = ap (λ (t : Bool). cond t k (cell_from low high n v c (k + 1))) e

  found_none : (k : ℕ) → cell_from low high n v 0 k ≡ k
  unfolding cell_from
  found_none k = refl

  -- one step of the search from k on
  rest : (k : ℕ) → k < n → n - k ≡ suc (n - (k + 1))
  rest k l = split k n l
    where
      split : (k n : ℕ) → k < n → n - k ≡ suc (n - (k + 1))
      split k n l = omega arith

  pub search_here : (k : ℕ) → k < n → holds_on low high n k v ≡ true → cell_from low high n v (n - k) k ≡ k
  search_here k l e = ap (λ (c : ℕ). cell_from low high n v c k) (rest k l) ∙ found_here (n - (k + 1)) k e

  pub search_on : (k : ℕ) → k < n → holds_on low high n k v ≡ false → cell_from low high n v (n - k) k ≡ cell_from low high n v (n - (k + 1)) (k + 1)
  search_on k l e = ap (λ (c : ℕ). cell_from low high n v c k) (rest k l) ∙ found_later (n - (k + 1)) k e

  pub search_start : cell_from low high n v (n - 0) 0 ≡ axis_cell low high n v
  search_start = ap (λ (c : ℕ). cell_from low high n v c 0) (NatL.sub-zero n)

  pub search_end : (k : ℕ) → n ≤ k → cell_from low high n v (n - k) k ≡ k
  search_end k l = ap (λ (c : ℕ). cell_from low high n v c k) (none k n l) ∙ found_none k
    where
      none : (k n : ℕ) → n ≤ k → n - k ≡ 0
      none k n l = omega arith

  -- what is found below the end holds v
  from_holds : (c k : ℕ) → cell_from low high n v c k < k + c → holds_on low high n (cell_from low high n v c k) v ≡ true
  from_holds zero k l = absurd (omega (arith, l, found_none k))
  from_holds (suc c) k l = go (holds_on low high n k v) refl (from_holds c (k + 1))
    where
      go : (t : Bool) → holds_on low high n k v ≡ t
          → (cell_from low high n v c (k + 1) < k + 1 + c → holds_on low high n (cell_from low high n v c (k + 1)) v ≡ true)
          → holds_on low high n (cell_from low high n v (suc c) k) v ≡ true
      go true e later = subst (λ (i : ℕ). holds_on low high n i v ≡ true) (sym (found_here c k e)) e
      go false e later = subst (λ (i : ℕ). holds_on low high n i v ≡ true) (sym (found_later c k e)) (later (omega (arith, l, found_later c k e)))

  pub found_holds : axis_cell low high n v < n → holds_on low high n (axis_cell low high n v) v ≡ true
  found_holds l = from_holds n 0 (omega (arith, l))

  -- where some cell holds v, one is found
  from_some : (c k i : ℕ) → i < c → holds_on low high n (k + i) v ≡ true → cell_from low high n v c k < k + c
  from_some zero k i l h = absurd (omega (arith, l))
  from_some (suc c) k zero l h = omega (arith, found_here c k (subst (λ (j : ℕ). holds_on low high n j v ≡ true) (NatL.add-zero k) h))
  from_some (suc c) k (suc i) l h =
      go (holds_on low high n k v) refl (from_some c (k + 1) i (omega (arith, l)) (subst (λ (j : ℕ). holds_on low high n j v ≡ true) (next k i) h))
    where
      next : (k i : ℕ) → k + suc i ≡ k + 1 + i
      next k i = omega arith

      go : (t : Bool) → holds_on low high n k v ≡ t → cell_from low high n v c (k + 1) < k + 1 + c → cell_from low high n v (suc c) k < k + suc c
      go true e later = omega (arith, found_here c k e)
      go false e later = omega (arith, found_later c k e, later)

  pub found_some : (k : ℕ) → k < n → holds_on low high n k v ≡ true → axis_cell low high n v < n
  found_some k l h =
      subst (λ (j : ℕ). axis_cell low high n v < j) (NatL.zero-add n)
      (from_some n 0 k l (subst (λ (j : ℕ). holds_on low high n j v ≡ true) (sym (NatL.zero-add k)) h))

-- what a search from the start goes by
pub ruleset search_steps = (search_start, search_here, search_on, search_end)
