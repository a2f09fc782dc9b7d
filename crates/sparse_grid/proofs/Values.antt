-- What a lookup of a grid reads is a value of its tables, its background, or +0. So where `density_fault` finds none that is negative,
-- no lookup reads one. Assumes nothing.
use Rattle.std.specs.Prelude.{◌≡◌, ℕ, zero, suc, ◌+◌, ◌*◌, Bool, true, false, cond, not, List, length}
use Rattle.std.specs.Prelude.{◌==◌, nat_le, nat_lt, slice_index, slice_index_or, refl, Float}
use Rattle.std.proofs.Common.{subst, sym, ltb-true, ltb-false}
use Rattle.std.proofs.Math.ListN.{get_or-eq_default}
use Rattle.std.specs.Float.Ieee.{lt}
use Rattle.std.specs.Float.Ieee.Bits.{is_false}
use Rattle.refusals.specs.Faults.{◌then◌}
use Rattle.refusals.specs.FaultLaws.{then_zero, unless_zero, first_fault_zero}
use Rattle.float.specs.Zero.{+0}
use Rattle.float.proofs.Ordered.{same_not_lt}
use Rattle.layout.specs.Coordinates.{Coord, slot, block_of, same_block}
use Rattle.sparse_grid.specs.Tables.{Grid, entry_of, entry_at, block_at}
use Rattle.sparse_grid.specs.Validate.{pair_fault, negative, negatives_fault, density_fault}
use Rattle.sparse_grid.specs.Lookup.{Found, value, refused, leaf_at, lower_entry, lower_at, upper_entry, upper_at, root_entry, roots_from}
use Rattle.sparse_grid.specs.Lookup.{lookup, value_in, read_in}

-- a fact of all of them is one of what is read
pub record All (P : Float → Type 0) (g : Grid) : Type 0 where
  pub none : P +0
  pub background : P g.background
  pub roots : (i : ℕ) → P (slice_index_or g.root_values i +0)
  pub upper : (i : ℕ) → P (slice_index_or g.upper_values i +0)
  pub lower : (i : ℕ) → P (slice_index_or g.lower_values i +0)
  pub leaf : (i : ℕ) → P (slice_index_or g.leaf_values i +0)

module _ (P : Float → Type 0) (g : Grid) (all : All P g) (c : Coord) where
  pick : (b : Bool) (x y : Found) → P (value_in x) → P (value_in y) → P (value_in (cond b x y))
  pick true x y p q = p
  pick false x y p q = q

  at_leaf : (k : ℕ) → P (value_in (leaf_at g k c))
  at_leaf k =
      let i = 512 * k + slot 8 1 c in
      pick (nat_le (512 * (k + 1)) (length g.leaf_values)) (value (slice_index_or g.leaf_values i +0) _) (refused 11) (all.leaf i) all.none

  in_lower_lem : (link : ℕ) (v : Float) → P v → P (value_in (lower_entry g c (entry_of link v)))
  in_lower_lem zero v p = p
  in_lower_lem (suc k) v p = at_leaf k

  at_lower_lem : (k : ℕ) → P (value_in (lower_at g k c))
  at_lower_lem k =
      let i = 4096 * k + slot 16 8 c in
      pick (nat_le (4096 * (k + 1)) (length g.lower_links)) (lower_entry g c (entry_at g.lower_links g.lower_values i)) (refused 11)
      (in_lower_lem (slice_index g.lower_links i) (slice_index_or g.lower_values i +0) (all.lower i)) all.none

  in_upper_lem : (link : ℕ) (v : Float) → P v → P (value_in (upper_entry g c (entry_of link v)))
  in_upper_lem zero v p = p
  in_upper_lem (suc k) v p = at_lower_lem k

  at_upper_lem : (k : ℕ) → P (value_in (upper_at g k c))
  at_upper_lem k =
      let i = 32768 * k + slot 32 128 c in
      pick (nat_le (32768 * (k + 1)) (length g.upper_links)) (upper_entry g c (entry_at g.upper_links g.upper_values i)) (refused 11)
      (in_upper_lem (slice_index g.upper_links i) (slice_index_or g.upper_values i +0) (all.upper i)) all.none

  in_root : (link : ℕ) (v : Float) → P v → P (value_in (root_entry g c (entry_of link v)))
  in_root zero v p = p
  in_root (suc k) v p = at_upper_lem k

  from : (n i : ℕ) → P (value_in (roots_from g n i c))
  unfolding roots_from
  from zero i = all.background
  from (suc n) i =
      pick (same_block (block_at g i) (block_of c)) (root_entry g c (entry_at g.root_links g.root_values i)) (roots_from g n (i + 1) c)
      (in_root (slice_index g.root_links i) (slice_index_or g.root_values i +0) (all.roots i)) (from n (i + 1))

  pub read_all : P (read_in g c)
  unfolding lookup
  read_all =
      pick (pair_fault g == 0) (roots_from g (length g.root_links) 0 c) (refused (pair_fault g)) (from (length g.root_links) 0)
      all.none

-- ---- no negative value
abbrev Kept : Float → Type 0
Kept v = lt v +0 ≡ false

kept_of : (v : Float) → negative v ≡ 0 → Kept v
kept_of v e = is_false (lt v +0) (unless_zero (not (lt v +0)) 14 e)

-- past the end of a table +0 is read
kept_all : (l : List Float) → negatives_fault l ≡ 0 → (i : ℕ) → Kept (slice_index_or l i +0)
kept_all l e i = go (nat_lt i (length l)) refl
  where
    go : (b : Bool) → nat_lt i (length l) ≡ b → Kept (slice_index_or l i +0)
    go true h = kept_of (slice_index_or l i +0) (first_fault_zero (length l) (λ j. negative (slice_index_or l j +0)) e i (ltb-true i (length l) h))
    go false h = subst Kept (sym (get_or-eq_default l +0 (ltb-false i (length l) h))) (same_not_lt +0)

pub read_kept : (g : Grid) → density_fault g ≡ 0 → (c : Coord) → lt (read_in g c) +0 ≡ false
unfolding density_fault
read_kept g e c =
    let l = negatives_fault g.lower_values in
    let v = negatives_fault g.leaf_values in
    let u = negatives_fault g.upper_values in
    let a = then_zero (negative g.background) (negatives_fault g.root_values then u then l then v) e in
    let b = then_zero (negatives_fault g.root_values) (u then l then v) a.1 in
    let d = then_zero u (l then v) b.1 in
    let f = then_zero l v d.1 in
    read_all Kept g (record {
      none = same_not_lt +0;
      background = kept_of g.background a.0;
      roots = kept_all g.root_values b.0;
      upper = kept_all g.upper_values d.0;
      lower = kept_all g.lower_values f.0;
      leaf = kept_all g.leaf_values f.1;
    }) c
