-- What holds of a grid whose tables are paired, and of one that passed `validate`. Assumes nothing.
use Rattle.std.specs.Prelude.{◌≡◌, ℕ, zero, suc, ◌*◌, ◌/◌, ◌<◌, ◌≤◌, Bool, true, false, not, ◌&&◌, T, List, length, nat_eq, nat_lt, slice_index, slice_index_or, refl, Float}
use Rattle.std.proofs.Common.{arith, eqb→eq, ltb→lt, ltb-true, ltb-false}
use Rattle.std.proofs.lemmas.Bool.{not-true}
use Rattle.std.proofs.Math.ListN.{get_or-eq_default}
use Rattle.std.specs.Float.Ieee.{eq}
use Rattle.std.specs.Float.Ieee.Scale.{finite}
use Rattle.refusals.specs.Faults.{unless, first_fault}
use Rattle.refusals.specs.FaultLaws.{then_zero, unless_zero, first_fault_zero}
use Rattle.refusals.specs.TestLaws.{and_l, and_r}
use Rattle.float.specs.Zero.{+0}
use Rattle.sparse_grid.specs.Tables.{Grid, block_at}
use Rattle.sparse_grid.specs.Validate.{value_fault, entry_fault, entries_fault, values_fault, block_in, earlier, root_fault, pair_fault, shape_fault, validate}

-- ---- tables that are paired

pub record Paired (g : Grid) : Type 0 where
  pub roots : length g.root_links ≡ length g.root_values
  pub blocks : length g.blocks ≡ 3 * length g.root_links
  pub upper : length g.upper_links ≡ length g.upper_values
  pub lower : length g.lower_links ≡ length g.lower_values

pub pairs : (g : Grid) → pair_fault g ≡ 0 → Paired g
unfolding pair_fault
pairs g h =
    let roots = nat_eq (length g.root_links) (length g.root_values) in
    let blocks = nat_eq (length g.blocks) (3 * length g.root_links) in
    let upper = nat_eq (length g.upper_links) (length g.upper_values) in
    let lower = nat_eq (length g.lower_links) (length g.lower_values) in
    let p = unless_zero (roots && blocks && upper && lower) 17 h in
    let q = and_l (roots && blocks && upper) lower p in
    let r = and_l (roots && blocks) upper q in
    record {
      roots = eqb→eq _ _ (and_l roots blocks r);
      blocks = eqb→eq _ _ (and_r roots blocks r);
      upper = eqb→eq _ _ (and_r (roots && blocks) upper q);
      lower = eqb→eq _ _ (and_r (roots && blocks && upper) lower p);
    }

-- ---- a grid that passed `validate`

pub record Sound (g : Grid) : Type 0 where
  pub paired : pair_fault g ≡ 0
  pub roots : length g.root_links ≡ length g.root_values
  pub blocks : length g.blocks ≡ 3 * length g.root_links
  pub upper : length g.upper_links ≡ length g.upper_values
  pub lower : length g.lower_links ≡ length g.lower_values
  -- a link names a node that its table has whole; past the links' end there is none
  pub root_linked : (i : ℕ) → 32768 * slice_index g.root_links i ≤ length g.upper_links
  pub upper_linked : (i : ℕ) → 4096 * slice_index g.upper_links i ≤ length g.lower_links
  pub lower_linked : (i : ℕ) → 512 * slice_index g.lower_links i ≤ length g.leaf_values
  -- blocks differ, and are in range
  pub apart : (i : ℕ) → i < length g.root_links → earlier g i (block_at g i) ≡ false
  pub ranged : (i : ℕ) → i < length g.root_links → (block_in (block_at g i).x ≡ true) × (block_in (block_at g i).y ≡ true) × (block_in (block_at g i).z ≡ true)
  -- every value that a lookup can read is finite
  pub background_finite : T (finite g.background)
  pub root_finite : (i : ℕ) → i < length g.root_links → slice_index g.root_links i ≡ 0 → T (finite (slice_index_or g.root_values i +0))
  pub upper_finite : (i : ℕ) → i < length g.upper_links → slice_index g.upper_links i ≡ 0 → T (finite (slice_index_or g.upper_values i +0))
  pub lower_finite : (i : ℕ) → i < length g.lower_links → slice_index g.lower_links i ≡ 0 → T (finite (slice_index_or g.lower_values i +0))
  pub leaf_finite : (i : ℕ) → i < length g.leaf_values → T (finite (slice_index_or g.leaf_values i +0))

-- one entry

entry_linked : (count l : ℕ) (v : Float) → entry_fault count l v ≡ 0 → l ≤ count
entry_linked count zero v h = omega arith
entry_linked count (suc k) v h = let l = ltb→lt k count (and_l (nat_lt k count) (eq v +0) (unless_zero (nat_lt k count && eq v +0) 10 h)) in omega arith

entry_finite : (count l : ℕ) (v : Float) → entry_fault count l v ≡ 0 → l ≡ 0 → T (finite v)
entry_finite count zero v h e = unless_zero (finite v) 11 h
entry_finite count (suc k) v h e = absurd (omega arith)

all_linked : (links : List ℕ) (count : ℕ) → ((i : ℕ) → i < length links → slice_index links i ≤ count) → (i : ℕ) → slice_index links i ≤ count
all_linked links count h i = go (nat_lt i (length links)) refl
  where
    go : (t : Bool) → nat_lt i (length links) ≡ t → slice_index links i ≤ count
    go true e = h i (ltb-true i (length links) e)
    go false e = let d = get_or-eq_default links 0 (ltb-false i (length links) e) in omega arith

true_of : (t : Bool) → T t → t ≡ true
true_of true h = refl
true_of false h = absurd h

module _ (g : Grid) (i : ℕ) (h : root_fault g i ≡ 0) where
  root_parts : T (block_in (block_at g i).x && block_in (block_at g i).y && block_in (block_at g i).z && not (earlier g i (block_at g i)))
      × (entry_fault (length g.upper_links / 32768) (slice_index g.root_links i) (slice_index_or g.root_values i +0) ≡ 0)
  unfolding root_fault
  root_parts =
      let b = block_at g i in
      let test = block_in b.x && block_in b.y && block_in b.z && not (earlier g i b) in
      let p = then_zero (unless test 11) (entry_fault (length g.upper_links / 32768) (slice_index g.root_links i) (slice_index_or g.root_values i +0)) h in
      (unless_zero test 10 p.0, p.1)

  root_apart : earlier g i (block_at g i) ≡ false
  root_apart =
      let b = block_at g i in
      let again = earlier g i b in
      not-true again (true_of (not again) (and_r (block_in b.x && block_in b.y && block_in b.z) (not again) root_parts.0))

  root_ranged : (block_in (block_at g i).x ≡ true) × (block_in (block_at g i).y ≡ true) × (block_in (block_at g i).z ≡ true)
  root_ranged =
      let b = block_at g i in
      let p = and_l (block_in b.x && block_in b.y && block_in b.z) (not (earlier g i b)) root_parts.0 in
      let q = and_l (block_in b.x && block_in b.y) (block_in b.z) p in (
        true_of _ (and_l (block_in b.x) (block_in b.y) q),
        true_of _ (and_r (block_in b.x) (block_in b.y) q),
        true_of _ (and_r (block_in b.x && block_in b.y) (block_in b.z) p),
      )

module _ (g : Grid) (v : validate g ≡ 0) where
  -- every part of `validate` passed
  parts : (pair_fault g ≡ 0) × (shape_fault g ≡ 0) × (first_fault (length g.root_links) (root_fault g) ≡ 0)
      × (entries_fault (length g.lower_links / 4096) g.upper_links g.upper_values ≡ 0)
      × (entries_fault (length g.leaf_values / 512) g.lower_links g.lower_values ≡ 0)
      × (value_fault g.background ≡ 0) × (values_fault g.leaf_values ≡ 0)
  unfolding validate
  parts =
      let a = then_zero (pair_fault g) _ v in
      let b = then_zero (shape_fault g) _ a.1 in
      let c = then_zero (first_fault (length g.root_links) (root_fault g)) _ b.1 in
      let d = then_zero (entries_fault (length g.lower_links / 4096) g.upper_links g.upper_values) _ c.1 in
      let e = then_zero (entries_fault (length g.leaf_values / 512) g.lower_links g.lower_values) _ d.1 in
      let f = then_zero (value_fault g.background) (values_fault g.leaf_values) e.1 in
      (a.0, b.0, c.0, d.0, e.0, f.0, f.1)

  pub shaped : shape_fault g ≡ 0
  shaped = parts.1

  root : (i : ℕ) → i < length g.root_links → root_fault g i ≡ 0
  root = first_fault_zero (length g.root_links) (root_fault g) parts.2

  abbrev upper_fault : ℕ → ℕ
  upper_fault i = entry_fault (length g.lower_links / 4096) (slice_index g.upper_links i) (slice_index_or g.upper_values i +0)

  upper_entry_lem : (i : ℕ) → i < length g.upper_links → upper_fault i ≡ 0
  upper_entry_lem = first_fault_zero (length g.upper_links) upper_fault parts.3

  abbrev lower_fault : ℕ → ℕ
  lower_fault i = entry_fault (length g.leaf_values / 512) (slice_index g.lower_links i) (slice_index_or g.lower_values i +0)

  lower_entry_lem : (i : ℕ) → i < length g.lower_links → lower_fault i ≡ 0
  lower_entry_lem = first_fault_zero (length g.lower_links) lower_fault parts.4

  leaf_value_lem : (i : ℕ) → i < length g.leaf_values → value_fault (slice_index_or g.leaf_values i +0) ≡ 0
  leaf_value_lem = first_fault_zero (length g.leaf_values) (λ i. value_fault (slice_index_or g.leaf_values i +0)) parts.6

  pub sound : Sound g
  sound = record {
    paired = parts.0;
    roots = (pairs g parts.0).roots;
    blocks = (pairs g parts.0).blocks;
    upper = (pairs g parts.0).upper;
    lower = (pairs g parts.0).lower;
    root_linked = λ i.
        let h = all_linked g.root_links (length g.upper_links / 32768) (λ j l. entry_linked _ _ _ (root_parts g j (root j l)).1) i in
        omega arith;
    upper_linked = λ i.
        let h = all_linked g.upper_links (length g.lower_links / 4096) (λ j l. entry_linked _ _ _ (upper_entry_lem j l)) i in
        omega arith;
    lower_linked = λ i.
        let h = all_linked g.lower_links (length g.leaf_values / 512) (λ j l. entry_linked _ _ _ (lower_entry_lem j l)) i in
        omega arith;
    apart = λ i l. root_apart g i (root i l);
    ranged = λ i l. root_ranged g i (root i l);
    background_finite = unless_zero (finite g.background) 11 parts.5;
    root_finite = λ i l e. entry_finite _ _ _ (root_parts g i (root i l)).1 e;
    upper_finite = λ i l e. entry_finite _ _ _ (upper_entry_lem i l) e;
    lower_finite = λ i l e. entry_finite _ _ _ (lower_entry_lem i l) e;
    leaf_finite = λ i l. unless_zero (finite (slice_index_or g.leaf_values i +0)) 11 (leaf_value_lem i l);
  }
