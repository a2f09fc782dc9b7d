-- Two grids over the same nodes whose roots are the same by a one-to-one map of their numbers: where the one is valid so is the other, and every
-- lookup reads the same value at the same level. Blocks that differ are what it takes: then a block is found at its one root. Assumes nothing.
use Rattle.std.specs.Prelude.{◌≡◌, ℕ, zero, suc, ◌+◌, ◌*◌, ◌/◌, ◌<◌, ◌≤◌, Bool, true, false, cond, not, ◌&&◌, ◌||◌, T, ◌⊎◌, List, length, get_or, ℤ, ◌==◌, ◌≢◌, nat_le, slice_index, slice_index_or, refl, Float}
use Rattle.std.proofs.Common.{arith, not-suc-le-zero, ◌∙◌, subst, inl, inr, ⊎_elim}
use Rattle.std.proofs.Math.Path.{sym, ap}
use Rattle.refusals.specs.Faults.{◌then◌, unless, first_fault}
use Rattle.refusals.specs.FaultLaws.{then_zero, first_fault_zero}
use Rattle.float.specs.Zero.{+0}
use Rattle.layout.specs.Coordinates.{Coord, eq_z, slot, block_of, same_block}
use Rattle.layout.specs.Walk.{of_background}
use Rattle.sparse_grid.specs.declared.Entry.{Entry}
use Rattle.sparse_grid.specs.declared.Entry.TheVariants.{Child, Tile}
use Rattle.sparse_grid.specs.Tables.{Grid, entry_of, entry_at, block_at}
use Rattle.sparse_grid.specs.Validate.{entry_fault, block_in, earlier, root_fault, pair_fault, shape_fault, entries_fault, value_fault, values_fault, validate}
use Rattle.sparse_grid.specs.Lookup.{Found, value, refused, roots_from, root_entry, upper_entry, lower_entry, lookup}
use Rattle.sparse_grid.specs.Count.{split_eq, split_lt}
use Rattle.sparse_grid.proofs.Signs.{eq_z_self, eq_z_true, both}
use Rattle.sparse_grid.specs.Sound.{sound}
use Rattle.sparse_grid.specs.Roots.{with_roots}
use Rattle.sparse_grid.specs.Reorder.{Moved}

-- ---- tests

clash : {t : Bool} {A : Type 0} → t ≡ true → t ≡ false → A
clash p q = absurd (subst T (sym p ∙ q) tt)

split_test : {A : Type 0} (t : Bool) → (t ≡ true → A) → (t ≡ false → A) → A
split_test true p q = p refl
split_test false p q = q refl

none_of : (t : Bool) → (t ≢ true) → t ≡ false
none_of true h = absurd (h refl)
none_of false h = refl

or_none : (a b : Bool) → (a || b) ≡ false → (a ≡ false) × (b ≡ false)
or_none true b h = clash refl h
or_none false b h = (refl, h)

same_block_lem : (a b : Coord) → same_block a b ≡ true → a ≡ b
same_block_lem a b e =
    let p = both (eq_z a.x b.x && eq_z a.y b.y) (eq_z a.z b.z) e in
    let q = both (eq_z a.x b.x) (eq_z a.y b.y) p.0 in
    λ i. record { x = eq_z_true a.x b.x q.0 i; y = eq_z_true a.y b.y q.1 i; z = eq_z_true a.z b.z p.1 i }

block_self : (a : Coord) → same_block a a ≡ true
block_self a = rw (eq_z_self a.x, eq_z_self a.y, eq_z_self a.z)

-- ---- faults

all_passed : (n : ℕ) (f : ℕ → ℕ) → ((i : ℕ) → i < n → f i ≡ 0) → first_fault n f ≡ 0
unfolding first_fault
all_passed zero f h = refl
all_passed (suc n) f h = rw (all_passed n f (λ i l. h i (omega arith))) (h n (omega arith))

-- no root before i has the block b
earlier_none : (g : Grid) (i : ℕ) (b : Coord) → earlier g i b ≡ false → (j : ℕ) → j < i → same_block (block_at g j) b ≡ false
unfolding earlier
earlier_none g zero b h j l = absurd (not-suc-le-zero l)
earlier_none g (suc i) b h j l =
    let p = or_none (earlier g i b) (same_block (block_at g i) b) h in
    split_eq j i
    (λ e. subst (λ (k : ℕ). same_block (block_at g k) b ≡ false) (sym e) p.1)
    (λ d. earlier_none g i b p.0 j (less j i l d))
  where
    less : (j i : ℕ) → j < suc i → (j ≢ i) → j < i
    less j i l d = split_lt j i (λ h. h) (λ h. absurd (d (omega arith)))

none_earlier : (g : Grid) (i : ℕ) (b : Coord) → ((j : ℕ) → j < i → same_block (block_at g j) b ≡ false) → earlier g i b ≡ false
unfolding earlier
none_earlier g zero b h = refl
none_earlier g (suc i) b h = rw (none_earlier g i b (λ j l. h j (omega arith))) (h i (omega arith))

-- ---- a lookup by the root that has the block

-- no root of n from i on has the block
roots_none : (g : Grid) (c : Coord) (n i : ℕ) → ((j : ℕ) → i ≤ j → j < i + n → same_block (block_at g j) (block_of c) ≡ false)
    → roots_from g n i c ≡ value g.background of_background
unfolding roots_from
roots_none g c zero i h = refl
roots_none g c (suc n) i h = rw (h i (omega arith) (omega arith)) (roots_none g c n (i + 1) (λ j l k. h j (omega arith) (omega arith)))

-- root j has it, and none before
roots_one : (g : Grid) (c : Coord) (n i j : ℕ) → i ≤ j → j < i + n → same_block (block_at g j) (block_of c) ≡ true
    → ((k : ℕ) → k < j → same_block (block_at g k) (block_of c) ≡ false) → roots_from g n i c ≡ root_entry g c (entry_at g.root_links g.root_values j)
unfolding roots_from
roots_one g c zero i j l k e h = absurd (omega arith)
roots_one g c (suc n) i j l k e h =
    split_eq i j
    (λ q. subst (λ (x : ℕ). roots_from g (suc n) x c ≡ root_entry g c (entry_at g.root_links g.root_values j)) (sym q) (rw e refl))
    (λ d.
    let less : i < j = split_lt i j (λ x. x) (λ x. absurd (d (omega arith))) in
    rw (h i less) (roots_one g c n (i + 1) j (omega arith) (omega arith) e h))

-- one of the first n roots has the block b, or none
found : (g : Grid) (b : Coord) (n : ℕ)
    → ((j : ℕ) × (j < n) × (same_block (block_at g j) b ≡ true)) ⊎ ((j : ℕ) → j < n → same_block (block_at g j) b ≡ false)
found g b zero = inr (λ j l. absurd (not-suc-le-zero l))
found g b (suc n) =
    split_test (same_block (block_at g n) b)
    (λ e. inl (n, omega arith, e))
    (λ e. ⊎_elim (λ w. inl (w.0, grown w.0 n w.1, w.2)) (λ h. inr (λ j l. split_lt j n (h j) (λ k. last j (omega arith) e))) (found g b n))
  where
    grown : (i n : ℕ) → i < n → i < suc n
    grown i n h = omega arith

    last : (j : ℕ) → j ≡ n → same_block (block_at g n) b ≡ false → same_block (block_at g j) b ≡ false
    last j q e = subst (λ (x : ℕ). same_block (block_at g x) b ≡ false) (sym q) e

-- ---- valid grids

-- two roots of a valid grid with one block are one
one_root : (g : Grid) → validate g ≡ 0 → (i j : ℕ) → i < length g.root_links → j < length g.root_links → block_at g i ≡ block_at g j → i ≡ j
one_root g v i j p q e = split_lt i j (λ l. before i j q e l) (λ k. split_lt j i (λ l. sym (before j i p (sym e) l)) (λ l. omega arith))
  where
    before : (i j : ℕ) → j < length g.root_links → block_at g i ≡ block_at g j → i < j → i ≡ j
    before i j q e l =
        clash (ap (λ (b : Coord). same_block (block_at g i) b) (sym e) ∙ block_self (block_at g i))
        (earlier_none g j (block_at g j) ((sound g v).apart j q) i l)

roots_passed : (g : Grid) → validate g ≡ 0 → (i : ℕ) → i < length g.root_links → root_fault g i ≡ 0
unfolding validate
roots_passed g v =
    first_fault_zero (length g.root_links) (root_fault g) (then_zero _ _ (then_zero (shape_fault g) _ (then_zero (pair_fault g) _ v).1).1).0

entry_passed : (g : Grid) (i : ℕ) → root_fault g i ≡ 0
    → entry_fault (length g.upper_links / 32768) (slice_index g.root_links i) (slice_index_or g.root_values i +0) ≡ 0
unfolding root_fault
entry_passed g i h =
    let b = block_at g i in
    (then_zero (unless (block_in b.x && block_in b.y && block_in b.z && not (earlier g i b)) 11)
    (entry_fault (length g.upper_links / 32768) (slice_index g.root_links i) (slice_index_or g.root_values i +0)) h).1

no_fault : {p q r s : Bool} {e : ℕ} → p ≡ true → q ≡ true → r ≡ true → s ≡ false → e ≡ 0 → (unless (p && q && r && not s) 11 then e) ≡ 0
no_fault P Q R S E = λ j. unless (P j && Q j && R j && not (S j)) 11 then E j

-- ---- below the roots nothing differs

module _ (g : Grid) (blocks : List ℤ) (links : List ℕ) (values : List Float) (c : Coord) where
  lower_below : (e : Entry) → lower_entry (with_roots g blocks links values) c e ≡ lower_entry g c e
  lower_below (Child k) = refl
  lower_below (Tile v) = refl

  upper_below : (e : Entry) → upper_entry (with_roots g blocks links values) c e ≡ upper_entry g c e
  upper_below (Child k) =
      ap (λ (f : Found). cond (nat_le (4096 * (k + 1)) (length g.lower_links)) f (refused 11))
      (lower_below (entry_at g.lower_links g.lower_values (4096 * k + slot 16 8 c)))
  upper_below (Tile v) = refl

  root_below : (e : Entry) → root_entry (with_roots g blocks links values) c e ≡ root_entry g c e
  root_below (Child k) =
      ap (λ (f : Found). cond (nat_le (32768 * (k + 1)) (length g.upper_links)) f (refused 11))
      (upper_below (entry_at g.upper_links g.upper_values (32768 * k + slot 32 128 c)))
  root_below (Tile v) = refl

-- ---- the grid with the moved roots

module _ (g : Grid) (blocks : List ℤ) (links : List ℕ) (values : List Float) where
  abbrev h : Grid
  h = with_roots g blocks links values

  module _ (o : Moved g h) where
    pairs_as_before : pair_fault h ≡ pair_fault g
    unfolding pair_fault
    pairs_as_before = rw (o.links, o.values, o.blocks)

    shape_as_before : shape_fault h ≡ shape_fault g
    unfolding shape_fault
    shape_as_before = rw o.links

    module _ (v : validate g ≡ 0) where
      -- a moved root has the block of no root before it
      apart : (i : ℕ) → i < length g.root_links → earlier h i (block_at h i) ≡ false
      apart i l =
          none_earlier h i (block_at h i) (λ j k.
          none_of (same_block (block_at h j) (block_at h i)) (λ e.
          let J : j < length g.root_links = omega arith in
          let s = one_root g v (o.to j) (o.to i) (o.to_in j J) (o.to_in i l)
          (sym (o.block j J) ∙ same_block_lem (block_at h j) (block_at h i) e ∙ o.block i l) in
          let q : j ≡ i = sym (o.back_to j J) ∙ ap o.back s ∙ o.back_to i l in
          omega arith))

      root_passed : (i : ℕ) → i < length g.root_links → root_fault h i ≡ 0
      unfolding root_fault
      root_passed i l =
          let r = (sound g v).ranged (o.to i) (o.to_in i l) in
          no_fault
          (ap (λ (b : Coord). block_in b.x) (o.block i l) ∙ r.0)
          (ap (λ (b : Coord). block_in b.y) (o.block i l) ∙ r.1)
          (ap (λ (b : Coord). block_in b.z) (o.block i l) ∙ r.2)
          (apart i l)
          ((λ j. entry_fault (length g.upper_links / 32768) (o.link i l j) (o.value i l j))
          ∙ entry_passed g (o.to i) (roots_passed g v (o.to i) (o.to_in i l)))

      -- it is valid again
      pub moved_valid : validate h ≡ 0
      unfolding validate
      moved_valid =
          let rest = entries_fault (length g.lower_links / 4096) g.upper_links g.upper_values
          then entries_fault (length g.leaf_values / 512) g.lower_links g.lower_values then value_fault g.background then values_fault g.leaf_values in
          let all : first_fault (length links) (root_fault h) ≡ 0 =
          ap (λ (n : ℕ). first_fault n (root_fault h)) o.links ∙ all_passed (length g.root_links) (root_fault h) root_passed in
          let before : first_fault (length g.root_links) (root_fault g) ≡ 0 = all_passed (length g.root_links) (root_fault g) (roots_passed g v) in
          (λ j. pairs_as_before j then shape_as_before j then (all ∙ sym before) j then rest) ∙ v

      -- no root has the block: neither has one of the moved
      none_moved : (c : Coord) → ((j : ℕ) → j < length g.root_links → same_block (block_at g j) (block_of c) ≡ false)
          → roots_from h (length g.root_links) 0 c ≡ roots_from g (length g.root_links) 0 c
      none_moved c n =
          roots_none h c (length g.root_links) 0
          (λ j l k. ap (λ (b : Coord). same_block b (block_of c)) (o.block j (omega arith)) ∙ n (o.to j) (o.to_in j (omega arith)))
          ∙ sym (roots_none g c (length g.root_links) 0 (λ j l k. n j (omega arith)))

      -- root j has it, and no other: where j went, there and nowhere else it stands among the moved
      one_moved : (c : Coord) (j : ℕ) → j < length g.root_links → same_block (block_at g j) (block_of c) ≡ true
          → roots_from h (length g.root_links) 0 c ≡ roots_from g (length g.root_links) 0 c
      one_moved c j l e =
          let b = o.back j in
          let B = o.back_in j l in
          let here = same_block_lem (block_at g j) (block_of c) e in
          roots_one h c (length g.root_links) 0 b (omega arith) (omega arith)
          (ap (λ (x : Coord). same_block x (block_of c)) (o.block b B ∙ ap (block_at g) (o.to_back j l)) ∙ e)
          (λ k K. none_of (same_block (block_at h k) (block_of c)) (λ q.
          let L : k < length g.root_links = omega arith in
          let s = one_root g v (o.to k) j (o.to_in k L) l (sym (o.block k L) ∙ same_block_lem (block_at h k) (block_of c) q ∙ sym here) in
          let t : k ≡ b = sym (o.back_to k L) ∙ ap o.back s in
          omega arith))
          ∙ root_below g blocks links values c (entry_at links values b)
          ∙ (λ i. root_entry g c (entry_of ((o.link b B ∙ ap (λ (x : ℕ). slice_index g.root_links x) (o.to_back j l)) i)
          ((o.value b B ∙ ap (λ (x : ℕ). get_or g.root_values x +0) (o.to_back j l)) i)))
          ∙ sym (roots_one g c (length g.root_links) 0 j (omega arith) (omega arith) e (λ k K. none_of (same_block (block_at g k) (block_of c)) (λ q.
          let s : k ≡ j = one_root g v k j (omega arith) l (same_block_lem (block_at g k) (block_of c) q ∙ sym here) in
          omega arith)))

      -- every lookup reads the same value, at the same level
      pub moved_lookup : (c : Coord) → lookup h c ≡ lookup g c
      unfolding lookup
      moved_lookup c =
          (λ j. cond (pairs_as_before j == 0) (roots_from h (o.links j) 0 c) (refused (pairs_as_before j)))
          ∙ ap (λ (r : Found). cond (pair_fault g == 0) r (refused (pair_fault g)))
          (⊎_elim (λ w. one_moved c w.0 w.1 w.2) (none_moved c) (found g (block_of c) (length g.root_links)))
