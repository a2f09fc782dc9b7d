-- A lookup, step by step: the root whose block fits, and the nodes below it.
use Rattle.std.proofs.Common.{◌≡◌, ℕ, zero, suc, ◌+◌, ◌-◌, ◌*◌, ◌<◌, ◌≤◌, Bool, true, false, cond, leb, List}
use Rattle.std.proofs.Common.{length, ℤ, sym, refl, ap, ◌∙◌, arith, le-ltb, lt-ltb, eq-eqb, ne_eqb}
use Rattle.refusals.specs.Results.{Result, ok, refused, need}
use Rattle.layout.specs.Coordinates.{Coord, same_block, block_of}
use Rattle.layout.specs.Walk.{of_background}
use Rattle.sparse_grid.specs.declared.Entry.TheVariants.{Child}
use Rattle.sparse_grid.specs.Tables.{Grid, entry_at}
use Rattle.sparse_grid.specs.Validate.{pair_fault}
use Rattle.sparse_grid.specs.Lookup as found
use Rattle.sparse_grid.specs.Lookup.{Found, value, lower_entry, lower_at, upper_entry, upper_at, root_entry, roots_from, lookup}
use Rattle.sparse_grid.specs.Inner.{root_block, root_from, from_root}
use Rattle.sparse_grid.specs.Nodes.{index_in}
use Rattle.sparse_grid.specs.Spots.{Cube}
use Rattle.sparse_grid.specs.Ends.{with_leaves}
use lib.Ieee.{Float}
use Rattle.sparse_grid.proofs.SpotLaws.{lower_same, upper_same}

-- ---- the roots from i on

module _ (blocks : List ℤ) (b : Coord) (n i : ℕ) where
  -- root i decides, and after it the rest
  step : {t : Bool} → i < n → same_block (root_block blocks i) b ≡ t
      → root_from blocks (n - i) i b ≡ cond t i (root_from blocks (n - (i + 1)) (i + 1) b)
  unfolding root_from
  step l h =
      let e : n - i ≡ suc (n - (i + 1)) = omega arith in
      ap (λ (k : ℕ). root_from blocks k i b) e
      ∙ ap (λ (t : Bool). cond t i (root_from blocks (n - (i + 1)) (i + 1) b)) h

  pub hit : i < n → same_block (root_block blocks i) b ≡ true → root_from blocks (n - i) i b ≡ i
  hit l h = step l h

  pub miss : i < n → same_block (root_block blocks i) b ≡ false → root_from blocks (n - i) i b ≡ root_from blocks (n - (i + 1)) (i + 1) b
  miss l h = step l h

  pub none : n ≤ i → root_from blocks (n - i) i b ≡ i
  unfolding root_from
  none l = let e : n - i ≡ 0 = omega arith in ap (λ (k : ℕ). root_from blocks k i b) e

-- the first root that fits gives what the roots from i on give
first_root : (g : Grid) (c : Coord) (n i : ℕ) → i + n ≡ length g.root_links
    → from_root g c (root_from g.blocks n i (block_of c)) ≡ roots_from g n i c
unfolding root_from roots_from
first_root g c zero i e =
    ap (λ (t : Bool). cond t (root_entry g c (entry_at g.root_links g.root_values i)) (value g.background of_background))
    (le-ltb i (length g.root_links) (omega arith))
first_root g c (suc n) i e = go (same_block (root_block g.blocks i) (block_of c)) (first_root g c n (i + 1) (omega arith))
  where
    go : (t : Bool) → from_root g c (root_from g.blocks n (i + 1) (block_of c)) ≡ roots_from g n (i + 1) c
        → from_root g c (cond t i (root_from g.blocks n (i + 1) (block_of c)))
        ≡ cond t (root_entry g c (entry_at g.root_links g.root_values i)) (roots_from g n (i + 1) c)
    go true h =
        ap (λ (t : Bool). cond t (root_entry g c (entry_at g.root_links g.root_values i)) (value g.background of_background))
        (lt-ltb i (length g.root_links) (omega arith))
    go false h = h

-- ---- the root that a search found, and what stands there

module _ (g : Grid) (c b : Coord) (is : b ≡ block_of c) where
  first : from_root g c (root_from g.blocks (length g.root_links) 0 b) ≡ roots_from g (length g.root_links) 0 c
  first = ap (λ (q : Coord). from_root g c (root_from g.blocks (length g.root_links) 0 q)) is ∙ first_root g c (length g.root_links) 0 (omega arith)

  pub root_none : root_from g.blocks (length g.root_links) 0 b ≡ length g.root_links → value g.background of_background ≡ roots_from g (length g.root_links) 0 c
  root_none e =
      ap (λ (t : Bool). cond t (root_entry g c (entry_at g.root_links g.root_values (length g.root_links))) (value g.background of_background))
      (sym (le-ltb (length g.root_links) (length g.root_links) (omega arith)))
      ∙ ap (from_root g c) (sym e)
      ∙ first

  pub root_some : (i : ℕ) → (root_from g.blocks (length g.root_links) 0 b ≡ i) × (i < length g.root_links)
      → root_entry g c (entry_at g.root_links g.root_values i) ≡ roots_from g (length g.root_links) 0 c
  root_some i h =
      ap (λ (t : Bool). cond t (root_entry g c (entry_at g.root_links g.root_values i)) (value g.background of_background))
      (sym (lt-ltb i (length g.root_links) h.1))
      ∙ ap (from_root g c) (sym h.0)
      ∙ first

  pub root_child : (i : ℕ) → (root_from g.blocks (length g.root_links) 0 b ≡ i) × (i < length g.root_links) → {k : ℕ}
      → Child k ≡ entry_at g.root_links g.root_values i → upper_at g k c ≡ roots_from g (length g.root_links) 0 c
  root_child i h e = ap (root_entry g c) e ∙ root_some i h

-- ---- a node below, by the index of its slot

abbrev pub along : (ℕ → Found) → Result ℕ → Found
along f (ok i) = f i
along f (refused n) = found.refused n

along_need : (t : Bool) (f : ℕ → Found) (i j : ℕ) → i ≡ j → along f (need t 11 (ok i)) ≡ cond t (f j) (found.refused 11)
along_need true f i j e = ap f e
along_need false f i j e = refl

-- what stands at a slot of an upper node, and of a lower node
abbrev pub upper_slot : Grid → Coord → ℕ → Found
upper_slot g c i = upper_entry g c (entry_at g.upper_links g.upper_values i)

abbrev pub lower_slot : Grid → Coord → ℕ → Found
lower_slot g c i = lower_entry g c (entry_at g.lower_links g.lower_values i)

module _ (g : Grid) (c p : Coord) (s : Cube c p) (k : ℕ) where
  pub upper_step : {r : Result ℕ} → r ≡ index_in 32 128 (length g.upper_links) k p → along (upper_slot g c) r ≡ upper_at g k c
  upper_step e =
      ap (along (upper_slot g c)) e
      ∙ along_need (leb (32768 * (k + 1)) (length g.upper_links)) (upper_slot g c) _ _ (ap (λ (n : ℕ). 32768 * k + n) (sym (upper_same s)))

  pub upper_child : {i j : ℕ} → ok i ≡ index_in 32 128 (length g.upper_links) k p → Child j ≡ entry_at g.upper_links g.upper_values i
      → lower_at g j c ≡ upper_at g k c
  upper_child e f = ap (upper_entry g c) f ∙ upper_step e

  pub lower_step : {r : Result ℕ} → r ≡ index_in 16 8 (length g.lower_links) k p → along (lower_slot g c) r ≡ lower_at g k c
  lower_step e =
      ap (along (lower_slot g c)) e
      ∙ along_need (leb (4096 * (k + 1)) (length g.lower_links)) (lower_slot g c) _ _ (ap (λ (n : ℕ). 4096 * k + n) (sym (lower_same s)))

-- ---- the whole lookup, whatever the leaves

module _ (g : Grid) (leaves : List Float) (c : Coord) where
  h : Grid
  h = with_leaves g leaves

  pair_same : pair_fault g ≡ pair_fault h
  unfolding pair_fault h
  pair_same = refl

  -- what the test of the pairs decides
  by_pairs : Bool → Found
  unfolding h
  by_pairs t = cond t (roots_from h (length g.root_links) 0 c) (found.refused (pair_fault h))

  pub unpaired : (n : ℕ) → n ≡ pair_fault g → (n ≡ 0 → ⊥) → found.refused n ≡ lookup (with_leaves g leaves) c
  unfolding lookup by_pairs h
  unpaired n e f = ap found.refused (e ∙ pair_same) ∙ ap by_pairs (sym (ne_eqb (pair_fault h) 0 (λ z. f (e ∙ pair_same ∙ z))))

  pub paired : {r : Found} → 0 ≡ pair_fault g → r ≡ roots_from (with_leaves g leaves) (length g.root_links) 0 c → r ≡ lookup (with_leaves g leaves) c
  unfolding lookup by_pairs h
  paired e q = q ∙ ap by_pairs (sym (eq-eqb (pair_fault h) 0 (sym (e ∙ pair_same))))
