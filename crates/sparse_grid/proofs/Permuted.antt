-- A valid grid with its root records in another order is valid, and every lookup reads the same value at the same level: a permutation of records
-- is a one-to-one map of their numbers, and a paired grid is the grid of its records. Assumes nothing.
use Rattle.std.specs.Prelude.{◌≡◌, ℕ, zero, suc, ◌+◌, ◌*◌, ◌/◌, ◌%◌, ◌<◌, List, [], ◌∷◌, length, get_or, pos, ◌≢◌, slice_index, slice_index_or, refl}
use Rattle.std.proofs.Common.{not-suc-le-zero, sym, ◌∙◌, subst, ext_get_or}
use native.Mathlib.Omega.{arith}
use Rattle.std.proofs.Math.Path.{ap}
use mathlib.Core.List.{Permᴰ}
use Rattle.float.specs.Zero.{+0}
use Rattle.layout.specs.Coordinates.{Coord}
use Rattle.sparse_grid.specs.Tables.{Grid, block_at}
use Rattle.sparse_grid.specs.Validate.{validate}
use Rattle.sparse_grid.specs.Lookup.{Found, lookup}
use Rattle.sparse_grid.specs.Count.{split_eq}
use Rattle.sparse_grid.specs.Sound.{Paired, pairs, sound}
use Rattle.sparse_grid.specs.Roots.{RootRecord, blocks_of, links_of, values_of, with_roots, rooted, record_at, records_from, records_of, Reordered}
use Rattle.sparse_grid.specs.Reorder.{Moved}
use Rattle.sparse_grid.proofs.Reorder.{moved_valid, moved_lookup}

-- ---- where a permutation moves the records

none : RootRecord
none = record { block = record { x = pos 0; y = pos 0; z = pos 0 }; link = 0; value = +0 }

-- record i of ts is record `to i` of rs
record Carried (rs ts : List RootRecord) : Type 0 where
  size : length ts ≡ length rs
  to : ℕ → ℕ
  back : ℕ → ℕ
  to_in : (i : ℕ) → i < length rs → to i < length rs
  back_in : (i : ℕ) → i < length rs → back i < length rs
  to_back : (i : ℕ) → i < length rs → to (back i) ≡ i
  back_to : (i : ℕ) → i < length rs → back (to i) ≡ i
  at : (i : ℕ) → i < length rs → slice_index_or ts i none ≡ slice_index_or rs (to i) none

-- behind one record that stays
later : (ℕ → ℕ) → ℕ → ℕ
later f zero = 0
later f (suc i) = suc (f i)

-- the first two change places
swapped : ℕ → ℕ
swapped zero = 1
swapped (suc zero) = 0
swapped (suc (suc i)) = suc (suc i)

more : (i n : ℕ) → i < n → suc i < suc n
more i n h = omega arith

less : (i n : ℕ) → suc i < suc n → i < n
less i n h = omega arith

later_in : (f : ℕ → ℕ) (n : ℕ) → ((i : ℕ) → i < n → f i < n) → (i : ℕ) → i < suc n → later f i < suc n
unfolding later
later_in f n h zero l = omega arith
later_in f n h (suc i) l = more (f i) n (h i (less i n l))

later_undo : (f g : ℕ → ℕ) (n : ℕ) → ((i : ℕ) → i < n → f (g i) ≡ i) → (i : ℕ) → i < suc n → later f (later g i) ≡ i
unfolding later
later_undo f g n h zero l = refl
later_undo f g n h (suc i) l = ap suc (h i (less i n l))

swapped_in : (n i : ℕ) → i < suc (suc n) → swapped i < suc (suc n)
unfolding swapped
swapped_in n zero l = omega arith
swapped_in n (suc zero) l = omega arith
swapped_in n (suc (suc i)) l = l

swapped_undo : (i : ℕ) → swapped (swapped i) ≡ i
unfolding swapped
swapped_undo zero = refl
swapped_undo (suc zero) = refl
swapped_undo (suc (suc i)) = refl

carried : {rs ts : List RootRecord} → Permᴰ rs ts → Carried rs ts
unfolding later swapped
carried Permᴰ.nil = record {
  size = refl;
  to = λ i. i;
  back = λ i. i;
  to_in = λ i l. l;
  back_in = λ i l. l;
  to_back = λ i l. refl;
  back_to = λ i l. refl;
  at = λ i l. refl;
}
carried (Permᴰ.cons {a = a} {b = b} {l₁ = rs} {l₂ = ts} e p) =
    let m = carried p in
    record {
      size = ap suc m.size;
      to = later m.to;
      back = later m.back;
      to_in = later_in m.to (length rs) m.to_in;
      back_in = later_in m.back (length rs) m.back_in;
      to_back = later_undo m.to m.back (length rs) m.to_back;
      back_to = later_undo m.back m.to (length rs) m.back_to;
      at = place m;
    }
  where
    place : (m : Carried rs ts) → (i : ℕ) → i < suc (length rs) → slice_index_or (b ∷ ts) i none ≡ slice_index_or (a ∷ rs) (later m.to i) none
    place m zero l = sym e
    place m (suc i) l = m.at i (less i (length rs) l)
carried (Permᴰ.swap {a = a} {b = b} {a' = c} {b' = d} {l = rs} e f) = record {
  size = refl;
  to = swapped;
  back = swapped;
  to_in = swapped_in (length rs);
  back_in = swapped_in (length rs);
  to_back = λ i l. swapped_undo i;
  back_to = λ i l. swapped_undo i;
  at = place;
}
  where
    place : (i : ℕ) → i < suc (suc (length rs)) → slice_index_or (c ∷ d ∷ rs) i none ≡ slice_index_or (a ∷ b ∷ rs) (swapped i) none
    place zero l = sym f
    place (suc zero) l = sym e
    place (suc (suc i)) l = refl
carried (Permᴰ.trans {l₁ = rs} {l₂ = ts} {l₃ = us} p q) =
    let m = carried p in
    let n = carried q in
    let on : (i : ℕ) → i < length rs → i < length ts = λ i l. subst (λ (k : ℕ). i < k) (sym m.size) l in
    let off : (i : ℕ) → i < length ts → i < length rs = λ i l. subst (λ (k : ℕ). i < k) m.size l in
    record {
      size = n.size ∙ m.size;
      to = λ i. m.to (n.to i);
      back = λ i. n.back (m.back i);
      to_in = λ i l. m.to_in (n.to i) (off (n.to i) (n.to_in i (on i l)));
      back_in = λ i l. off (n.back (m.back i)) (n.back_in (m.back i) (on (m.back i) (m.back_in i l)));
      to_back = λ i l. ap m.to (n.to_back (m.back i) (on (m.back i) (m.back_in i l))) ∙ m.to_back i l;
      back_to = λ i l. ap n.back (m.back_to (n.to i) (off (n.to i) (n.to_in i (on i l)))) ∙ n.back_to i (on i l);
      at = λ i l. n.at i (on i l) ∙ m.at (n.to i) (off (n.to i) (n.to_in i (on i l)));
    }

-- ---- the tables of a list of records

links_length : (rs : List RootRecord) → length (links_of rs) ≡ length rs
unfolding links_of
links_length [] = refl
links_length (r ∷ rs) = ap suc (links_length rs)

values_length : (rs : List RootRecord) → length (values_of rs) ≡ length rs
unfolding values_of
values_length [] = refl
values_length (r ∷ rs) = ap suc (values_length rs)

blocks_length : (rs : List RootRecord) → length (blocks_of rs) ≡ 3 * length rs
unfolding blocks_of
blocks_length [] = refl
blocks_length (r ∷ rs) = let e = blocks_length rs in omega arith

link_at : (rs : List RootRecord) (i : ℕ) → slice_index (links_of rs) i ≡ (get_or rs i none).link
unfolding links_of none
link_at [] i = refl
link_at (r ∷ rs) zero = refl
link_at (r ∷ rs) (suc i) = link_at rs i

value_at : (rs : List RootRecord) (i : ℕ) → slice_index_or (values_of rs) i +0 ≡ (get_or rs i none).value
unfolding values_of none
value_at [] i = refl
value_at (r ∷ rs) zero = refl
value_at (r ∷ rs) (suc i) = value_at rs i

-- three numbers a record
block_on : (rs : List RootRecord) (i o : ℕ)
    → slice_index_or (blocks_of rs) (3 * suc i + o) (pos 0) ≡ slice_index_or (blocks_of rs) (suc (suc (suc (3 * i + o)))) (pos 0)
block_on rs i o = ap (λ (k : ℕ). get_or (blocks_of rs) k (pos 0)) (omega arith)

x_at : (rs : List RootRecord) (i : ℕ) → slice_index_or (blocks_of rs) (3 * i) (pos 0) ≡ (get_or rs i none).block.x
unfolding blocks_of none
x_at [] i = refl
x_at (r ∷ rs) zero = refl
x_at (r ∷ rs) (suc i) = ap (λ (k : ℕ). get_or (blocks_of (r ∷ rs)) k (pos 0)) (triple i) ∙ x_at rs i
  where
    triple : (i : ℕ) → 3 * suc i ≡ suc (suc (suc (3 * i)))
    triple i = omega arith

y_at : (rs : List RootRecord) (i : ℕ) → slice_index_or (blocks_of rs) (3 * i + 1) (pos 0) ≡ (get_or rs i none).block.y
unfolding blocks_of none
y_at [] i = refl
y_at (r ∷ rs) zero = refl
y_at (r ∷ rs) (suc i) = block_on (r ∷ rs) i 1 ∙ y_at rs i

z_at : (rs : List RootRecord) (i : ℕ) → slice_index_or (blocks_of rs) (3 * i + 2) (pos 0) ≡ (get_or rs i none).block.z
unfolding blocks_of none
z_at [] i = refl
z_at (r ∷ rs) zero = refl
z_at (r ∷ rs) (suc i) = block_on (r ∷ rs) i 2 ∙ z_at rs i

-- ---- a permutation of the records moves the roots

permuted : (g : Grid) {rs ts : List RootRecord} → Permᴰ rs ts → Moved (rooted g rs) (rooted g ts)
unfolding rooted
permuted g {rs} {ts} p =
    let m = carried p in
    let within : (i : ℕ) → i < length (links_of rs) → i < length rs = λ i l. subst (λ (k : ℕ). i < k) (links_length rs) l in
    let without : (i : ℕ) → i < length rs → i < length (links_of rs) = λ i l. subst (λ (k : ℕ). i < k) (sym (links_length rs)) l in
    record {
      links = links_length ts ∙ m.size ∙ sym (links_length rs);
      values = values_length ts ∙ m.size ∙ sym (values_length rs);
      blocks = blocks_length ts ∙ ap (λ (n : ℕ). 3 * n) m.size ∙ sym (blocks_length rs);
      to = m.to;
      back = m.back;
      to_in = λ i l. without (m.to i) (m.to_in i (within i l));
      back_in = λ i l. without (m.back i) (m.back_in i (within i l));
      to_back = λ i l. m.to_back i (within i l);
      back_to = λ i l. m.back_to i (within i l);
      block = λ i l. block_at_lem ts i ∙ ap (λ (r : RootRecord). r.block) (m.at i (within i l)) ∙ sym (block_at_lem rs (m.to i));
      link = λ i l. link_at ts i ∙ ap (λ (r : RootRecord). r.link) (m.at i (within i l)) ∙ sym (link_at rs (m.to i));
      value = λ i l. value_at ts i ∙ ap (λ (r : RootRecord). r.value) (m.at i (within i l)) ∙ sym (value_at rs (m.to i));
    }
  where
    block_at_lem : (rs : List RootRecord) (i : ℕ) → block_at (with_roots g (blocks_of rs) (links_of rs) (values_of rs)) i ≡ (get_or rs i none).block
    block_at_lem rs i = λ j. record { x = x_at rs i j; y = y_at rs i j; z = z_at rs i j }

-- ---- a paired grid is the grid of its records

records_length : (g : Grid) (n i : ℕ) → length (records_from g n i) ≡ n
unfolding records_from
records_length g zero i = refl
records_length g (suc n) i = ap suc (records_length g n (i + 1))

record_at_lem : (g : Grid) (n i j : ℕ) → j < n → slice_index_or (records_from g n i) j none ≡ record_at g (i + j)
unfolding records_from
record_at_lem g zero i j l = absurd (not-suc-le-zero l)
record_at_lem g (suc n) i zero l = ap (record_at g) (plus_none i)
  where
    plus_none : (i : ℕ) → i ≡ i + 0
    plus_none i = omega arith
record_at_lem g (suc n) i (suc j) l = record_at_lem g n (i + 1) j (less j n l) ∙ ap (record_at g) (over i j)
  where
    over : (i j : ℕ) → i + 1 + j ≡ i + suc j
    over i j = omega arith

module _ (g : Grid) (s : Paired g) where
  size : length (records_of g) ≡ length g.root_links
  unfolding records_of
  size = records_length g (length g.root_links) 0

  here : (i : ℕ) → i < length g.root_links → slice_index_or (records_of g) i none ≡ record_at g i
  unfolding records_of
  here i l = record_at_lem g (length g.root_links) 0 i l ∙ ap (record_at g) (plus i)
    where
      plus : (i : ℕ) → 0 + i ≡ i
      plus i = omega arith

  same_links : links_of (records_of g) ≡ g.root_links
  same_links =
      let e = links_length (records_of g) ∙ size in
      ext_get_or 0 (links_of (records_of g)) g.root_links e
      (λ i l. link_at (records_of g) i ∙ ap (λ (r : RootRecord). r.link) (here i (subst (λ (k : ℕ). i < k) e l)))

  same_values : values_of (records_of g) ≡ g.root_values
  same_values =
      let e = values_length (records_of g) ∙ size in
      ext_get_or +0 (values_of (records_of g)) g.root_values (e ∙ s.roots)
      (λ i l. value_at (records_of g) i ∙ ap (λ (r : RootRecord). r.value) (here i (subst (λ (k : ℕ). i < k) e l)))

  -- a number of a block, by its place among three
  abbrev Same : ℕ → Type 0
  Same k = slice_index_or (blocks_of (records_of g)) k (pos 0) ≡ slice_index_or g.blocks k (pos 0)

  third : (k i : ℕ) → i ≡ k / 3 → i < length g.root_links → Same k
  third k i q l =
      let same_x : Same (3 * i) = x_at (records_of g) i ∙ ap (λ (r : RootRecord). r.block.x) (here i l) in
      let same_y : Same (3 * i + 1) = y_at (records_of g) i ∙ ap (λ (r : RootRecord). r.block.y) (here i l) in
      let same_z : Same (3 * i + 2) = z_at (records_of g) i ∙ ap (λ (r : RootRecord). r.block.z) (here i l) in
      split_eq (k % 3) 0
      (λ r. let e : 3 * i ≡ k = omega arith in subst Same e same_x)
      (λ n. split_eq (k % 3) 1
      (λ r. let e : 3 * i + 1 ≡ k = omega arith in subst Same e same_y)
      (λ m. let t : k % 3 ≡ 2 = two k n m in let e : 3 * i + 2 ≡ k = omega arith in subst Same e same_z))
    where
      two : (k : ℕ) → (k % 3 ≢ 0) → (k % 3 ≢ 1) → k % 3 ≡ 2
      two k n m = split_eq (k % 3) 2 (λ e. e) (λ o. omega arith)

  same_blocks : blocks_of (records_of g) ≡ g.blocks
  same_blocks =
      let e = blocks_length (records_of g) in
      let z = size in
      ext_get_or (pos 0) (blocks_of (records_of g)) g.blocks (omega (arith, s.blocks)) (λ k l.
      let i = k / 3 in
      let I : i < length g.root_links = omega arith in
      third k i refl I)

  rooted_again : rooted g (records_of g) ≡ g
  unfolding rooted
  rooted_again = λ j. with_roots g (same_blocks j) (same_links j) (same_values j)

-- ---- a valid grid with its root records in another order

module _ (g h : Grid) (o : Reordered g h) (v : validate g ≡ 0) where
  again : rooted g (records_of g) ≡ g
  again = rooted_again g (pairs g (sound g v).paired)

  before : validate (rooted g (records_of g)) ≡ 0
  before = ap validate again ∙ v

  pub reordered_valid : validate h ≡ 0
  unfolding rooted
  reordered_valid =
      ap validate o.is
      ∙ moved_valid (rooted g (records_of g)) (blocks_of o.records) (links_of o.records) (values_of o.records) (permuted g o.permuted) before

  -- the value and its level
  pub reordered_lookup : (c : Coord) → lookup h c ≡ lookup g c
  unfolding rooted
  reordered_lookup c =
      let at : Grid → Found = λ x. lookup x c in
      ap at o.is
      ∙ moved_lookup (rooted g (records_of g)) (blocks_of o.records) (links_of o.records) (values_of o.records) (permuted g o.permuted) before c
      ∙ ap at again
