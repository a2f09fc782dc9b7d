-- Lookups in an accepted grid read what the walk of the bytes reads, at the same level: the first part of the one claim. Assumes nothing.
use Rattle.std.specs.Prelude.{◌≡◌, List, [], ◌∷◌, map, Bool, not, ◌&&◌, cond, pos, T, eqb, leb, Float}
use Rattle.std.proofs.Math.Path.{refl, sym, subst}
use Rattle.std.proofs.Common.{ap, ◌∙◌, add-one, le→leb}
use Rattle.std.proofs.Math.Bool.{true, false}
use Prim.Native.Nat.{ℕ, zero, suc, ◌+◌, ◌*◌, ◌/◌, ◌^◌, ◌≤◌, ◌<◌}
use native.Mathlib.Omega.{arith}
use Rattle.std.proofs.Math.ListN.{length, get_or, length-map, get_or-map}
use Rattle.std.specs.Float.Ieee.{of_bits, to_bits}
use Rattle.std.specs.Float.{binary32}
use Rattle.std.specs.Float.Ieee.Scale.{finite}
use Rattle.refusals.specs.Results.{ok}
use Rattle.refusals.specs.TestLaws.{eq→eqb}
use Rattle.float.specs.Zero.{+0}
use Rattle.layout.specs.Bytes.{u32_at, u64_at, i64_at, mask_bit, Bytes}
use Rattle.layout.specs.Walk.{Level, of_leaf, of_lower, of_upper, of_root, Reading, shift, key, leaf_walk, lower_walk, upper_walk, tile_walk, tiles_walk, walk, voxel}
use Rattle.layout.specs.Coordinates.{Coord, slot, same_block, block_of, Signed32}
use Rattle.sparse_grid.specs.declared.Entry.{Entry}
use Rattle.sparse_grid.specs.declared.Entry.TheVariants.{Child, Tile}
use Rattle.sparse_grid.specs.Tables.{Grid, entry_of, entry_at, block_at}
use Rattle.sparse_grid.specs.Validate.{pair_fault, validate}
use Rattle.sparse_grid.specs.Sound.{Sound, sound}
use Rattle.sparse_grid.specs.Lookup.{Found, value, refused, leaf_at, lower_entry, lower_at, upper_entry, upper_at, root_entry, roots_from, lookup}
use Rattle.medium.specs.Medium.{each}
use Rattle.nanovdb.specs.Nodes.{entries_of, mask_of, table_of, Places}
use Rattle.nanovdb.specs.Tree.{Root, Roots, field}
use Rattle.nanovdb.specs.Decode.{link_of, value_of, blocks_of, tables_of, Accepted, decode_scalar, decode_density}
use Rattle.nanovdb.proofs.Held.{Leaf, Node, Good, in_node}
use Rattle.nanovdb.specs.Agreement.{ReadsAs}
use Rattle.nanovdb.specs.Passed.{Passed, scalar_passed, density_passed}
use Rattle.nanovdb.proofs.HeldNodes.{UpperIn, LowerIn}
use Rattle.nanovdb.proofs.HeldTiles.{no_root, tile_at, Tiled, root_of_bytes, tree_holds}
use Rattle.nanovdb.proofs.Keys.{key_same, slot_leaf, slot_lower, slot_upper, u32_lt, bits_kept}

abbrev entry_in : Root → Entry
entry_in r = r.entry

-- a value that stands for itself is finite
abbrev FiniteEntry : Entry → Type 0
FiniteEntry (Child k) = Unit {0}
FiniteEntry (Tile v) = T (finite v)

-- ---- the two tables of a list of entries

entry_whole : (e : Entry) → entry_of (link_of e) (value_of e) ≡ e
entry_whole (Child k) = ap (λ (n : ℕ). entry_of n +0) (add-one k)
entry_whole (Tile v) = refl

finite_entry : (e : Entry) → (link_of e ≡ 0 → T (finite (value_of e))) → FiniteEntry e
finite_entry (Child k) h = tt
finite_entry (Tile v) h = h refl

-- both tables, over any records that hold an entry
module _ {A : Type 0} (entry : A → Entry) (none : A) (is_none : entry none ≡ Tile +0) (l : List A) (i : ℕ) where
  link_at : get_or (map (λ (a : A). link_of (entry a)) l) i 0 ≡ link_of (entry (get_or l i none))
  link_at = ap (λ (z : ℕ). get_or (map (λ (a : A). link_of (entry a)) l) i z) (sym (ap link_of is_none)) ∙ get_or-map (λ (a : A). link_of (entry a)) l i none

  value_at : get_or (map (λ (a : A). value_of (entry a)) l) i +0 ≡ value_of (entry (get_or l i none))
  value_at =
      ap (λ (z : Float). get_or (map (λ (a : A). value_of (entry a)) l) i z) (sym (ap value_of is_none))
      ∙ get_or-map (λ (a : A). value_of (entry a)) l i none

  entry_at_lem : entry_at (map (λ (a : A). link_of (entry a)) l) (map (λ (a : A). value_of (entry a)) l) i ≡ entry (get_or l i none)
  entry_at_lem = (λ j. entry_of (link_at j) (value_at j)) ∙ entry_whole (entry (get_or l i none))

  finite_at : (get_or (map (λ (a : A). link_of (entry a)) l) i 0 ≡ 0 → T (finite (get_or (map (λ (a : A). value_of (entry a)) l) i +0)))
      → FiniteEntry (entry (get_or l i none))
  finite_at h = finite_entry (entry (get_or l i none)) (λ e. subst (λ (v : Float). T (finite v)) value_at (h (link_at ∙ e)))

-- ---- one level of the walk

-- a lookup's answer is the finite number that a reading's 32 bits stand for, at the reading's level
pub record Same (w : Reading) (v : Float) (l : Level) : Type 0 where
  pub number : v ≡ of_bits binary32 w.bits
  pub whole : T (finite v)
  pub small : w.bits < 2 ^ 32
  pub level : l ≡ w.level

abbrev pub Agrees : Reading → Found → Type 0
Agrees w (value v l) = Same w v l
Agrees w (refused n) = ⊥

-- a test that passes
met : (x : Bool) (w : Reading) (f r : Found) → T x → Agrees w f → Agrees w (cond x f r)
met true w f r t a = a
met false w f r t a = absurd t

step : {child : ℕ → ℕ → Type 0} (below : ℕ → Reading) (found : Entry → Found) (level : Level) → ((v : Float) → found (Tile v) ≡ value v level)
    → ((s k : ℕ) → child s k → Agrees (below s) (found (Child k)))
    → (x : Bool) (bits target : ℕ) (e : Entry) → bits < 2 ^ 32 → FiniteEntry e → Good child x bits target e
    → Agrees (cond x (record { bits = bits; level = level }) (below target)) (found e)
step below found level tile kid true bits target (Tile v) h t g =
    subst (Agrees (record { bits = bits; level = level })) (sym (tile v)) (record { number = g; whole = t; small = h; level = refl })
step below found level tile kid true bits target (Child j) h t g = absurd g
step below found level tile kid false bits target (Tile v) h t g = absurd g
step below found level tile kid false bits target (Child j) h t g = kid target j g

-- an entry is its own
abbrev own : Entry → Entry
own e = e

-- ---- the three levels of nodes

-- a node of entries, over the level below
node_agrees : {child : ℕ → ℕ → Type 0} (b : List ℕ) → Bytes b → (below : ℕ → Reading) (found : Entry → Found) (name : Level)
    → ((v : Float) → found (Tile v) ≡ value v name)
    → ((s k : ℕ) → child s k → Agrees (below s) (found (Child k))) → (level : ℕ) (table : List Entry)
    → ((i : ℕ) → i < length (map link_of table) → get_or (map link_of table) i 0 ≡ 0 → T (finite (get_or (map value_of table) i +0)))
    → (i : ℕ) → i < entries_of level → (source k : ℕ) → Node child b level table source k
    → Agrees (cond (eqb (mask_bit b (source + mask_of level) i) 0) (record { bits = u32_at b (source + table_of level + 8 * i); level = name })
    (below (shift source (i64_at b (source + table_of level + 8 * i)))))
    (cond (leb (entries_of level * (k + 1)) (length (map link_of table)))
    (found (entry_at (map link_of table) (map value_of table) (entries_of level * k + i))) (refused 11))
node_agrees b bytes below found name tile kid level table finites i h source k l =
    let n = entries_of level in
    let j = n * k + i in
    let at = source + table_of level + 8 * i in
    let x = eqb (mask_bit b (source + mask_of level) i) 0 in
    let w : Reading = cond x (record { bits = u32_at b at; level = name }) (below (shift source (i64_at b at))) in
    let is_length = length-map table link_of in
    let inside : j < length (map link_of table) = subst (λ (z : ℕ). j < z) (sym is_length) (in_node n k i (length table) l.fits h) in
    met (leb (n * (k + 1)) (length (map link_of table))) w (found (entry_at (map link_of table) (map value_of table) j)) (refused 11)
    (le→leb (n * (k + 1)) (length (map link_of table)) (subst (λ (z : ℕ). n * (k + 1) ≤ z) (sym is_length) l.fits))
    (subst (λ (z : Entry). Agrees w (found z)) (sym (entry_at_lem own (Tile +0) refl table j))
    (step below found name tile kid x (u32_at b at) (shift source (i64_at b at)) (get_or table j (Tile +0))
    (u32_lt b at bytes) (finite_at own (Tile +0) refl table j (finites j inside)) (l.each i h)))

module _ (b : List ℕ) (bytes : Bytes b) (r : Roots) (s : Sound (tables_of b r)) (c : Coord) where
  leaf_agrees : (source k : ℕ) → Leaf b r.state.leaf source k → Agrees (leaf_walk b source c) (leaf_at (tables_of b r) k c)
  unfolding tables_of
  leaf_agrees source k l =
      let leaf = r.state.leaf in
      let i = slot 8 1 c in
      met (leb (512 * (k + 1)) (length leaf)) (leaf_walk b source c) (value (get_or leaf (512 * k + i) +0) of_leaf) (refused 11)
      (le→leb (512 * (k + 1)) (length leaf) l.fits)
      (record {
        number = l.each i (slot_leaf c);
        whole = s.leaf_finite (512 * k + i) (in_node 512 k i (length leaf) l.fits (slot_leaf c));
        small = u32_lt b (source + 96 + 4 * i) bytes;
        level = refl;
      })

  lower_agrees : (source k : ℕ) → LowerIn b r.state source k → Agrees (lower_walk b source c) (lower_at (tables_of b r) k c)
  unfolding tables_of
  lower_agrees =
      node_agrees b bytes (λ (z : ℕ). leaf_walk b z c) (lower_entry (tables_of b r) c) of_lower (λ v. refl) leaf_agrees 1 r.state.lower
      s.lower_finite (slot 16 8 c) (slot_lower c)

  upper_agrees : (source k : ℕ) → UpperIn b r.state source k → Agrees (upper_walk b source c) (upper_at (tables_of b r) k c)
  unfolding tables_of
  upper_agrees =
      node_agrees b bytes (λ (z : ℕ). lower_walk b z c) (upper_entry (tables_of b r) c) of_upper (λ v. refl) lower_agrees 2 r.state.upper
      s.upper_finite (slot 32 128 c) (slot_upper c)

-- ---- the roots

block_x : (rs : List Root) (i : ℕ) → get_or (blocks_of rs) (3 * i) (pos 0) ≡ (get_or rs i no_root).x
unfolding blocks_of
block_x [] i = refl
block_x (r ∷ rs) zero = refl
block_x (r ∷ rs) (suc i) = ap (λ (n : ℕ). get_or (blocks_of (r ∷ rs)) n (pos 0)) (next i) ∙ block_x rs i
  where
    next : (i : ℕ) → 3 * suc i ≡ suc (suc (suc (3 * i)))
    next i = omega arith

block_y : (rs : List Root) (i : ℕ) → get_or (blocks_of rs) (3 * i + 1) (pos 0) ≡ (get_or rs i no_root).y
unfolding blocks_of
block_y [] i = refl
block_y (r ∷ rs) zero = refl
block_y (r ∷ rs) (suc i) = ap (λ (n : ℕ). get_or (blocks_of (r ∷ rs)) n (pos 0)) (next i) ∙ block_y rs i
  where
    next : (i : ℕ) → 3 * suc i + 1 ≡ suc (suc (suc (3 * i + 1)))
    next i = omega arith

block_z : (rs : List Root) (i : ℕ) → get_or (blocks_of rs) (3 * i + 2) (pos 0) ≡ (get_or rs i no_root).z
unfolding blocks_of
block_z [] i = refl
block_z (r ∷ rs) zero = refl
block_z (r ∷ rs) (suc i) = ap (λ (n : ℕ). get_or (blocks_of (r ∷ rs)) n (pos 0)) (next i) ∙ block_z rs i
  where
    next : (i : ℕ) → 3 * suc i + 2 ≡ suc (suc (suc (3 * i + 2)))
    next i = omega arith

module _ (b : List ℕ) (bytes : Bytes b) (r : Roots) (count : ℕ) (tiled : Tiled b (root_of_bytes b) count r) (s : Sound (tables_of b r)) (c : Coord)
    (small : Signed32 c) where
  same_block_lem : (i : ℕ) → i < count → eqb (u64_at b (tile_at (root_of_bytes b) i)) (key c) ≡ same_block (block_at (tables_of b r) i) (block_of c)
  unfolding tables_of
  same_block_lem i h =
      let t = tiled.each i h in
      let k = u64_at b (tile_at (root_of_bytes b) i) in
      let rs = r.roots in
      let x : field k 42 ≡ get_or (blocks_of rs) (3 * i) (pos 0) = sym (block_x rs i ∙ t.x) in
      let y : field k 21 ≡ get_or (blocks_of rs) (3 * i + 1) (pos 0) = sym (block_y rs i ∙ t.y) in
      let z : field k 0 ≡ get_or (blocks_of rs) (3 * i + 2) (pos 0) = sym (block_z rs i ∙ t.z) in
      key_same k c t.passes small ∙ (λ j. same_block (record { x = x j; y = y j; z = z j }) (block_of c))

  tile_agrees : (i : ℕ) → i < count
      → Agrees (tile_walk b (root_of_bytes b) (tile_at (root_of_bytes b) i) c)
      (root_entry (tables_of b r) c (entry_at (tables_of b r).root_links (tables_of b r).root_values i))
  unfolding tables_of
  tile_agrees i h =
      let t = tiled.each i h in
      let rs = r.roots in
      let root = root_of_bytes b in
      let at = tile_at root i in
      let inside : i < length (map (λ (e : Root). link_of e.entry) rs) = omega (arith, length-map rs (λ (e : Root). link_of e.entry), tiled.size) in
      let fine = finite_at entry_in no_root refl rs i (s.root_finite i inside) in
      subst (λ (z : Entry). Agrees (tile_walk b root at c) (root_entry (tables_of b r) c z)) (sym (entry_at_lem entry_in no_root refl rs i))
      (step (λ (z : ℕ). upper_walk b z c) (root_entry (tables_of b r) c) of_root (λ v. refl) (upper_agrees b bytes r s c)
      (eqb (u64_at b (at + 8)) 0) (u32_at b (at + 20)) (shift root (i64_at b (at + 8))) (get_or rs i no_root).entry (u32_lt b (at + 20) bytes) fine t.entry)

  roots_agree : (n i : ℕ) → i + n ≡ count → Agrees (tiles_walk n b (root_of_bytes b) (tile_at (root_of_bytes b) i) c) (roots_from (tables_of b r) n i c)
  unfolding tiles_walk roots_from tables_of
  roots_agree zero i e = record { number = refl; whole = s.background_finite; small = u32_lt b (root_of_bytes b + 28) bytes; level = refl }
  roots_agree (suc n) i e =
      let root = root_of_bytes b in
      let inside : i < count = omega arith in
      let next : tile_at root (i + 1) ≡ tile_at root i + 32 = omega arith in
      let rest : Agrees (tiles_walk n b root (tile_at root i + 32) c) (roots_from (tables_of b r) n (i + 1) c) = subst
      (λ (z : ℕ). Agrees (tiles_walk n b root z c) (roots_from (tables_of b r) n (i + 1) c)) next (roots_agree n (i + 1) (omega arith)) in
      subst
      (λ (x : Bool).
      Agrees (cond (eqb (u64_at b (tile_at root i)) (key c)) (tile_walk b root (tile_at root i) c) (tiles_walk n b root (tile_at root i + 32) c))
      (cond x (root_entry (tables_of b r) c (entry_at (tables_of b r).root_links (tables_of b r).root_values i)) (roots_from (tables_of b r) n (i + 1) c)))
      (same_block_lem i inside)
      (both (eqb (u64_at b (tile_at root i)) (key c)) (tile_walk b root (tile_at root i) c) (tiles_walk n b root (tile_at root i + 32) c)
      (root_entry (tables_of b r) c (entry_at (tables_of b r).root_links (tables_of b r).root_values i)) (roots_from (tables_of b r) n (i + 1) c)
      (tile_agrees i inside) rest)
    where
      both : (x : Bool) (v w : Reading) (f g : Found) → Agrees v f → Agrees w g → Agrees (cond x v w) (cond x f g)
      both true v w f g p q = p
      both false v w f g p q = q

-- ---- the claim

found : (b : List ℕ) → Bytes b → (r : Roots) (c : Coord) → Signed32 c → Tiled b (root_of_bytes b) (u32_at b (root_of_bytes b + 24)) r
    → Sound (tables_of b r) → Agrees (walk b c) (lookup (tables_of b r) c)
unfolding walk lookup tables_of
found b bytes r c small tiled s =
    let root = root_of_bytes b in
    let count = u32_at b (root + 24) in
    let g = tables_of b r in
    let is_count : length g.root_links ≡ count = length-map r.roots (λ (e : Root). link_of e.entry) ∙ tiled.size in
    let first : tile_at root 0 ≡ root + 64 = omega arith in
    let all : Agrees (tiles_walk count b root (tile_at root 0) c) (roots_from g count 0 c) =
    roots_agree b bytes r count tiled s c small count 0 (omega arith) in
    met (eqb (pair_fault g) 0) (walk b c) (roots_from g (length g.root_links) 0 c) (refused (pair_fault g)) (eq→eqb (pair_fault g) 0 s.paired)
    (subst (λ (n : ℕ). Agrees (tiles_walk count b root (root + 64) c) (roots_from g n 0 c)) (sym is_count)
    (subst (λ (z : ℕ). Agrees (tiles_walk count b root z c) (roots_from g count 0 c)) first all))

agrees : (b : List ℕ) → Bytes b → (p : Places) (t : Accepted) → Passed b p t → (c : Coord) → Signed32 c → Agrees (walk b c) (lookup t.grid c)
agrees b bytes p t q c small =
    let r = q.roots in
    subst (λ (g : Grid). Agrees (walk b c) (lookup g c)) (sym q.grid)
    (found b bytes r c small (tree_holds b p r q.read) (sound (tables_of b r) (subst (λ (g : Grid). validate g ≡ 0) q.grid q.valid)))

-- a lookup in an accepted grid finds the walk's bits, at the walk's level
pub lookups : (b : List ℕ) → Bytes b → (p : Places) (t : Accepted) → decode_density b p ≡ ok t → (c : Coord) → Signed32 c → ReadsAs b c (lookup t.grid c)
lookups b bytes p t e c small = go (lookup t.grid c) (agrees b bytes p t (density_passed b p t e).0 c small)
  where
    go : (f : Found) → Agrees (walk b c) f → ReadsAs b c f
    go (value v l) a = (
      ap (to_bits binary32) a.number ∙ bits_kept (walk b c).bits a.small (subst (λ (z : Float). T (finite z)) a.number a.whole),
      a.level,
    )
    go (refused n) a = a

-- the same as an equation, and that the number is finite
passed_reads : (b : List ℕ) → Bytes b → (p : Places) (t : Accepted) → Passed b p t → (c : Coord) → Signed32 c
    → (lookup t.grid c ≡ value (voxel b c) (walk b c).level) × T (finite (voxel b c))
passed_reads b bytes p t q c small = go (lookup t.grid c) (agrees b bytes p t q c small)
  where
    go : (f : Found) → Agrees (walk b c) f → (f ≡ value (voxel b c) (walk b c).level) × T (finite (voxel b c))
    go (value v l) a = ((λ i. value (a.number i) (a.level i)), subst (λ (z : Float). T (finite z)) a.number a.whole)
    go (refused n) a = absurd a

pub reads : (b : List ℕ) → Bytes b → (p : Places) (t : Accepted) → decode_density b p ≡ ok t → (c : Coord) → Signed32 c
    → (lookup t.grid c ≡ value (voxel b c) (walk b c).level) × T (finite (voxel b c))
reads b bytes p t e = passed_reads b bytes p t (density_passed b p t e).0

-- and of a scalar grid
pub scalar_reads : (b : List ℕ) → Bytes b → (p : Places) (t : Accepted) → decode_scalar b p ≡ ok t → (c : Coord) → Signed32 c
    → (lookup t.grid c ≡ value (voxel b c) (walk b c).level) × T (finite (voxel b c))
scalar_reads b bytes p t e = passed_reads b bytes p t (scalar_passed b p t e)
