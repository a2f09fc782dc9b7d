-- A refusal has a number: none of the decode's is 0, and none of a scalar grid's is 15. Assumes nothing.
use Rattle.std.specs.Prelude.{Bool, true, false, cond, not, ◌&&◌, List, [], ◌∷◌, ◌++◌, ◌≡◌, ℤ, pos, negsuc, ltb, leb, length, get_or, Float}
use Rattle.std.proofs.Common.{sym, subst, arith}
use Prim.Native.Nat.{ℕ, zero, suc, ◌+◌, ◌-◌, ◌*◌, ◌/◌, ◌%◌, ◌^◌}
use Rattle.std.proofs.Math.Dec.{eqb}
use Rattle.std.specs.Int.Signed.{le_z}
use Rattle.std.specs.Float.{binary32}
use Rattle.std.specs.Float.Ieee.{sub, lt, eq}
use Rattle.std.specs.Float.Ieee.Scale.{finite}
use Rattle.refusals.specs.Results.{Result, ok, refused, number_of, bind, need}
use Rattle.refusals.specs.Faults.{◌then◌, unless, first_fault, passing}
use Rattle.refusals.proofs.FaultSteps.{then_stop}
use Rattle.float.specs.Zero.{+0}
use Rattle.layout.specs.Bytes.{u32_at, u64_at, i64_at, f32_at, mask_bit}
use Rattle.sparse_grid.specs.Tables.{Grid, block_at}
use Rattle.sparse_grid.specs.Validate.{value_fault, entry_fault, block_in, earlier, root_fault, entries_fault, values_fault}
use Rattle.sparse_grid.specs.Validate.{pair_fault, shape_fault, validate, density_fault}
use Rattle.medium.specs.Medium.{Medium, Axis, x_axis, y_axis, z_axis, on_point, on_coord, each, bounds_fault, index_fault, diagonal, zeroes, map_fault}
use Rattle.sparse_grid.specs.declared.Entry.TheVariants.{Child, Tile}
use Rattle.nanovdb.specs.Spans.{Span, overlaps, Seen, at, nowhere, seen}
use Rattle.nanovdb.specs.Nodes.{Places, State, empty, with_span, claim, child_target, table_of, mask_of, entries_of, size_of, nodes_at, places_at}
use Rattle.nanovdb.specs.Nodes.{counted, Read, Slots, Reader, slot_read, slots_read, placed, leaf_placed, opened, again, node}
use Rattle.nanovdb.specs.Tree.{Roots, key_passes, root_of, tile_read, tiles_read, tree}
use Rattle.nanovdb.specs.Decode.{Accepted, tables_of, medium_of, header_passes, bytes_fault, tree_fault, decode_scalar, decode_density}
use Rattle.nanovdb.specs.Lent.{Lent, lent_fault, places_of, decode_into}

-- a value, or a refusal whose number is not 0
pub data Numbered {A : Type 0} : Result A → Type 0 where
  value : (a : A) → Numbered (ok a)
  number : (n : ℕ) → Numbered (refused (suc n))

pub not_zero : {A : Type 0} {k : ℕ} → Numbered {A = A} (refused k) → k ≡ 0 → ⊥
not_zero (number n) e = omega arith

-- the same, and of its number P holds
data Among (P : ℕ → Type 0) {A : Type 0} : Result A → Type 0 where
  given : (a : A) → Among P (ok a)
  refusal : (n : ℕ) → P (suc n) → Among P (refused (suc n))

as_numbered : {P : ℕ → Type 0} {A : Type 0} {r : Result A} → Among P r → Numbered r
as_numbered (given a) = value a
as_numbered (refusal n h) = number n

-- P holds of a fault, where there is one
abbrev Fault : (ℕ → Type 0) → ℕ → Type 0
Fault P zero = Unit {0}
Fault P (suc n) = P (suc n)

module _ (P : ℕ → Type 0) where
  fault_unless : (t : Bool) (n : ℕ) → P (suc n) → Fault P (unless t (suc n))
  fault_unless true n h = tt
  fault_unless false n h = h

  fault_then : (a b : ℕ) → Fault P a → Fault P b → Fault P (a then b)
  fault_then zero b h k = k
  fault_then (suc a) b h k = subst (Fault P) (sym (then_stop (suc a) b (λ e. omega arith))) h

  fault_first : (n : ℕ) (f : ℕ → ℕ) → ((i : ℕ) → Fault P (f i)) → Fault P (first_fault n f)
  unfolding first_fault
  fault_first zero f h = tt
  fault_first (suc n) f h = fault_then (first_fault n f) (f n) (fault_first n f h) (h n)

-- the numbers of a tree's refusals
record OfTree (P : ℕ → Type 0) : Type 0 where
  past_end : P 5
  overlap : P 6
  key_bit : P 7
  child_target_lem : P 8
  no_place : P 9
  node_counts : P 10

module _ {P : ℕ → Type 0} {A : Type 0} where
  of_need : (t : Bool) (n : ℕ) → P (suc n) → {r : Result A} → Among P r → Among P (need t (suc n) r)
  of_need true n p h = h
  of_need false n p h = refusal n p

  of_passing : (n : ℕ) → Fault P n → {r : Result A} → Among P r → Among P (passing n r)
  of_passing zero f h = h
  of_passing (suc n) f h = refusal n f

  of_cond : (t : Bool) {r s : Result A} → Among P r → Among P s → Among P (cond t r s)
  of_cond true h k = h
  of_cond false h k = k

  of_bind : {B : Type 0} {r : Result A} (f : A → Result B) → Among P r → ((a : A) → Among P (f a)) → Among P (bind r f)
  of_bind f (given a) k = k a
  of_bind f (refusal n h) k = refusal n h

-- ---- the nodes

module _ (P : ℕ → Type 0) (N : OfTree P) where
  of_claim : (b : List ℕ) (p : Places) (t : State) (s : Span) → Among P (claim b p t s)
  unfolding claim
  of_claim b p t s =
      of_need (leb s.end (length b)) 4 N.past_end
      (of_need (not (overlaps t.spans s.start s.end)) 5 N.overlap
      (of_need (ltb (length t.spans) p.spans) 8 N.no_place
      (given (with_span t s))))

  of_target_lem : (base : ℕ) (z : ℤ) → Among P (child_target base z)
  of_target_lem base (pos k) = of_need (eqb ((base + k) % 32) 0) 7 N.child_target_lem (given (base + k))
  of_target_lem base (negsuc k) = of_need (ltb k base && eqb ((base - (k + 1)) % 32) 0) 7 N.child_target_lem (given (base - (k + 1)))

  of_slot : (b : List ℕ) (child : Reader) → ((s : ℕ) (t : State) → Among P (child s t)) → (level source i : ℕ) (s : Slots)
      → Among P (slot_read b child level source i s)
  of_slot b child h level source i s =
      let at = source + table_of level + 8 * i in
      of_cond (eqb (mask_bit b (source + mask_of level) i) 0)
      (given (record { entries = s.entries ++ (Tile (f32_at b at) ∷ []); state = s.state }))
      (of_need (not (eqb (u64_at b at) 0)) 7 N.child_target_lem
      (of_bind _ (of_target_lem source (i64_at b at)) (λ target.
      of_bind _ (h target s.state) (λ r. given (record { entries = s.entries ++ (Child r.number ∷ []); state = r.state })))))

  of_slots : (b : List ℕ) (child : Reader) → ((s : ℕ) (t : State) → Among P (child s t)) → (level source n : ℕ) (t : State)
      → Among P (slots_read b child level source n t)
  unfolding slots_read
  of_slots b child h level source zero t = given (record { entries = []; state = t })
  of_slots b child h level source (suc n) t = of_bind _ (of_slots b child h level source n t) (of_slot b child h level source n)

  of_opened : (b : List ℕ) (p : Places) (level source : ℕ) (t : State) (fill : State → Result State) → ((u : State) → Among P (fill u))
      → Among P (opened b p level source t fill)
  of_opened b p level source t fill h =
      let k = nodes_at t level in
      of_bind _ (of_claim b p t (record { start = source; end = source + size_of level; level = level; number = k })) (λ u.
      of_need (ltb k (places_at p level)) 8 N.no_place
      (of_bind _ (h (counted u level)) (λ v. given (record { number = k; state = v }))))

  of_again : (s : Seen) (t : State) {new : Result Read} → Among P new → Among P (again s t new)
  of_again (at k) t h = given (record { number = k; state = t })
  of_again nowhere t h = h

  of_node : (level : ℕ) (b : List ℕ) (p : Places) (source : ℕ) (t : State) → Among P (node level b p source t)
  unfolding node
  of_node zero b p source t =
      of_again (seen t.spans source 0) t
      (of_opened b p 0 source t (λ (u : State). ok (leaf_placed b source u)) (λ u. given (leaf_placed b source u)))
  of_node (suc level) b p source t =
      of_again (seen t.spans source (suc level)) t
      (of_opened b p (suc level) source t
      (λ (u : State). bind (slots_read b (node level b p) (suc level) source (entries_of (suc level)) u) (λ (s : Slots). ok (placed (suc level) s)))
      (λ u. of_bind _ (of_slots b (node level b p) (of_node level b p) (suc level) source (entries_of (suc level)) u) (λ s.
      given (placed (suc level) s))))

  -- ---- the tree, and the decode

  of_tile : (b : List ℕ) (p : Places) (root i : ℕ) (r : Roots) → Among P (tile_read b p root i r)
  of_tile b p root i r =
      let at = root + 64 + 32 * i in
      let key = u64_at b at in
      of_need (key_passes key) 6 N.key_bit
      (of_cond (eqb (u64_at b (at + 8)) 0)
      (given (record { roots = r.roots ++ (root_of key (Tile (f32_at b (at + 20))) ∷ []); state = r.state }))
      (of_bind _ (of_target_lem root (i64_at b (at + 8))) (λ target.
      of_bind _ (of_node 2 b p target r.state) (λ n.
      given (record { roots = r.roots ++ (root_of key (Child n.number) ∷ []); state = n.state })))))

  of_tiles : (b : List ℕ) (p : Places) (root n : ℕ) (t : State) → Among P (tiles_read b p root n t)
  unfolding tiles_read
  of_tiles b p root zero t = given (record { roots = []; state = t })
  of_tiles b p root (suc n) t = of_bind _ (of_tiles b p root n t) (of_tile b p root n)

  of_tree : (b : List ℕ) (p : Places) → Among P (tree b p)
  unfolding tree
  of_tree b p =
      let root = 672 + u64_at b 696 in
      let count = u32_at b (root + 24) in
      of_bind _ (of_claim b p empty (record { start = 0; end = 736; level = 3; number = 0 })) (λ h.
      of_need (leb (root + 28) (length b)) 4 N.past_end
      (of_bind _ (of_claim b p h (record { start = root; end = root + 64 + 32 * count; level = 3; number = 0 })) (λ t.
      of_need (leb count p.roots) 8 N.no_place
      (of_bind _ (of_tiles b p root count t) (λ r.
      of_need (eqb r.state.leaf_nodes (u32_at b 704) && eqb r.state.lower_nodes (u32_at b 708) && eqb r.state.upper_nodes (u32_at b 712)) 9
      N.node_counts
      (given r))))))

  of_scalar : (b : List ℕ) (p : Places) → Fault P (bytes_fault b)
      → ((r : Roots) → Fault P (tree_fault (record { grid = tables_of b r; medium = medium_of b }))) → Among P (decode_scalar b p)
  unfolding decode_scalar
  of_scalar b p bytes-are tree_is =
      of_passing (bytes_fault b) bytes-are
      (of_bind _ (of_tree b p) (λ r.
      of_passing (tree_fault (record { grid = tables_of b r; medium = medium_of b })) (tree_is r)
      (given (record { grid = tables_of b r; medium = medium_of b }))))

-- ---- any number

abbrev Any : ℕ → Type 0
Any n = Unit {0}

any_fault : (n : ℕ) → Fault Any n
any_fault zero = tt
any_fault (suc n) = tt

any_tree : OfTree Any
any_tree = record { past_end = tt; overlap = tt; key_bit = tt; child_target_lem = tt; no_place = tt; node_counts = tt }

any_scalar : (b : List ℕ) (p : Places) → Among Any (decode_scalar b p)
any_scalar b p =
    of_scalar Any any_tree b p (any_fault (bytes_fault b)) (λ r. any_fault (tree_fault (record { grid = tables_of b r; medium = medium_of b })))

pub numbered : (b : List ℕ) (l : Lent) → Numbered (decode_into decode_density b l)
unfolding decode_into decode_density
numbered b l =
    as_numbered (of_passing (lent_fault l) (any_fault (lent_fault l)) (of_bind _ (any_scalar b (places_of l)) (λ t.
    of_passing (density_fault t.grid) (any_fault (density_fault t.grid)) (given t))))

pub scalar_numbered : (b : List ℕ) (l : Lent) → Numbered (decode_into decode_scalar b l)
unfolding decode_into
scalar_numbered b l = as_numbered (of_passing (lent_fault l) (any_fault (lent_fault l)) (any_scalar b (places_of l)))

-- ---- any but 15

abbrev Other : ℕ → Type 0
Other n = n ≡ 15 → ⊥

other_tree : OfTree Other
other_tree = record {
  past_end = λ e. omega arith;
  overlap = λ e. omega arith;
  key_bit = λ e. omega arith;
  child_target_lem = λ e. omega arith;
  no_place = λ e. omega arith;
  node_counts = λ e. omega arith;
}

other_each : (f : Axis → ℕ) → ((a : Axis) → Fault Other (f a)) → Fault Other (each f)
other_each f h =
    fault_then Other (f x_axis) (f y_axis then f z_axis) (h x_axis) (fault_then Other (f y_axis) (f z_axis) (h y_axis) (h z_axis))

other_bounds : (m : Medium) (a : Axis) → Fault Other (bounds_fault m a)
unfolding bounds_fault
other_bounds m a =
    let l = on_point a m.low in let h = on_point a m.high in
    fault_unless Other (finite l && finite h && lt l h && finite (sub binary32 h l)) 3 (λ e. omega arith)

other_index : (m : Medium) (a : Axis) → Fault Other (index_fault m a)
unfolding index_fault
other_index m a = fault_unless Other (le_z (on_coord a m.index_low) (on_coord a m.index_high)) 13 (λ e. omega arith)

other_map : (m : Medium) → Fault Other (map_fault m)
unfolding map_fault
other_map m =
    let at : ℕ → Float = λ i. get_or m.map i +0 in
    fault_unless Other (diagonal (at 0) && zeroes (at 1) && zeroes (at 2)
    && zeroes (at 3) && diagonal (at 4) && zeroes (at 5)
    && zeroes (at 6) && zeroes (at 7) && diagonal (at 8)
    && finite m.translation.x && finite m.translation.y && finite m.translation.z) 12 (λ e. omega arith)

other_bytes : (b : List ℕ) → Fault Other (bytes_fault b)
unfolding bytes_fault
other_bytes b =
    let world = each (bounds_fault (medium_of b)) in
    let long = unless (ltb (length b) (2 ^ 32)) 1 in
    let short = unless (leb 672 (length b)) 2 in
    let header = unless (header_passes b) 3 in
    fault_then Other long (short then header then world) (fault_unless Other (ltb (length b) (2 ^ 32)) 0 (λ e. omega arith))
    (fault_then Other short (header then world) (fault_unless Other (leb 672 (length b)) 1 (λ e. omega arith))
    (fault_then Other header world (fault_unless Other (header_passes b) 2 (λ e. omega arith))
    (other_each (bounds_fault (medium_of b)) (other_bounds (medium_of b)))))

other_value : (v : Float) → Fault Other (value_fault v)
other_value v = fault_unless Other (finite v) 11 (λ e. omega arith)

other_entry : (count link : ℕ) (v : Float) → Fault Other (entry_fault count link v)
other_entry count zero v = other_value v
other_entry count (suc k) v = fault_unless Other (ltb k count && eq v +0) 10 (λ e. omega arith)

other_root : (g : Grid) (i : ℕ) → Fault Other (root_fault g i)
unfolding root_fault
other_root g i =
    let b = block_at g i in
    let entry = entry_fault (length g.upper_links / 32768) (get_or g.root_links i 0) (get_or g.root_values i +0) in
    let fresh = block_in b.x && block_in b.y && block_in b.z && not (earlier g i b) in
    fault_then Other (unless fresh 11) entry (fault_unless Other fresh 10 (λ e. omega arith))
    (other_entry (length g.upper_links / 32768) (get_or g.root_links i 0) (get_or g.root_values i +0))

other_entries : (count : ℕ) (links : List ℕ) (values : List Float) → Fault Other (entries_fault count links values)
other_entries count links values =
    fault_first Other (length links) (λ i. entry_fault count (get_or links i 0) (get_or values i +0))
    (λ i. other_entry count (get_or links i 0) (get_or values i +0))

other_pair : (g : Grid) → Fault Other (pair_fault g)
unfolding pair_fault
other_pair g =
    fault_unless Other (eqb (length g.root_links) (length g.root_values) && eqb (length g.blocks) (3 * length g.root_links)
    && eqb (length g.upper_links) (length g.upper_values) && eqb (length g.lower_links) (length g.lower_values)) 17 (λ e. omega arith)

other_shape : (g : Grid) → Fault Other (shape_fault g)
unfolding shape_fault
other_shape g =
    fault_unless Other (eqb (length g.upper_links % 32768) 0 && eqb (length g.lower_links % 4096) 0 && eqb (length g.leaf_values % 512) 0
    && ltb (length g.root_links) (2 ^ 32) && ltb (length g.upper_links) (2 ^ 32)
    && ltb (length g.lower_links) (2 ^ 32) && ltb (length g.leaf_values) (2 ^ 32)) 17 (λ e. omega arith)

other_valid : (g : Grid) → Fault Other (validate g)
unfolding validate
other_valid g =
    let roots = first_fault (length g.root_links) (root_fault g) in
    let upper = entries_fault (length g.lower_links / 4096) g.upper_links g.upper_values in
    let lower = entries_fault (length g.leaf_values / 512) g.lower_links g.lower_values in
    let back = value_fault g.background in
    let leaves = values_fault g.leaf_values in
    fault_then Other (pair_fault g) (shape_fault g then roots then upper then lower then back then leaves) (other_pair g)
    (fault_then Other (shape_fault g) (roots then upper then lower then back then leaves) (other_shape g)
    (fault_then Other roots (upper then lower then back then leaves) (fault_first Other (length g.root_links) (root_fault g) (other_root g))
    (fault_then Other upper (lower then back then leaves) (other_entries (length g.lower_links / 4096) g.upper_links g.upper_values)
    (fault_then Other lower (back then leaves) (other_entries (length g.leaf_values / 512) g.lower_links g.lower_values)
    (fault_then Other back leaves (other_value g.background)
    (fault_first Other (length g.leaf_values) (λ i. value_fault (get_or g.leaf_values i +0)) (λ i. other_value (get_or g.leaf_values i +0))))))))

other_lent : (l : Lent) → Fault Other (lent_fault l)
unfolding lent_fault
other_lent l =
    fault_unless Other (eqb l.root_links l.root_values && eqb l.blocks (3 * l.root_links) && eqb l.upper_links l.upper_values
    && eqb l.lower_links l.lower_values) 17 (λ e. omega arith)

other_found : (t : Accepted) → Fault Other (tree_fault t)
unfolding tree_fault
other_found t =
    let index = each (index_fault t.medium) in
    fault_then Other (validate t.grid) (map_fault t.medium then index) (other_valid t.grid)
    (fault_then Other (map_fault t.medium) index (other_map t.medium) (other_each (index_fault t.medium) (other_index t.medium)))

-- no scalar grid is refused by 15
pub scalar_never_15 : (b : List ℕ) (l : Lent) → number_of (decode_into decode_scalar b l) ≡ 15 → ⊥
unfolding decode_into
scalar_never_15 b l e =
    go (of_passing (lent_fault l) (other_lent l) (of_scalar Other other_tree b (places_of l) (other_bytes b) (λ r.
    other_found (record { grid = tables_of b r; medium = medium_of b })))) e
  where
    go : {r : Result Accepted} → Among Other r → number_of r ≡ 15 → ⊥
    go (given a) e = omega arith
    go (refusal n h) e = h e
