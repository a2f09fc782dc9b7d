-- The mark decides nothing but refusal 3: byte strings that differ at most in their first eight bytes, and both have a mark that passes,
-- decode to the same answer, whatever the places. So a grid with the newer mark may be compared as the same grid with the older one. Assumes nothing.
use Prim.Native.Nat.{ℕ, zero, suc, ◌+◌, ◌-◌, ◌*◌, ◌^◌, ◌%◌, ◌/◌, ◌≤◌}
use Rattle.std.proofs.Common.{arith, sym, ◌∙◌, get_or-append-add}
use Rattle.std.specs.Prelude.{◌≡◌, true, false, cond, not, ◌&&◌, ◌||◌, leb, length, get_or, Float}
use Rattle.std.proofs.Math.Path.{refl, ap}
use mathlib.Core.List.{List, [], ◌∷◌, ◌++◌, map}
use Rattle.std.proofs.Math.Dec.{eqb, ltb}
use Rattle.std.specs.Float.Ieee.{of_bits}
use Rattle.std.specs.Float.{binary32, binary64}
use Rattle.refusals.specs.Results.{Result, ok, refused, bind, need}
use Rattle.refusals.specs.Faults.{◌then◌, unless, passing}
use Rattle.float.specs.Fused.{narrow}
use Rattle.layout.specs.Bytes.{le, signed, u32_at, u64_at, i64_at, i32_at, f32_at, f64_at, mask_bit}
use Rattle.sparse_grid.specs.declared.Entry.TheVariants.{Child, Tile}
use Rattle.sparse_grid.specs.Validate.{density_fault}
use Rattle.medium.specs.Medium.{make_medium, each, bounds_fault}
use Rattle.nanovdb.specs.Spans.{Span, overlaps, seen}
use Rattle.nanovdb.specs.Nodes.{Places, State, empty, Slots, Read, Reader, with_span, claim, child_target, size_of, mask_of, table_of, nodes_at}
use Rattle.nanovdb.specs.Nodes.{places_at, counted, entries_of, placed, leaf_placed, opened, again, slot_read, slots_read, leaf_values, node}
use Rattle.nanovdb.specs.Tree.{Root, Roots, key_passes, root_of, tile_read, tiles_read, tree}
use Rattle.nanovdb.specs.Decode.{cells64, bound_at, medium_at, root_place, medium_of, mark_passes, header_passes, link_of, value_of}
use Rattle.nanovdb.specs.Decode.{blocks_of, Accepted, tables_of, tree_fault, bytes_fault, decode_scalar, decode_density}

-- the span of a root with so many tiles
abbrev root_span : ℕ → ℕ → Span
root_span root count = record { start = root; end = root + 64 + 32 * count; level = 3; number = 0 }

module _ (b c : List ℕ) (long : length b ≡ length c) (same : (i : ℕ) → 8 ≤ i → get_or b i 0 ≡ get_or c i 0) where
  -- ---- a field that stands behind the mark
  behind : (n at : ℕ) → 8 ≤ at → le n b at ≡ le n c at
  unfolding le
  behind zero at l = refl
  behind (suc n) at l = let rest = behind n (at + 1) (omega arith) in λ t. same at l t + 256 * rest t

  bit : (at i : ℕ) → 8 ≤ at → mask_bit b at i ≡ mask_bit c at i
  bit at i l = ap (λ (x : ℕ). x / 2 ^ (i % 8) % 2) (same (at + i / 8) (omega arith))

  float : (at : ℕ) → 8 ≤ at → f32_at b at ≡ f32_at c at
  float at l = ap (of_bits binary32) (behind 4 at l)

  -- ---- the nodes: whatever their place, their masks, tables and values stand behind it
  far : (level source i : ℕ) → (8 ≤ source + mask_of (suc level)) × (8 ≤ source + table_of (suc level) + 8 * i)
  far zero source i = (omega arith, omega arith)
  far (suc level) source i = (omega arith, omega arith)

  values : (source n : ℕ) → leaf_values b source n ≡ leaf_values c source n
  unfolding leaf_values
  values source zero = refl
  values source (suc n) =
      let rest = values source n in
      let last = float (source + 96 + 4 * n) (omega arith) in
      λ t. rest t ++ (last t ∷ [])

  module _ (f g : Reader) (children : f ≡ g) (level source : ℕ) where
    slot : (i : ℕ) (s : Slots) → slot_read b f (suc level) source i s ≡ slot_read c g (suc level) source i s
    slot i s =
        let at = source + table_of (suc level) + 8 * i in
        let mask = bit (source + mask_of (suc level)) i (far level source i).0 in
        let value = float at (far level source i).1 in
        let offset = behind 8 at (far level source i).1 in
        λ t. cond (eqb (mask t) 0)
        (ok (record { entries = s.entries ++ (Tile (value t) ∷ []); state = s.state }))
        (need (not (eqb (offset t) 0)) 8
        (bind (child_target source (signed 64 (offset t))) (λ (target : ℕ).
        bind (children t target s.state) (λ (r : Read).
        ok (record { entries = s.entries ++ (Child r.number ∷ []); state = r.state })))))

    slots : (n : ℕ) (s : State) → slots_read b f (suc level) source n s ≡ slots_read c g (suc level) source n s
    unfolding slots_read
    slots zero s = refl
    slots (suc n) s = let rest = slots n s in λ t. bind (rest t) (λ (u : Slots). slot n u t)

  claims : (p : Places) (u : State) (s : Span) → claim b p u s ≡ claim c p u s
  unfolding claim
  claims p u s =
      λ t. need (leb s.end (long t)) 5
      (need (not (overlaps u.spans s.start s.end)) 6
      (need (ltb (length u.spans) p.spans) 9
      (ok (with_span u s))))

  opens : (p : Places) (level source : ℕ) (u : State) (f g : State → Result State) → f ≡ g → opened b p level source u f ≡ opened c p level source u g
  opens p level source u f g e =
      let k = nodes_at u level in
      let claimed = claims p u (record { start = source; end = source + size_of level; level = level; number = k }) in
      λ t. bind (claimed t) (λ (v : State).
      need (ltb k (places_at p level)) 9
      (bind (e t (counted v level)) (λ (w : State). ok (record { number = k; state = w }))))

  leaf : (source : ℕ) (v : State) → leaf_placed b source v ≡ leaf_placed c source v
  leaf source v =
      let read = values source 512 in
      λ t. record {
        spans = v.spans;
        upper_nodes = v.upper_nodes;
        lower_nodes = v.lower_nodes;
        leaf_nodes = v.leaf_nodes;
        upper = v.upper;
        lower = v.lower;
        leaf = v.leaf ++ read t;
      }

  nodes : (level : ℕ) (p : Places) → node level b p ≡ node level c p
  unfolding node
  nodes zero p =
      λ t source u. again (seen u.spans source 0) u
      (opens p 0 source u (λ (v : State). ok (leaf_placed b source v)) (λ (v : State). ok (leaf_placed c source v)) (λ k v. ok (leaf source v k)) t)
  nodes (suc level) p =
      let f = node level b p in
      let g = node level c p in
      let size = entries_of (suc level) in
      λ t source u. again (seen u.spans source (suc level)) u
      (opens p (suc level) source u
      (λ (v : State). bind (slots_read b f (suc level) source size v) (λ (s : Slots). ok (placed (suc level) s)))
      (λ (v : State). bind (slots_read c g (suc level) source size v) (λ (s : Slots). ok (placed (suc level) s)))
      (λ k v. bind (slots f g (nodes level p) level source size v k) (λ (s : Slots). ok (placed (suc level) s))) t)

  tile : (p : Places) (root n : ℕ) → 8 ≤ root → (r : Roots) → tile_read b p root n r ≡ tile_read c p root n r
  tile p root n l r =
      let at = root + 64 + 32 * n in
      let key = behind 8 at (omega arith) in
      let offset = behind 8 (at + 8) (omega arith) in
      let value = float (at + 20) (omega arith) in
      let below = nodes 2 p in
      λ t. need (key_passes (key t)) 7
      (cond (eqb (offset t) 0)
      (ok (record { roots = r.roots ++ (root_of (key t) (Tile (value t)) ∷ []); state = r.state }))
      (bind (child_target root (signed 64 (offset t))) (λ (target : ℕ).
      bind (below t target r.state) (λ (n : Read).
      ok (record { roots = r.roots ++ (root_of (key t) (Child n.number) ∷ []); state = n.state })))))

  tiles : (p : Places) (root n : ℕ) (u : State) → 8 ≤ root → tiles_read b p root n u ≡ tiles_read c p root n u
  unfolding tiles_read
  tiles p root zero u l = refl
  tiles p root (suc n) u l = let rest = tiles p root n u l in λ t. bind (rest t) (λ (r : Roots). tile p root n l r t)

  -- ---- the root's place and its count, and the tree
  root : root_place b ≡ root_place c
  root = ap (λ (n : ℕ). 672 + n) (behind 8 696 (omega arith))

  count : u32_at b (root_place b + 24) ≡ u32_at c (root_place c + 24)
  count = behind 4 (root_place b + 24) (omega arith) ∙ ap (λ (n : ℕ). u32_at c (n + 24)) root

  trees : (p : Places) → tree b p ≡ tree c p
  unfolding tree
  trees p =
      let claimed : (h : State) → claim b p h (root_span (root_place b) (u32_at b (root_place b + 24)))
      ≡ claim c p h (root_span (root_place c) (u32_at c (root_place c + 24))) =
      λ h. claims p h (root_span (root_place b) (u32_at b (root_place b + 24))) ∙ (λ t. claim c p h (root_span (root t) (count t))) in
      let read : (u : State) → tiles_read b p (root_place b) (u32_at b (root_place b + 24)) u
      ≡ tiles_read c p (root_place c) (u32_at c (root_place c + 24)) u =
      λ u. tiles p (root_place b) (u32_at b (root_place b + 24)) u (omega arith) ∙ (λ t. tiles_read c p (root t) (count t) u) in
      let first = claims p empty (record { start = 0; end = 736; level = 3; number = 0 }) in
      let leaves = behind 4 704 (omega arith) in
      let lowers = behind 4 708 (omega arith) in
      let uppers = behind 4 712 (omega arith) in
      λ t. bind (first t) (λ (h : State).
      need (leb (root t + 28) (long t)) 5
      (bind (claimed h t) (λ (u : State).
      need (leb (count t) p.roots) 9
      (bind (read u t) (λ (r : Roots).
      need (eqb r.state.leaf_nodes (leaves t) && eqb r.state.lower_nodes (lowers t) && eqb r.state.upper_nodes (uppers t)) 10
      (ok r))))))

  -- ---- the tables and the medium
  tables : (r : Roots) → tables_of b r ≡ tables_of c r
  unfolding tables_of
  tables r =
      let background = float (root_place b + 28) (omega arith) ∙ ap (λ (n : ℕ). f32_at c (n + 28)) root in
      λ t. record {
        background = background t;
        blocks = blocks_of r.roots;
        root_links = map (λ (e : Root). link_of e.entry) r.roots;
        root_values = map (λ (e : Root). value_of e.entry) r.roots;
        upper_links = map link_of r.state.upper;
        upper_values = map value_of r.state.upper;
        lower_links = map link_of r.state.lower;
        lower_values = map value_of r.state.lower;
        leaf_values = r.state.leaf;
      }

  bound : (at : ℕ) → 8 ≤ at → bound_at b at ≡ bound_at c at
  bound at l = ap (λ (n : ℕ). narrow (of_bits binary64 n)) (behind 8 at l)

  corner : (k : ℕ) → i32_at b (root_place b + k) ≡ i32_at c (root_place c + k)
  corner k = ap (signed 32) (behind 4 (root_place b + k) (omega arith) ∙ ap (λ (n : ℕ). u32_at c (n + k)) root)

  medium : medium_of b ≡ medium_of c
  unfolding medium_of
  medium =
      let first = ap (signed 32) (behind 4 (root_place b) (omega arith) ∙ ap (u32_at c) root) in
      λ t. make_medium
      (record { x = bound 560 (omega arith) t; y = bound 568 (omega arith) t; z = bound 576 (omega arith) t })
      (record { x = bound 584 (omega arith) t; y = bound 592 (omega arith) t; z = bound 600 (omega arith) t })
      (record { x = first t; y = corner 4 t; z = corner 8 t })
      (record { x = corner 12 t; y = corner 16 t; z = corner 20 t })
      (float 332 (omega arith) t ∷ float 336 (omega arith) t ∷ float 340 (omega arith) t
      ∷ float 344 (omega arith) t ∷ float 348 (omega arith) t ∷ float 352 (omega arith) t
      ∷ float 356 (omega arith) t ∷ float 360 (omega arith) t ∷ float 364 (omega arith) t ∷ [])
      (record { x = float 368 (omega arith) t; y = float 372 (omega arith) t; z = float 376 (omega arith) t })
      cells64

  -- ---- the decode, where both marks pass or both do not
  module _ (marks : mark_passes (u64_at b 0) ≡ mark_passes (u64_at c 0)) where
    header : header_passes b ≡ header_passes c
    unfolding header_passes
    header =
        let version = behind 4 16 (omega arith) in
        let size = behind 8 32 (omega arith) in
        let kind = behind 4 636 (omega arith) in
        let class = behind 4 632 (omega arith) in
        let grids = behind 4 28 (omega arith) in
        let index = behind 4 24 (omega arith) in
        λ t. marks t && eqb (version t / 2 ^ 21) 32 && eqb (size t) (long t) && eqb (kind t) 1
        && (eqb (class t) 0 || eqb (class t) 2) && ltb 0 (grids t) && ltb (index t) (grids t)

    faults : bytes_fault b ≡ bytes_fault c
    unfolding bytes_fault
    faults =
        λ t. unless (ltb (long t) (2 ^ 32)) 1 then unless (leb 672 (long t)) 2 then unless (header t) 3
        then each (bounds_fault (medium t))

    pub scalar_same : (p : Places) → decode_scalar b p ≡ decode_scalar c p
    unfolding decode_scalar
    scalar_same p =
        λ t. passing (faults t)
        (bind (trees p t) (λ (r : Roots).
        let g : Accepted = record { grid = tables r t; medium = medium t } in
        passing (tree_fault g) (ok g)))

    pub density_same : (p : Places) → decode_density b p ≡ decode_density c p
    unfolding decode_density
    density_same p = λ t. bind (scalar_same p t) (λ (g : Accepted). passing (density_fault g.grid) (ok g))

-- a mark that does not pass is refused by 3, whatever stands behind it
pub other_mark : (b : List ℕ) (p : Places) → ltb (length b) (2 ^ 32) ≡ true → leb 672 (length b) ≡ true
    → mark_passes (u64_at b 0) ≡ false → decode_scalar b p ≡ refused 3
unfolding decode_scalar bytes_fault header_passes
other_mark b p short whole other = rw (short, whole, other) refl

-- ---- the two marks before any bytes

-- "NanoVDB0" and "NanoVDB1"
abbrev pub older : List ℕ
older = 78 ∷ 97 ∷ 110 ∷ 111 ∷ 86 ∷ 68 ∷ 66 ∷ 48 ∷ []

abbrev pub newer : List ℕ
newer = 78 ∷ 97 ∷ 110 ∷ 111 ∷ 86 ∷ 68 ∷ 66 ∷ 49 ∷ []

module _ (rest : List ℕ) where
  same_rest : (i : ℕ) → 8 ≤ i → get_or (newer ++ rest) i 0 ≡ get_or (older ++ rest) i 0
  same_rest i l =
      let e : i ≡ 8 + (i - 8) = omega arith in
      rw (e) (get_or-append-add newer rest (i - 8) 0 ∙ sym (get_or-append-add older rest (i - 8) 0))

  both_pass : mark_passes (u64_at (newer ++ rest) 0) ≡ mark_passes (u64_at (older ++ rest) 0)
  unfolding le
  both_pass = refl

  -- a grid with the newer mark decodes as with the older one
  pub newer_scalar : (p : Places) → decode_scalar (newer ++ rest) p ≡ decode_scalar (older ++ rest) p
  newer_scalar = scalar_same (newer ++ rest) (older ++ rest) refl same_rest both_pass

  pub newer_density : (p : Places) → decode_density (newer ++ rest) p ≡ decode_density (older ++ rest) p
  newer_density = density_same (newer ++ rest) (older ++ rest) refl same_rest both_pass
