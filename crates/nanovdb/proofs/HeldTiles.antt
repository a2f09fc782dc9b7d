-- The tiles of the root in the bytes, and `tree`: what an accepted tree holds. Assumes nothing.
use Rattle.std.specs.Prelude.{◌≡◌, refl, ◌⊎◌, List, [], ◌∷◌, ◌++◌, Bool, true, false, ◌&&◌, cond, ℕ, zero, suc, ◌+◌, ◌*◌, ◌<◌, ℤ, pos, T, eqb, leb, length, get_or}
use Rattle.std.proofs.Common.{sym, ap, ◌∙◌, subst, inl, inr, eq-or-lt_of_le, le_of_suc-le-suc, arith, length-append}
use Rattle.std.proofs.Math.ListN.{get_or-append}
use Rattle.std.proofs.lemmas.List.{get_or_at}
use Rattle.std.specs.Float.Ieee.{of_bits}
use Rattle.std.specs.Float.{binary32}
use Rattle.refusals.specs.Results.{Result, ok, bind, need}
use Rattle.refusals.specs.ResultLaws.{ok_injective, bind_ok, need_ok}
use Rattle.float.specs.Zero.{+0}
use Rattle.layout.specs.Bytes.{u32_at, u64_at, i64_at}
use Rattle.layout.specs.Walk.{shift}
use Rattle.sparse_grid.specs.declared.Entry.{Entry}
use Rattle.sparse_grid.specs.declared.Entry.TheVariants.{Child, Tile}
use Rattle.nanovdb.specs.Spans.{Span, at, seen}
use Rattle.nanovdb.specs.Nodes.{Places, State, with_span, claim, child_target, Read, node, empty}
use Rattle.nanovdb.specs.Tree.{Root, Roots, field, key_passes, root_of, tile_read, tiles_read, tree}
use Rattle.nanovdb.proofs.Held.{seen_other, not_seen, Good, good_map, target_is}
use Rattle.nanovdb.proofs.HeldNodes.{claim_is, Inv2, Grown2, UpperIn, same2, stable2, read_upper}

abbrev pub no_root : Root
no_root = record { x = pos 0; y = pos 0; z = pos 0; entry = Tile +0 }

abbrev pub tile_at : ℕ → ℕ → ℕ
tile_at root i = root + 64 + 32 * i

-- the root record of tile i
pub record TileGood (child : ℕ → ℕ → Type 0) (b : List ℕ) (root i : ℕ) (r : Root) : Type 0 where
  pub passes : T (key_passes (u64_at b (tile_at root i)))
  pub x : r.x ≡ field (u64_at b (tile_at root i)) 42
  pub y : r.y ≡ field (u64_at b (tile_at root i)) 21
  pub z : r.z ≡ field (u64_at b (tile_at root i)) 0
  pub entry : Good child (eqb (u64_at b (tile_at root i + 8)) 0) (u32_at b (tile_at root i + 20)) (shift root (i64_at b (tile_at root i + 8))) r.entry

-- the records of n tiles
pub record Tiled (b : List ℕ) (root n : ℕ) (r : Roots) : Type 0 where
  pub keeps : Inv2 b r.state
  pub size : length r.roots ≡ n
  pub each : (i : ℕ) → i < n → TileGood (UpperIn b r.state) b root i (get_or r.roots i no_root)

tile_map : {P Q : ℕ → ℕ → Type 0} {b : List ℕ} {root i : ℕ} {r : Root} → ((s k : ℕ) → P s k → Q s k) → TileGood P b root i r → TileGood Q b root i r
tile_map {P} {Q} {b} {root} {i} {r} f g = record {
  passes = g.passes;
  x = g.x;
  y = g.y;
  z = g.z;
  entry = good_map f (eqb (u64_at b (tile_at root i + 8)) 0) (u32_at b (tile_at root i + 20)) (shift root (i64_at b (tile_at root i + 8))) r.entry g.entry;
}

-- one more record, good in the state that comes with it
more : (b : List ℕ) (root n : ℕ) (r : Roots) (u : State) (e : Root) → Tiled b root n r → Inv2 b u → Grown2 r.state u → TileGood (UpperIn b u) b root n e
    → Tiled b root (suc n) (record { roots = r.roots ++ (e ∷ []); state = u })
more b root n r u e f i g good = record {
  keeps = i;
  size = omega (arith, f.size, length-append r.roots (e ∷ []));
  each = λ (j : ℕ) (h : j < suc n). pick j (eq-or-lt_of_le (le_of_suc-le-suc h));
}
  where
    pick : (j : ℕ) → (j ≡ n) ⊎ (j < n) → TileGood (UpperIn b u) b root j (get_or (r.roots ++ (e ∷ [])) j no_root)
    pick j (inl p) =
        subst (λ (z : Root). TileGood (UpperIn b u) b root j z) (sym (get_or_at r.roots e [] no_root j (f.size ∙ sym p)))
        (subst (λ (z : ℕ). TileGood (UpperIn b u) b root z e) (sym p) good)
    pick j (inr q) =
        subst (λ (z : Root). TileGood (UpperIn b u) b root j z) (sym (get_or-append r.roots (e ∷ []) no_root j (omega (arith, f.size))))
        (tile_map (stable2 b r.state u g) (f.each j q))

tile_read_lem : (b : List ℕ) (p : Places) (root n : ℕ) (r r' : Roots) → Tiled b root n r → tile_read b p root n r ≡ ok r' → Tiled b root (suc n) r'
tile_read_lem b p root n r r' f e =
    let (pass, e₁) = need_ok (key_passes k) 7 (rest (eqb (u64_at b (tile_at root n + 8)) 0)) e in
    go (eqb (u64_at b (tile_at root n + 8)) 0)
    (λ (u : State) (e : Entry) (i : Inv2 b u) (g : Grown2 r.state u) good.
    more b root n r u (root_of k e) f i g (record { passes = pass; x = refl; y = refl; z = refl; entry = good }))
    e₁
  where
    k : ℕ
    k = u64_at b (tile_at root n)

    bits : ℕ
    bits = u32_at b (tile_at root n + 20)

    offset : ℤ
    offset = i64_at b (tile_at root n + 8)

    after : Read → Result Roots
    after = λ (m : Read). ok (record { roots = r.roots ++ (root_of k (Child m.number) ∷ []); state = m.state })

    visit : ℕ → Result Roots
    visit = λ (target : ℕ). bind (node 2 b p target r.state) after

    rest : Bool → Result Roots
    rest x = cond x (ok (record { roots = r.roots ++ (root_of k (Tile (of_bits binary32 bits)) ∷ []); state = r.state }))
        (bind (child_target root offset) visit)

    go : (x : Bool)
        → ((u : State) (e : Entry) → Inv2 b u → Grown2 r.state u → Good (UpperIn b u) x bits (shift root offset) e
        → Tiled b root (suc n) (record { roots = r.roots ++ (root_of k e ∷ []); state = u }))
        → rest x ≡ ok r' → Tiled b root (suc n) r'
    go true add e = subst (Tiled b root (suc n)) (ok_injective e) (add r.state (Tile (of_bits binary32 bits)) f.keeps (same2 r.state) refl)
    go false add e =
        let (target, is_target, e₁) = bind_ok (child_target root offset) visit e in
        let (m, is_read, e₂) = bind_ok (node 2 b p target r.state) after e₁ in
        let st = read_upper b p target r.state m f.keeps is_read in
        subst (Tiled b root (suc n)) (ok_injective e₂)
        (add m.state (Child m.number) st.keeps st.grown
        (subst (λ (z : ℕ). UpperIn b m.state z m.number) (target_is root offset is_target) st.reads))

pub tiles_read_lem : (b : List ℕ) (p : Places) (root n : ℕ) (t : State) (r : Roots) → Inv2 b t → tiles_read b p root n t ≡ ok r → Tiled b root n r
unfolding tiles_read
tiles_read_lem b p root zero t r i e =
    subst (Tiled b root 0) (ok_injective e) (record { keeps = i; size = refl; each = λ (i : ℕ) (h : i < 0). absurd (omega arith) })
tiles_read_lem b p root (suc n) t r i e =
    let (r₀, before, last) = bind_ok (tiles_read b p root n t) (tile_read b p root n) e in
    tile_read_lem b p root n r₀ r (tiles_read_lem b p root n t r₀ i before) last

-- ---- the start

-- two spans of level 3 are no node's
two_spans : (h r : Span) (s level k : ℕ) → h.level ≡ 3 → r.level ≡ 3 → level < 3 → seen (([] ++ (h ∷ [])) ++ (r ∷ [])) s level ≡ at k → ⊥
unfolding seen
two_spans h r s level k hl rl l e =
    not_seen
    (sym (seen_other [] h s level (λ (x : h.level ≡ level). omega arith))
    ∙ sym (seen_other ([] ++ (h ∷ [])) r s level (λ (x : r.level ≡ level). omega arith)) ∙ e)

pub start : (b : List ℕ) (h r : Span) → h.level ≡ 3 → r.level ≡ 3 → Inv2 b (with_span (with_span empty h) r)
start b h r hl rl = record {
  below = record {
    below = record { full = refl; known = λ (s k : ℕ) e. absurd (two_spans h r s 0 k hl rl (omega arith) e) };
    full = refl;
    known = λ (s k : ℕ) e. absurd (two_spans h r s 1 k hl rl (omega arith) e);
  };
  full = refl;
  known = λ (s k : ℕ) e. absurd (two_spans h r s 2 k hl rl (omega arith) e);
}

abbrev pub root_of_bytes : List ℕ → ℕ
root_of_bytes b = 672 + u64_at b 696

pub tree_holds : (b : List ℕ) (p : Places) (r : Roots) → tree b p ≡ ok r → Tiled b (root_of_bytes b) (u32_at b (root_of_bytes b + 24)) r
unfolding tree
tree_holds b p r e =
    let (h, claimed, e₁) = bind_ok (claim b p empty head) after_head e in
    let (fits, e₂) = need_ok (leb (root + 28) (length b)) 5 (bind (claim b p h whole) after_root) e₁ in
    let (t, claimed₂, e₃) = bind_ok (claim b p h whole) after_root e₂ in
    let (few, e₄) = need_ok (leb count p.roots) 9 (bind (tiles_read b p root count t) after_tiles) e₃ in
    let (r₁, tiles, e₅) = bind_ok (tiles_read b p root count t) after_tiles e₄ in
    let (counts, e₆) = need_ok (checked r₁) 10 (ok r₁) e₅ in
    let is : with_span (with_span empty head) whole ≡ t = ap (λ (z : State). with_span z whole) (claim_is b p empty head claimed)
    ∙ claim_is b p h whole claimed₂ in
    subst (Tiled b root count) (ok_injective e₆) (tiles_read_lem b p root count t r₁ (subst (Inv2 b) is (start b head whole refl refl)) tiles)
  where
    root : ℕ
    root = root_of_bytes b

    count : ℕ
    count = u32_at b (root + 24)

    head : Span
    head = record { start = 0; end = 736; level = 3; number = 0 }

    whole : Span
    whole = record { start = root; end = root + 64 + 32 * count; level = 3; number = 0 }

    checked : Roots → Bool
    checked r = eqb r.state.leaf_nodes (u32_at b 704) && eqb r.state.lower_nodes (u32_at b 708) && eqb r.state.upper_nodes (u32_at b 712)

    after_tiles : Roots → Result Roots
    after_tiles = λ (r : Roots). need (checked r) 10 (ok r)

    after_root : State → Result Roots
    after_root = λ (t : State). need (leb count p.roots) 9 (bind (tiles_read b p root count t) after_tiles)

    after_head : State → Result Roots
    after_head = λ (h : State). need (leb (root + 28) (length b)) 5 (bind (claim b p h whole) after_root)
