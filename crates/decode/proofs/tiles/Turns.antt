-- The answers of `tile`, and the loop over the root's tiles. Assumes nothing.
use mathlib.Core.Path.{◌≡◌, refl, sym, ap, ◌∙◌, subst}
use mathlib.Core.List.{List, [], ◌∷◌, ◌++◌}
use mathlib.Core.Bool.{true}
use Prim.Native.Nat.{ℕ, suc, ◌+◌, ◌*◌, ◌/◌, ◌≤◌, ◌<◌}
use native.Mathlib.Omega.{arith}
use lib.ListN.{length}
use lib.Ieee.{Float}
use borrow.Author.Tests.{eq-eqb, ne_eqb}
use Rattle.refusals.specs.Results.{ok, bind}
use Rattle.refusals.specs.ResultLaws.{run_more, run_stop}
use Rattle.float.specs.Zero.{+0}
use Rattle.layout.specs.Bytes.{signed, u64_at, i64_at, f32_at}
use Rattle.sparse_grid.specs.declared.Entry.TheVariants.{Child, Tile}
use Rattle.nanovdb.specs.Nodes.{Places, State, Read, child_target, node}
use Rattle.nanovdb.specs.Tree.{Roots, root_of, key_passes, tile_read, tiles_read}
use Rattle.nanovdb.specs.Lent.{Lent, lengths}
use Rattle.nanovdb.proofs.HeldTiles.{tiles_read_lem}
use Rattle.decode.specs.Inner.Filled.{Tabs, Fit, Holds, Reads, NodeOut}
use Rattle.decode.specs.Inner.Rooted.{RootTabs, RootsHeld, RootPut, TileOut, TilesOut}
use Rattle.decode.specs.Inner.GridRead.{all_tables}
use Rattle.decode.specs.declared.nodes.State as Progress
use Rattle.decode.specs.declared.nodes.Placed as Placed
use Rattle.std.specs.Prelude.{Ok, Err, Result as Answer}
use Rattle.refusals.specs.Numbers.{number, said_by}
use Rattle.refusals.specs.declared.Refusal.{Refusal}

-- ---- the ways of the definition's tile

module _ (b : List ℕ) (p : Places) (root i : ℕ) (r : Roots) where
  module _ (passes : key_passes (u64_at b (root + 64 + 32 * i)) ≡ true) where
    tile_value : (v : Float) → u64_at b (root + 64 + 32 * i + 8) ≡ 0 → v ≡ f32_at b (root + 64 + 32 * i + 20)
        → tile_read b p root i r ≡ ok (record { roots = r.roots ++ (root_of (u64_at b (root + 64 + 32 * i)) (Tile v) ∷ []); state = r.state })
    tile_value v e is = rw (passes, eq-eqb (u64_at b (root + 64 + 32 * i + 8)) 0 e, is)

    module _ (some : u64_at b (root + 64 + 32 * i + 8) ≡ 0 → ⊥) where
      tile_child : (to : ℕ) (n : Read) → ok to ≡ child_target root (i64_at b (root + 64 + 32 * i + 8)) → node 2 b p to r.state ≡ ok n
          → tile_read b p root i r
          ≡ ok (record { roots = r.roots ++ (root_of (u64_at b (root + 64 + 32 * i)) (Child n.number) ∷ []); state = n.state })
      tile_child to n t e = rw (passes, ne_eqb (u64_at b (root + 64 + 32 * i + 8)) 0 some, sym t, e)

-- ---- the answers of `tile`

-- key is the key of tile i, and it passes
pub record Keyed (b : List ℕ) (root i key : ℕ) : Type 0 where
  pub is : key ≡ u64_at b (root + 64 + 32 * i)
  pub passes : key_passes key ≡ true

-- a node stands below it: `relative` is the tile's word, and `place` where that leads
pub record Aimed (b : List ℕ) (root i key relative : ℕ) (place : Answer ℕ Refusal) : Type 0 where
  pub keyed : Keyed b root i key
  pub word : relative ≡ u64_at b (root + 64 + 32 * i + 8)
  pub some : relative ≡ 0 → ⊥
  pub aims : said_by place ≡ child_target root (signed 64 relative)

module _ {b : List ℕ} {root i key : ℕ} (k : Keyed b root i key) where
  passed : key_passes (u64_at b (root + 64 + 32 * i)) ≡ true
  passed = ap key_passes (sym k.is) ∙ k.passes

  pub tile_out_value : {relative : ℕ} {value : Float} {t : Tabs} {q v : RootTabs} {st : Progress.State} → Fit (length b) t st
      → relative ≡ u64_at b (root + 64 + 32 * i + 8) → relative ≡ 0 → value ≡ f32_at b (root + 64 + 32 * i + 20) → RootPut i key 0 value q v
      → TileOut b root i t q st t v (Ok st)
  tile_out_value {value = value} f word none is put = record {
    fit = f;
    says = λ p r R h s. (
      record { roots = r.roots ++ (root_of key (Tile value) ∷ []); state = r.state },
      subst (λ (n : ℕ). tile_read b p root i r ≡ ok (record { roots = r.roots ++ (root_of n (Tile value) ∷ []); state = r.state })) (sym k.is)
          (tile_value b p root i r passed value (sym word ∙ none) is),
      R.holds,
      put.put r.roots (Tile value) h s refl refl,
    );
  }

module _ {b : List ℕ} {root i key relative : ℕ} where
  module _ {place : Answer ℕ Refusal} (a : Aimed b root i key relative place) where
    is_some : u64_at b (root + 64 + 32 * i + 8) ≡ 0 → ⊥
    is_some e = a.some (a.word ∙ e)

    aimed : said_by place ≡ child_target root (i64_at b (root + 64 + 32 * i + 8))
    aimed = a.aims ∙ ap (λ (x : ℕ). child_target root (signed 64 x)) a.word

  -- the node at `to` has been read into the tables u
  module _ {to : ℕ} (a : Aimed b root i key relative (Ok to)) {t u : Tabs} {st : Progress.State} where
    pub tile_out_child : {c : Placed.Placed} {link : ℕ} {value : Float} {q x v : RootTabs} → NodeOut 2 b to t st u (Ok c) → x ≡ q
        → link ≡ c.number + 1 → value ≡ +0 → RootPut i key link value x v → TileOut b root i t q st u v (Ok c.state)
    tile_out_child {c} out kept one nil put = record {
      fit = out.fit.0;
      says = λ p r R h size.
          let n = c.number in
          let (e, read, holds) = out.says p r.state [] [] R in
          let child = tile_child b p root i r (passed a.keyed) (is_some a) to (record { number = n; state = e }) (aimed a) read in (
            record { roots = r.roots ++ (root_of key (Child n) ∷ []); state = e },
            subst (λ (k : ℕ). tile_read b p root i r ≡ ok (record { roots = r.roots ++ (root_of k (Child n) ∷ []); state = e })) (sym a.keyed.is) child,
            holds,
            put.put r.roots (Child n) (subst (λ (k : RootTabs). RootsHeld k r.roots) (sym kept) h) size (sym one) (sym nil),
          );
    }

-- ---- the loop over the tiles

-- from the tables t₀ and q₀ to the tables t and q by i tiles
pub record Row (b : List ℕ) (root count : ℕ) (t₀ : Tabs) (q₀ : RootTabs) (st₀ : Progress.State) (t : Tabs) (q : RootTabs) (st : Progress.State) (i : ℕ)
    : Type 0 where
  pub turn : i ≤ count
  pub kept : lengths (all_tables t q) ≡ lengths (all_tables t₀ q₀)
  pub fit : Fit (length b) t st
  pub says : (p : Places) (d : State) → Reads 2 b t₀ st₀ p d [] [] → RootsHeld q₀ []
      → (n : Roots) × (tiles_read b p root i d ≡ ok n) × Holds t st n.state [] [] × RootsHeld q n.roots

pub row_begins : {b : List ℕ} {root count : ℕ} {t : Tabs} {q : RootTabs} {st : Progress.State} → Fit (length b) t st → Row b root count t q st t q st 0
unfolding tiles_read
row_begins f = record {
  turn = omega arith;
  kept = refl;
  fit = f;
  says = λ p d R h. (record { roots = []; state = d }, refl, R.holds, h);
}

next : (b : List ℕ) (p : Places) (root : ℕ) (d : State) (n : ℕ) → tiles_read b p root (suc n) d ≡ bind (tiles_read b p root n d) (tile_read b p root n)
unfolding tiles_read
next b p root d n = refl

module _ {b : List ℕ} {root count : ℕ} {t₀ t : Tabs} {q₀ q : RootTabs} {st₀ st : Progress.State} {i : ℕ} (row : Row b root count t₀ q₀ st₀ t q st i) where
  -- what the next tile is handed
  handed : (p : Places) (d : State) → Reads 2 b t₀ st₀ p d [] [] → RootsHeld q₀ []
      → (n : Roots) × (tiles_read b p root i d ≡ ok n) × Reads 2 b t st p n.state [] [] × RootsHeld q n.roots × (length n.roots ≡ i)
  handed p d R h =
      let (n, read, holds, roots) = row.says p d R h in
      let tiled = tiles_read_lem b p root i d n R.ready read in (
        n,
        read,
        record {
          holds = holds;
          lends = record {
            spans = R.lends.spans ∙ ap (λ (k : ℕ). k / 4) (sym (ap (λ (l : Lent). l.work) row.kept));
            upper = R.lends.upper ∙ ap (λ (k : ℕ). k / 32768) (sym (ap (λ (l : Lent). l.upper_links) row.kept));
            lower = R.lends.lower ∙ ap (λ (k : ℕ). k / 4096) (sym (ap (λ (l : Lent). l.lower_links) row.kept));
            leaf = R.lends.leaf ∙ ap (λ (k : ℕ). k / 512) (sym (ap (λ (l : Lent). l.leaf_values) row.kept));
          };
          ready = tiled.keeps;
          shut = (refl, refl);
        },
        roots,
        tiled.size,
      )

  -- tile i has been read into the tables u and v
  module _ {u : Tabs} {v : RootTabs} (more : i < count) where
    pub row_more : {s : Progress.State} → TileOut b root i t q st u v (Ok s) → lengths (all_tables u v) ≡ lengths (all_tables t q)
        → Row b root count t₀ q₀ st₀ u v s (i + 1)
    row_more out k = record {
      turn = omega arith;
      kept = k ∙ row.kept;
      fit = out.fit;
      says = λ p d R g.
          let (n, read, reads, roots, size) = handed p d R g in
          let (m, tile, holds, left) = out.says p n reads roots size in
          (m, run_more (λ (k : ℕ). tiles_read b p root k d) (tile_read b p root) (next b p root d) i n m read tile, holds, left);
    }

    pub tiles_stop : {e : Refusal} → TileOut b root i t q st u v (Err e) → TilesOut b root count t₀ q₀ st₀ u v (Err e)
    tiles_stop {e} out = record {
      fit = tt;
      says = λ p d R g.
          let (n, read, reads, roots, size) = handed p d R g in
          run_stop (λ (k : ℕ). tiles_read b p root k d) (tile_read b p root) (next b p root d) i count (number e) n read
          (out.says p n reads roots size) more;
    }

  pub tiles_end : count ≤ i → TilesOut b root count t₀ q₀ st₀ t q (Ok st)
  tiles_end h = record {
    fit = row.fit;
    says = λ p d R g.
        let (n, read, holds, roots) = row.says p d R g in
        let last : i ≡ count = omega (arith, row.turn) in
        (n, subst (λ (k : ℕ). tiles_read b p root k d ≡ ok n) last read, holds, roots);
  }
