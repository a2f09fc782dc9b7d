-- The answers of `read_tree`, one for each way out. Assumes nothing.
use mathlib.Core.Path.{◌≡◌, refl, sym, ap, ◌∙◌, subst}
use mathlib.Core.List.{List, [], ◌∷◌}
use mathlib.Core.Bool.{Bool, true, false, ◌&&◌}
use Prim.Native.Nat.{ℕ, ◌+◌, ◌-◌, ◌*◌, ◌/◌, ◌≤◌, ◌<◌}
use native.Mathlib.Omega.{arith}
use lib.Dec.{eqb}
use lib.IntN.{pos}
use lib.ListN.{length}
use Rattle.refusals.specs.Results.{ok, refused}
use Rattle.float.specs.Zero.{+0}
use Rattle.lent.proofs.PaddedLaws.{padded_none}
use Rattle.layout.specs.Bytes.{u32_at, u64_at}
use Rattle.nanovdb.specs.Spans.{Span}
use Rattle.nanovdb.specs.Nodes.{Places, State, empty, with_span, claim}
use Rattle.nanovdb.specs.Tree.{tree}
use Rattle.nanovdb.specs.Decode.{root_place, blocks_of}
use Rattle.nanovdb.proofs.HeldTiles.{start, tiles_read_lem}
use Rattle.decode.specs.Inner.WorkTable.{header_span, root_span, nodes, RootOut}
use Rattle.decode.specs.Inner.Packed.{Packed}
use Rattle.decode.specs.Inner.Filled.{Tabs, Fit, Holds, Reads, with_work}
use Rattle.decode.specs.Inner.Rooted.{RootTabs, RootsHeld, TilesSay, TilesOut}
use Rattle.decode.specs.Inner.TreeRead.{Zeroed, LendsAll, TreeOut}
use Rattle.decode.specs.declared.spans.Spans.{Spans}
use Rattle.std.specs.Prelude.{Ok, Err, Result as Answer}
use Rattle.refusals.specs.Numbers.{number}
use Rattle.refusals.specs.declared.Refusal.{Refusal}
use Rattle.refusals.specs.declared.Refusal.TheVariants.{PastEnd, NoPlace, NodeCounts}
use Rattle.decode.specs.declared.nodes.State as Progress
use Rattle.decode.proofs.spans.ClaimLaws.{length_spans}
use Rattle.decode.proofs.tree.Ways.{count, limit, counted, rooted, tree_short, tree_spanless, tree_past, tree_root}
use Rattle.decode.proofs.tree.Ways.{tree_many, tree_tiles, tree_counts, tree_read}

-- no node has been numbered
abbrev pub none : Spans → Progress.State
none s = record { spans = s; uppers = 0; lowers = 0; leaves = 0 }

-- a refusal says nothing of what the tables then hold
abbrev pub Refuses : List ℕ → Tabs → RootTabs → Refusal → Type 0
Refuses b t q e = (p : Places) → LendsAll t q p → Zeroed t q → tree b p ≡ refused (number e)

-- ---- what is known on the way

-- the root stands at 672 + offset, and it has `tiles` tiles
pub record Root (b : List ℕ) (t : Tabs) (offset tiles : ℕ) : Type 0 where
  pub long : 736 ≤ length b
  pub words : 4 ≤ length t.work
  pub offset-is : offset ≡ u64_at b 696
  pub near : offset ≤ length b - 700
  pub tiles-are : tiles ≡ u32_at b (672 + offset + 24)

-- `begin` has answered, and left the words w
pub record Asked (b : List ℕ) (t : Tabs) (offset tiles : ℕ) (w : List ℕ) (r : Answer Spans Refusal) : Type 0 where
  pub root : Root b t offset tiles
  pub says : RootOut (length b) t.work w r (672 + offset) (672 + offset + 64 + 32 * tiles)

-- the root has a span, the tiles have places, and `tiles` has answered x and left the tables u and v
pub record Tiled (b : List ℕ) (t : Tabs) (q : RootTabs) (offset tiles : ℕ) (u : Tabs) (v : RootTabs)
    (x : Answer Progress.State Refusal) : Type 0 where
  pub words : List ℕ
  pub spans : Spans
  pub asked : Asked b t offset tiles words (Ok spans)
  pub few : tiles ≤ length q.links
  pub out : TilesOut b (672 + offset) tiles (with_work t words) q (none spans) u v x

-- what is known of the root once `begin` has answered r
pub asks : (t : Tabs) (w : List ℕ) (r : Answer Spans Refusal) {b : List ℕ} {offset tiles : ℕ} → 736 ≤ length b → 4 ≤ length t.work
    → offset ≡ u64_at b 696 → offset ≤ length b - 700 → tiles ≡ u32_at b (672 + offset + 24)
    → RootOut (length b) t.work w r (672 + offset) (672 + offset + 64 + 32 * tiles) → Asked b t offset tiles w r
asks t w r long words is near are says = record {
  root = record { long = long; words = words; offset-is = is; near = near; tiles-are = are };
  says = says;
}

-- ---- before the root is claimed

pub out-short : (b : List ℕ) {t : Tabs} {q : RootTabs} → length b < 736 → Refuses b t q PastEnd
out-short b h = λ p L Z. tree_short b p h

pub out-spanless : (b : List ℕ) {t : Tabs} {q : RootTabs} → 736 ≤ length b → length t.work < 4 → Refuses b t q NoPlace
out-spanless b long h = λ p L Z. tree_spanless b p long (omega (arith, L.nodes.spans))

some : {t : Tabs} {q : RootTabs} {p : Places} → 4 ≤ length t.work → LendsAll t q p → 0 < p.spans
some words L = omega (arith, L.nodes.spans)

pub out-past : (b : List ℕ) {t : Tabs} {q : RootTabs} {offset : ℕ} → 736 ≤ length b → 4 ≤ length t.work → offset ≡ u64_at b 696
    → length b - 700 < offset → Refuses b t q PastEnd
out-past b long words is h = λ p L Z. tree_past b p long (some words L) (omega arith)

-- ---- by the answer of `begin`

module _ {b : List ℕ} {t : Tabs} {offset tiles : ℕ} (r : Root b t offset tiles) where
  inside : root_place b + 28 ≤ length b
  inside = omega (arith, r.long, r.offset-is, r.near)

  place : 672 + offset ≡ root_place b
  place = ap (λ (k : ℕ). 672 + k) r.offset-is

  are : tiles ≡ count b
  are = r.tiles-are ∙ ap (λ (k : ℕ). u32_at b (k + 24)) place

  end : 672 + offset + 64 + 32 * tiles ≡ limit b
  end = (λ i. place i + 64 + 32 * are i)

pub out-root : {b : List ℕ} {t : Tabs} {offset tiles : ℕ} {w : List ℕ} {q : RootTabs} {e : Refusal} → Asked b t offset tiles w (Err e) → Refuses b t q e
out-root {b} {e = e} a = λ p L Z.
    let root = a.root in
    tree_root b p root.long (some root.words L) (inside root) (number e)
    ((λ i. claim b p (with_span empty header_span) (root_span (sym (place root) i) (sym (end root) i)))
    ∙ a.says.1 b p (with_span empty header_span) refl L.nodes.spans refl)

module _ {b : List ℕ} {t : Tabs} {offset tiles : ℕ} {w : List ℕ} {s : Spans} (a : Asked b t offset tiles w (Ok s)) where
  claimed : {q : RootTabs} (p : Places) → LendsAll t q p
      → claim b p (with_span empty header_span) (root_span (root_place b) (limit b)) ≡ ok (rooted b)
  claimed p L =
      subst (λ (x : Span). claim b p (with_span empty header_span) x ≡ ok (with_span (with_span empty header_span) x))
      (λ i. root_span (place a.root i) (end a.root i)) (a.says.1 b p (with_span empty header_span) refl L.nodes.spans refl)

  pub out-many : {q : RootTabs} → length q.links < tiles → Refuses b t q NoPlace
  out-many h = λ p L Z.
      tree_many b p a.root.long (some a.root.words L) (inside a.root) (claimed p L)
      (subst (λ (k : ℕ). p.roots < k) (are a.root) (omega (arith, L.roots)))

  no_nodes : s.count ≡ 0
  no_nodes = let e = ap length a.says.0.list in omega (arith, length_spans w s.count s.root s.limit)

  pub tree-fit : length t.upper_values ≡ length t.upper_links → length t.lower_values ≡ length t.lower_links
      → Fit (length b) (with_work t w) (none s)
  unfolding nodes Packed
  tree-fit pu pl = record {
    rep = a.says.0.rep;
    packed = subst (λ (k : ℕ). Packed (length b) (nodes w k)) (sym no_nodes) tt;
    total = no_nodes;
    upper_pair = pu;
    lower_pair = pl;
  }

  -- what the tiles' reader is handed
  begun : {q : RootTabs} (p : Places) → LendsAll t q p → Zeroed t q → Reads 2 b (with_work t w) (none s) p (rooted b) [] []
  begun p L Z = record {
    holds = record {
      spans_are = (λ i. header_span ∷ (root_span (sym (place a.root) i) (sym (end a.root) i) ∷ [])) ∙ sym a.says.0.list;
      uppers = refl;
      lowers = refl;
      leaves = refl;
      upper_links = Z.upper_links ∙ sym (padded_none (length t.upper_links) 0);
      upper_values = Z.upper_values ∙ sym (padded_none (length t.upper_values) +0);
      lower_links = Z.lower_links ∙ sym (padded_none (length t.lower_links) 0);
      lower_values = Z.lower_values ∙ sym (padded_none (length t.lower_values) +0);
      leaf_values = (t.leaf_values, refl);
    };
    lends = record {
      spans = L.nodes.spans ∙ ap (λ (k : ℕ). k / 4) (sym a.says.0.size_kept);
      upper = L.nodes.upper;
      lower = L.nodes.lower;
      leaf = L.nodes.leaf;
    };
    ready = start b header_span (root_span (root_place b) (limit b)) refl refl;
    shut = (refl, refl);
  }

no_roots : {t : Tabs} {q : RootTabs} → Zeroed t q → RootsHeld q []
unfolding blocks_of
no_roots {q = q} Z = record {
  blocks = Z.blocks ∙ sym (padded_none (length q.blocks) (pos 0));
  links = Z.links ∙ sym (padded_none (length q.links) 0);
  values = Z.values ∙ sym (padded_none (length q.values) +0);
}

-- ---- by the answer of `tiles`

module _ {b : List ℕ} {t : Tabs} {q : RootTabs} {offset tiles : ℕ} {u : Tabs} {v : RootTabs} where
  module _ {x : Answer Progress.State Refusal} (d : Tiled b t q offset tiles u v x) where
    abbrev root : Root b t offset tiles
    root = d.asked.root

    granted : (p : Places) → LendsAll t q p → claim b p (with_span empty header_span) (root_span (root_place b) (limit b)) ≡ ok (rooted b)
    granted p L = claimed d.asked p L

    fewer : (p : Places) → LendsAll t q p → count b ≤ p.roots
    fewer p L = subst (λ (k : ℕ). k ≤ p.roots) (are root) (omega (arith, L.roots, d.few))

    -- what the tiles' reader says, of the definition's place and count
    said : TilesSay b (root_place b) (count b) (with_work t d.words) q (none d.spans) u v x
    said =
        subst (λ (k : ℕ). TilesSay b k (count b) (with_work t d.words) q (none d.spans) u v x) (place root)
        (subst (λ (k : ℕ). TilesSay b (672 + offset) k (with_work t d.words) q (none d.spans) u v x) (are root) d.out.says)

  pub out-tiles : {e : Refusal} → Tiled b t q offset tiles u v (Err e) → Refuses b t q e
  out-tiles {e} d = λ p L Z.
      let r = d.asked.root in
      tree_tiles b p r.long (some r.words L) (inside r) (granted d p L) (fewer d p L) (number e)
      (said d p (rooted b) (begun d.asked p L Z) (no_roots Z))

  -- the counts have been compared
  module _ {s : Progress.State} {same : Bool} (d : Tiled b t q offset tiles u v (Ok s))
      (tested : same ≡ (eqb s.leaves (u32_at b 704) && eqb s.lowers (u32_at b 708) && eqb s.uppers (u32_at b 712))) where
    tests : {n : State} → Holds u s n [] [] → same ≡ counted b n
    tests h =
        tested ∙ (λ i. eqb (sym h.leaves i) (u32_at b 704) && eqb (sym h.lowers i) (u32_at b 708) && eqb (sym h.uppers i) (u32_at b 712))

    pub out-counts : same ≡ false → Refuses b t q NodeCounts
    out-counts f = λ p L Z.
        let r = d.asked.root in
        let (n, read, holds, roots) = said d p (rooted b) (begun d.asked p L Z) (no_roots Z) in
        tree_counts b p r.long (some r.words L) (inside r) (granted d p L) (fewer d p L) n read (sym (tests holds) ∙ f)

    pub out-read : same ≡ true → TreeOut b t q u v (Ok (record { root = 672 + offset; roots = tiles; nodes = s }))
    out-read f = λ p L Z.
        let r = d.asked.root in
        let reads = begun d.asked p L Z in
        let (n, read, holds, roots) = said d p (rooted b) reads (no_roots Z) in
        let tiled = tiles_read_lem b p (root_place b) (count b) (rooted b) n reads.ready read in (
          n,
          tree_read b p r.long (some r.words L) (inside r) (granted d p L) (fewer d p L) n read (sym (tests holds) ∙ f),
          holds,
          roots,
          place r,
          omega (arith, r.long, r.near),
          tiled.size ∙ sym (are r),
        )
