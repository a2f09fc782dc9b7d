-- The tables hold the definition's state after each step of the reader. Assumes nothing.
use mathlib.Core.Path.{◌≡◌, refl, sym, ap, ◌∙◌, subst}
use mathlib.Core.List.{List, [], ◌∷◌, ◌++◌, map, append_assoc, append-nil}
use Prim.Native.Nat.{ℕ, zero, suc, ◌+◌, ◌*◌, ◌≤◌, ◌<◌}
use native.Mathlib.Omega.{arith}
use lib.ListN.{length, set, length-append, length-map, length-set}
use lib.Ieee.{Float}
use Rattle.refusals.specs.Results.{ok}
use Rattle.float.specs.Zero.{+0}
use Rattle.lent.specs.Padded.{padded}
use Rattle.lent.proofs.PaddedLaws.{padded_push, padded_zero}
use Rattle.sparse_grid.specs.declared.Entry.{Entry}
use Rattle.sparse_grid.specs.declared.Entry.TheVariants.{Child, Tile}
use Rattle.nanovdb.specs.Spans.{Span}
use Rattle.nanovdb.specs.Nodes.{by_level, Places, State, Read, Slots, entries_of, nodes_at, leaf_placed, placed, slots_read, node}
use Rattle.nanovdb.specs.Decode.{link_of, value_of}
use Rattle.nanovdb.proofs.HeldNodes.{span_of, opening, lower_filled, upper_filled, read_leaf, read_lower}
use Rattle.decode.specs.Inner.WorkTable.{spans, size, Pushed}
use Rattle.decode.specs.Inner.Filled.{count_in, grown_by, Tabs, tabs, with_work, Holds, Ready, Shut}
use Rattle.decode.specs.Inner.Stored.{leaf_value, Stored, at_upper, at_lower}
use Rattle.decode.specs.declared.spans.Spans.{Spans}
use Rattle.decode.specs.declared.nodes.State as Progress
use Rattle.decode.proofs.nodes.Fits.{room_of}
use Rattle.decode.proofs.nodes.Runs.{leaf_filled}

-- ---- tables and states with a part exchanged

abbrev pub with_links : Tabs → List ℕ → List ℕ → Tabs
with_links t ul ll = tabs t.work ul t.upper_values ll t.lower_values t.leaf_values

abbrev pub with_values : Tabs → List Float → List Float → Tabs
with_values t uv lv = tabs t.work t.upper_links uv t.lower_links lv t.leaf_values

abbrev pub with_leaves : Tabs → List Float → Tabs
with_leaves t lf = tabs t.work t.upper_links t.upper_values t.lower_links t.lower_values lf

abbrev with_entries : State → List Entry → List Entry → State
with_entries d us ls = record {
  spans = d.spans;
  upper_nodes = d.upper_nodes;
  lower_nodes = d.lower_nodes;
  leaf_nodes = d.leaf_nodes;
  upper = us;
  lower = ls;
  leaf = d.leaf;
}

abbrev span_as : ℕ → ℕ → ℕ → Span
span_as source level number = record { start = source; end = source + by_level level 2144 33856 270400; level = level; number = number }

-- the entries so far of a node that is being read are the open ones of its level; `outer` are those of the upper node around a lower one
abbrev pub lower_open : ℕ → List Entry → List Entry
lower_open level es = by_level level [] es []

abbrev pub upper_open : ℕ → List Entry → List Entry → List Entry
upper_open level es outer = by_level level outer outer es

-- how many entries of its level stand before its next slot
abbrev pub before : ℕ → State → List Entry → ℕ
before level d es = by_level level 0 (length (d.lower ++ es)) (length (d.upper ++ es))

-- ---- one entry more in a pair of tables

pub map_snoc : {A B : Type 0} (f : A → B) (l : List A) (x : A) → map f (l ++ (x ∷ [])) ≡ map f l ++ (f x ∷ [])
map_snoc f [] x = refl
map_snoc f (y ∷ l) x = ap (λ (t : List _). f y ∷ t) (map_snoc f l x)

module _ {B : Type 0} (z : B) (f : Entry → B) (d es : List Entry) (e : Entry) (t : List B) (h : t ≡ padded (length t) z (map f (d ++ es))) where
  whole : map f (d ++ (es ++ (e ∷ []))) ≡ map f (d ++ es) ++ (f e ∷ [])
  whole = ap (map f) (sym (append_assoc d es (e ∷ []))) ∙ map_snoc f (d ++ es) e

  -- stored
  pub entry_put : (at : ℕ) (v : B) → length (d ++ es) ≡ at → at < length t → v ≡ f e
      → set t at v ≡ padded (length (set t at v)) z (map f (d ++ (es ++ (e ∷ []))))
  entry_put at v p room is =
      let l = map f (d ++ es) in
      let size : length l ≡ at = length-map (d ++ es) f ∙ p in
      let pushed : set (padded (length t) z l) (length l) v ≡ padded (length t) z (l ++ (v ∷ [])) = padded_push (length t) z l v (omega arith) in
      ap (λ (x : List B). set x at v) h
      ∙ ap (λ (k : ℕ). set (padded (length t) z l) k v) (sym size)
      ∙ pushed
      ∙ ap (λ (x : B). padded (length t) z (l ++ (x ∷ []))) is
      ∙ ap (padded (length t) z) (sym whole)
      ∙ ap (λ (k : ℕ). padded k z (map f (d ++ (es ++ (e ∷ []))))) (sym (length-set t at v))

  -- the table after the store
  pub entry_stored : (at : ℕ) (v : B) {u : List B} → u ≡ set t at v → length (d ++ es) ≡ at → at < length t → v ≡ f e
      → u ≡ padded (length u) z (map f (d ++ (es ++ (e ∷ []))))
  entry_stored at v stored p room is =
      subst (λ (l : List B). l ≡ padded (length l) z (map f (d ++ (es ++ (e ∷ []))))) (sym stored) (entry_put at v p room is)

  -- a zero, which stands there already
  pub entry_none : (at : ℕ) → length (d ++ es) ≡ at → at < length t → z ≡ f e → t ≡ padded (length t) z (map f (d ++ (es ++ (e ∷ []))))
  entry_none at p room is =
      let l = map f (d ++ es) in
      let size : length l ≡ at = length-map (d ++ es) f ∙ p in
      let same : padded (length t) z (l ++ (z ∷ [])) ≡ padded (length t) z l = padded_zero (length t) z l (omega arith) in
      h ∙ sym same ∙ ap (λ (x : B). padded (length t) z (l ++ (x ∷ []))) is ∙ ap (padded (length t) z) (sym whole)

-- a table that did not change
left_alone : {B : Type 0} (z : B) (l : List B) {t u : List B} → u ≡ t → t ≡ padded (length t) z l → u ≡ padded (length u) z l
left_alone z l e h = subst (λ (x : List _). x ≡ padded (length x) z l) (sym e) h

-- ---- tables beside a state: with other words and counts, with other leaves, and with other entries

module _ {t : Tabs} {st : Progress.State} {d : State} {lower upper : List Entry} (h : Holds t st d lower upper) where
  recounted : {w : List ℕ} {s : Progress.State} {l : List Span} {n m k : ℕ} → l ≡ spans w s.spans.count s.spans.root s.spans.limit
      → n ≡ s.uppers → m ≡ s.lowers → k ≡ s.leaves
      → Holds (with_work t w) s
      (record { spans = l; upper_nodes = n; lower_nodes = m; leaf_nodes = k; upper = d.upper; lower = d.lower; leaf = d.leaf }) lower upper
  recounted e n m k = record {
    spans_are = e;
    uppers = n;
    lowers = m;
    leaves = k;
    upper_links = h.upper_links;
    upper_values = h.upper_values;
    lower_links = h.lower_links;
    lower_values = h.lower_values;
    leaf_values = h.leaf_values;
  }

  pub holds_leaf : (b : List ℕ) (source : ℕ) {lf : List Float} {base : ℕ} → length d.leaf ≡ base → base + 512 ≤ length t.leaf_values
      → Stored (leaf_value b source) base 0 t.leaf_values 512 lf → Holds (with_leaves t lf) st (leaf_placed b source d) lower upper
  holds_leaf b source from room f = record {
    spans_are = h.spans_are;
    uppers = h.uppers;
    lowers = h.lowers;
    leaves = h.leaves;
    upper_links = h.upper_links;
    upper_values = h.upper_values;
    lower_links = h.lower_links;
    lower_values = h.lower_values;
    leaf_values = leaf_filled b source d.leaf h.leaf_values from room f (omega arith);
  }

  refilled : {ul : List ℕ} {uv : List Float} {ll : List ℕ} {lv : List Float} {us ls es os : List Entry}
      → ul ≡ padded (length ul) 0 (map link_of (us ++ os)) → uv ≡ padded (length uv) +0 (map value_of (us ++ os))
      → ll ≡ padded (length ll) 0 (map link_of (ls ++ es)) → lv ≡ padded (length lv) +0 (map value_of (ls ++ es))
      → Holds (tabs t.work ul uv ll lv t.leaf_values) st (with_entries d us ls) es os
  refilled a b e f = record {
    spans_are = h.spans_are;
    uppers = h.uppers;
    lowers = h.lowers;
    leaves = h.leaves;
    upper_links = a;
    upper_values = b;
    lower_links = e;
    lower_values = f;
    leaf_values = h.leaf_values;
  }

-- ---- a span and a number more

span_more : {w w' : List ℕ} {s next : Spans} (source : ℕ) (d : State) (level number : ℕ) → d.spans ≡ spans w s.count s.root s.limit
    → number ≡ nodes_at d level → Pushed w w' s next source level number
    → d.spans ++ (span_of level source d ∷ []) ≡ spans w' next.count next.root next.limit
unfolding size
span_more {w} {w'} {s} source d level number held n p =
    ap (λ (l : List Span). l ++ (span_of level source d ∷ [])) held
    ∙ ap (λ (k : ℕ). spans w s.count s.root s.limit ++ (span_as source level k ∷ [])) (sym n)
    ∙ sym p.list

pub holds_opened : (level source : ℕ) {t : Tabs} {w : List ℕ} {st : Progress.State} {next : Spans} {d : State} {lower upper : List Entry}
    → Holds t st d lower upper → Pushed t.work w st.spans next source level (count_in st level)
    → Holds (with_work t w) (grown_by level st next) (opening level source d) lower upper
holds_opened zero source {d = d} h p =
    recounted h (span_more source d 0 _ h.spans_are (sym h.leaves) p) h.uppers h.lowers (ap (λ (k : ℕ). k + 1) h.leaves)
holds_opened (suc zero) source {d = d} h p =
    recounted h (span_more source d 1 _ h.spans_are (sym h.lowers) p) h.uppers (ap (λ (k : ℕ). k + 1) h.lowers) h.leaves
holds_opened (suc (suc n)) source {d = d} h p =
    recounted h (span_more source d (suc (suc n)) _ h.spans_are (sym h.uppers) p) (ap (λ (k : ℕ). k + 1) h.uppers) h.lowers h.leaves

-- ---- a node whose slots have all been read, and one whose slots have not

nothing : {B : Type 0} (n : ℕ) (z : B) (f : Entry → B) (d es o : List Entry) → o ≡ []
    → padded n z (map f (d ++ es)) ≡ padded n z (map f ((d ++ es) ++ o))
nothing n z f d es o e = ap (λ (l : List Entry). padded n z (map f l)) (sym (append-nil (d ++ es)) ∙ ap (λ (l : List Entry). (d ++ es) ++ l) (sym e))

closed : {B : Type 0} (n : ℕ) (z : B) (f : Entry → B) (d o : List Entry) → o ≡ [] → padded n z (map f (d ++ [])) ≡ padded n z (map f (d ++ o))
closed n z f d o e = ap (λ (l : List Entry). padded n z (map f (d ++ l))) (sym e)

pub holds_placed : (level : ℕ) (now : Slots) {t : Tabs} {s : Progress.State} {lower upper : List Entry} → 0 < level → Shut level lower upper
    → Holds t s now.state (lower_open level now.entries) (upper_open level now.entries upper) → Holds t s (placed level now) lower upper
holds_placed zero now p c h = absurd (omega arith)
holds_placed (suc zero) now {t} {lower = lower} p c h =
    let d = now.state.lower in
    refilled h h.upper_links h.upper_values
    (h.lower_links ∙ nothing (length t.lower_links) 0 link_of d now.entries lower c)
    (h.lower_values ∙ nothing (length t.lower_values) +0 value_of d now.entries lower c)
holds_placed (suc (suc n)) now {t} {lower = lower} {upper} p c h =
    let d = now.state in
    refilled h
    (h.upper_links ∙ nothing (length t.upper_links) 0 link_of d.upper now.entries upper c.1)
    (h.upper_values ∙ nothing (length t.upper_values) +0 value_of d.upper now.entries upper c.1)
    (h.lower_links ∙ closed (length t.lower_links) 0 link_of d.lower lower c.0)
    (h.lower_values ∙ closed (length t.lower_values) +0 value_of d.lower lower c.0)

pub holds_begun : (level : ℕ) {t : Tabs} {s : Progress.State} {d : State} {lower upper : List Entry} → 0 < level → Shut level lower upper
    → Holds t s d lower upper → Holds t s d (lower_open level []) (upper_open level [] upper)
holds_begun zero p c h = absurd (omega arith)
holds_begun (suc zero) {t} {s} {d} {lower} {upper} p c h = subst (λ (l : List Entry). Holds t s d l upper) c h
holds_begun (suc (suc n)) {t} {s} {d} {lower} {upper} p c h =
    subst (λ (l : List Entry). Holds t s d [] l) c.1 (subst (λ (l : List Entry). Holds t s d l upper) c.0 h)

-- ---- one slot more: the next entry goes to `at` of the tables of its level, which are paired

-- the slot's entry is the next of its level
pub record Next (level : ℕ) (t : Tabs) (s : Progress.State) (d : State) (es outer : List Entry) (at : ℕ) : Type 0 where
  pub holds : Holds t s d (lower_open level es) (upper_open level es outer)
  pub upper_pair : length t.upper_values ≡ length t.upper_links
  pub lower_pair : length t.lower_values ≡ length t.lower_links
  pub place : before level d es ≡ at
  pub room : at < room_of level t

pub holds_tile : (level : ℕ) {t : Tabs} {s : Progress.State} {d : State} {es outer : List Entry} {at : ℕ} (v : Float) {uv lv : List Float} → level < 3
    → Next level t s d es outer at → uv ≡ at_upper level t.upper_values at v → lv ≡ at_lower level t.lower_values at v
    → Holds (with_values t uv lv) s d (lower_open level (es ++ (Tile v ∷ []))) (upper_open level (es ++ (Tile v ∷ [])) outer)
holds_tile zero v small n u l = absurd (omega arith)
holds_tile (suc zero) {t} {s} {d} {es} {outer} {at} v small n u l =
    let h = n.holds in
    refilled h h.upper_links (left_alone +0 _ u h.upper_values)
    (entry_none 0 link_of d.lower es (Tile v) t.lower_links h.lower_links at n.place n.room refl)
    (entry_stored +0 value_of d.lower es (Tile v) t.lower_values h.lower_values at v l n.place (omega (arith, n.lower_pair, n.room)) refl)
holds_tile (suc (suc k)) {t} {s} {d} {es} {outer} {at} v small n u l =
    let h = n.holds in
    refilled h
    (entry_none 0 link_of d.upper es (Tile v) t.upper_links h.upper_links at n.place n.room refl)
    (entry_stored +0 value_of d.upper es (Tile v) t.upper_values h.upper_values at v u n.place (omega (arith, n.upper_pair, n.room)) refl)
    h.lower_links (left_alone +0 _ l h.lower_values)

pub holds_child : (level : ℕ) {t : Tabs} {s : Progress.State} {d : State} {es outer : List Entry} {at : ℕ} (k x : ℕ) {ul ll : List ℕ} → level < 3
    → Next level t s d es outer at → x ≡ k + 1 → ul ≡ at_upper level t.upper_links at x → ll ≡ at_lower level t.lower_links at x
    → Holds (with_links t ul ll) s d (lower_open level (es ++ (Child k ∷ []))) (upper_open level (es ++ (Child k ∷ [])) outer)
holds_child zero k x small n is u l = absurd (omega arith)
holds_child (suc zero) {t} {s} {d} {es} {outer} {at} k x small n is u l =
    let h = n.holds in
    refilled h (left_alone 0 _ u h.upper_links) h.upper_values
    (entry_stored 0 link_of d.lower es (Child k) t.lower_links h.lower_links at x l n.place n.room is)
    (entry_none +0 value_of d.lower es (Child k) t.lower_values h.lower_values at n.place (omega (arith, n.lower_pair, n.room)) refl)
holds_child (suc (suc m)) {t} {s} {d} {es} {outer} {at} k x small n is u l =
    let h = n.holds in
    refilled h
    (entry_stored 0 link_of d.upper es (Child k) t.upper_links h.upper_links at x u n.place n.room is)
    (entry_none +0 value_of d.upper es (Child k) t.upper_values h.upper_values at n.place (omega (arith, n.upper_pair, n.room)) refl)
    (left_alone 0 _ l h.lower_links) h.lower_values

-- ---- where the next entry goes

-- the nodes below are whole, and the entries of this level are those of the nodes before it and the slots so far
pub slots_ready : (level l : ℕ) → level ≡ suc l → level < 3 → (b : List ℕ) (p : Places) (source : ℕ) (d : State) (i : ℕ) (now : Slots)
    → Ready level b d → slots_read b (node l b p) level source i (opening level source d) ≡ ok now
    → Ready l b now.state × (before level now.state now.entries ≡ nodes_at d level * entries_of level + i)
slots_ready zero l e h b p source d i now r s = absurd (omega arith)
slots_ready (suc zero) zero e h b p source d i now r s =
    let f = lower_filled b p source d i now r.below s in
    (f.keeps, length-append now.state.lower now.entries ∙ omega (arith, ap length f.grown.lower, r.full, f.size))
slots_ready (suc zero) (suc l) e h b p source d i now r s = absurd (omega arith)
slots_ready (suc (suc zero)) zero e h b p source d i now r s = absurd (omega arith)
slots_ready (suc (suc zero)) (suc zero) e h b p source d i now r s =
    let f = upper_filled b p source d i now r.below s in
    (f.keeps, length-append now.state.upper now.entries ∙ omega (arith, ap length f.grown.upper, r.full, f.size))
slots_ready (suc (suc zero)) (suc (suc l)) e h b p source d i now r s = absurd (omega arith)
slots_ready (suc (suc (suc n))) l e h b p source d i now r s = absurd (omega arith)

-- a child leaves the entries of the level above it as they are
pub child_before : (level l : ℕ) → level ≡ suc l → level < 3 → (b : List ℕ) (p : Places) (to : ℕ) (d : State) (es : List Entry) (r : Read)
    → Ready l b d → node l b p to d ≡ ok r → before level r.state es ≡ before level d es
child_before zero l e h b p to d es r i n = absurd (omega arith)
child_before (suc zero) zero e h b p to d es r i n = ap (λ (x : List Entry). length (x ++ es)) (read_leaf b p to d r i n).grown.lower
child_before (suc zero) (suc l) e h b p to d es r i n = absurd (omega arith)
child_before (suc (suc zero)) zero e h b p to d es r i n = absurd (omega arith)
child_before (suc (suc zero)) (suc zero) e h b p to d es r i n = ap (λ (x : List Entry). length (x ++ es)) (read_lower b p to d r i n).grown.upper
child_before (suc (suc zero)) (suc (suc l)) e h b p to d es r i n = absurd (omega arith)
child_before (suc (suc (suc m))) l e h b p to d es r i n = absurd (omega arith)

-- a leaf's values stand behind those of the leaves before it
pub leaf_base : (level : ℕ) (b : List ℕ) (d : State) → level ≡ 0 → Ready level b d → length d.leaf ≡ nodes_at d level * entries_of level
leaf_base zero b d e r = omega (arith, r.full)
leaf_base (suc l) b d e r = absurd (omega arith)
