-- What a new span says of the words, and that the tables stay fit for it. Assumes nothing.
use mathlib.Core.Path.{◌≡◌, refl, sym, ap, ◌∙◌, subst}
use mathlib.Core.List.{List, [], ◌∷◌, ◌++◌}
use mathlib.Core.Bool.{Bool, true, false, not}
use Prim.Native.Nat.{ℕ, zero, suc, ◌+◌, ◌*◌, ◌/◌, ◌≤◌, ◌<◌}
use native.Mathlib.Omega.{arith}
use lib.Dec.{T, leb, ltb}
use lib.ListN.{length, drop, replicate, length-replicate}
use Rattle.refusals.specs.Results.{ok, need}
use Rattle.refusals.specs.ResultLaws.{need_ok}
use Rattle.nanovdb.specs.Spans.{overlaps}
use Rattle.nanovdb.specs.Nodes.{Places, State, claim, with_span, entries_of}
use Rattle.decode.specs.Inner.WorkTable.{Rep, nodes, spans, size, header_span, root_span, node_span, ClaimOut}
use Rattle.decode.specs.Inner.Packed.{Packed, packed_more, packed_few, no_either}
use Rattle.decode.specs.Inner.Filled.{Tabs, with_work, Few, Fit, count_in, grown_by, places_of, room_in}
use Rattle.decode.specs.declared.spans.Spans.{Spans}
use Rattle.std.specs.Prelude.{Ok}
use Rattle.decode.specs.declared.nodes.State as Progress
use Rattle.decode.proofs.spans.Laws.{overlaps_spans}
use Rattle.decode.proofs.spans.ClaimLaws.{length_nodes}

size_least : (level : ℕ) → 2144 ≤ size level
unfolding size
size_least zero = omega arith
size_least (suc zero) = omega arith
size_least (suc (suc n)) = omega arith

yes_not : (b : Bool) → T (not b) → b ≡ false
yes_not true t = absurd t
yes_not false t = refl

-- ---- what a claim that was granted says

module _ (len : ℕ) (w w' : List ℕ) (s next : Spans) (start level number : ℕ)
    (o : ClaimOut len w w' s (Ok next) start level number) where
  -- a claim of the definition that it answers
  bytes : List ℕ
  bytes = replicate len 0

  places : Places
  places = record { spans = length w / 4; roots = 0; upper = 0; lower = 0; leaf = 0 }

  state : State
  state = record {
    spans = spans w s.count s.root s.limit;
    upper_nodes = 0;
    lower_nodes = 0;
    leaf_nodes = 0;
    upper = [];
    lower = [];
    leaf = [];
  }

  passed : (leb (start + size level) len ≡ true)
      × (overlaps (spans w s.count s.root s.limit) start (start + size level) ≡ false)
  unfolding claim bytes places state
  passed =
      let e = o.1 bytes places state (length-replicate len 0) refl refl in
      let n = node_span start level number in
      let last = need (ltb (length state.spans) places.spans) 9 (ok (with_span state n)) in
      let p = need_ok (leb n.end (length bytes)) 5 (need (not (overlaps state.spans n.start n.end)) 6 last) e in
      let q = need_ok (not (overlaps state.spans n.start n.end)) 6 last p.1 in (
        ap (λ (k : ℕ). leb (start + size level) k) (sym (length-replicate len 0)) ∙ yes (leb (start + size level) (length bytes)) p.0,
        yes_not (overlaps state.spans n.start n.end) q.0,
      )
    where
      yes : (b : Bool) → T b → b ≡ true
      yes true t = refl
      yes false t = absurd t

  pub fresh_inside : start + size level ≤ len
  fresh_inside = borrow.Author.Tests.leb-true (start + size level) len passed.0

  fresh_apart : overlaps (nodes w s.count) start (start + size level) ≡ false
  fresh_apart =
      let end = start + size level in
      (no_either (overlaps (header_span ∷ (root_span s.root s.limit ∷ [])) start end) (overlaps (nodes w s.count) start end)
      (sym (overlaps_spans w s.count s.root s.limit start end) ∙ passed.1)).1

  fresh_nodes : nodes w' next.count ≡ nodes w s.count ++ (node_span start level number ∷ [])
  unfolding spans
  fresh_nodes = ap (drop 2) o.0.list

  pub fresh_packed : Packed len (nodes w s.count) → Packed len (nodes w' next.count)
  fresh_packed p =
      let more = packed_more len (nodes w s.count) (node_span start level number) p (omega (arith, size_least level)) fresh_inside fresh_apart in
      subst (Packed len) (sym fresh_nodes) more

-- ---- few nodes

pub number_small : {st : Progress.State} → Few st → (level : ℕ) → count_in st level < 4294967295
number_small f zero = f.leaves
number_small f (suc zero) = f.lowers
number_small f (suc (suc n)) = f.uppers

module _ {len : ℕ} {t : Tabs} {st : Progress.State} (f : Fit len t st) where
  module _ (short : len < 4294967296) where
    few : (st.uppers + st.lowers + st.leaves) * 2144 ≤ len
    few = omega (arith, packed_few len (nodes t.work st.spans.count) f.packed, length_nodes t.work st.spans.count, f.total)

    pub count_small : Few st
    count_small = record { uppers = omega (arith, few); lowers = omega (arith, few); leaves = omega (arith, few) }

  -- one node more
  pub fit_fresh : {w : List ℕ} {next : Spans} (start level number : ℕ) → ClaimOut len t.work w st.spans (Ok next) start level number
      → Fit len (with_work t w) (grown_by level st next)
  fit_fresh {w} {next} start level number o = go level (omega (arith, o.0.count, f.total))
    where
      made : (s : Progress.State) → s.spans ≡ next → s.spans.count ≡ s.uppers + s.lowers + s.leaves → Fit len (with_work t w) s
      made s e total = record {
        rep = subst (λ (p : Spans). Rep w p.count) (sym e) o.0.rep;
        packed = subst (λ (p : Spans). Packed len (nodes w p.count)) (sym e)
            (fresh_packed len t.work w st.spans next start level number o f.packed);
        total = total;
        upper_pair = f.upper_pair;
        lower_pair = f.lower_pair;
      }

      go : (l : ℕ) → next.count ≡ st.uppers + st.lowers + st.leaves + 1 → Fit len (with_work t w) (grown_by l st next)
      go zero e = made (grown_by 0 st next) refl (omega arith)
      go (suc zero) e = made (grown_by 1 st next) refl (omega arith)
      go (suc (suc n)) e = made (grown_by 2 st next) refl (omega arith)

  -- the same words beside other tables of the same lengths
  pub fit_kept : (u : Tabs) → length u.upper_links ≡ length t.upper_links → length u.upper_values ≡ length t.upper_values
      → length u.lower_links ≡ length t.lower_links → length u.lower_values ≡ length t.lower_values → Fit len (with_work u t.work) st
  fit_kept u a b c d = record {
    rep = f.rep;
    packed = f.packed;
    total = f.total;
    upper_pair = omega (arith, f.upper_pair);
    lower_pair = omega (arith, f.lower_pair);
  }

-- ---- room in the tables

abbrev pub room_of : ℕ → Tabs → ℕ
room_of level t = room_in level (length t.upper_links) (length t.lower_links)

-- a node that has a place has one for each of its entries
pub room_of_lem : (level : ℕ) (t : Tabs) {k base : ℕ} → 0 < level → k < places_of level t → base ≡ k * entries_of level
    → base + entries_of level ≤ room_of level t
room_of_lem zero t p h e = absurd (omega arith)
room_of_lem (suc zero) t p h e = omega arith
room_of_lem (suc (suc n)) t p h e = omega arith

pub leaf_room : (level : ℕ) (t : Tabs) {k base : ℕ} → level ≡ 0 → k < places_of level t → base ≡ k * entries_of level → base + 512 ≤ length t.leaf_values
leaf_room zero t z h e = omega arith
leaf_room (suc n) t z h e = absurd (omega arith)

-- the room of tables of the same lengths
pub room_kept : (level : ℕ) {ul ul' ll ll' at : ℕ} → ul' ≡ ul → ll' ≡ ll → at ≤ room_in level ul ll → at ≤ room_in level ul' ll'
room_kept zero p q h = h
room_kept (suc zero) p q h = omega arith
room_kept (suc (suc n)) p q h = omega arith
