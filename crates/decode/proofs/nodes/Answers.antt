-- The answers of `open` and of `node`, one for each way out. Assumes nothing.
use mathlib.Core.Path.{◌≡◌, refl, sym, ap, ◌∙◌, subst}
use mathlib.Core.List.{List}
use Prim.Native.Nat.{ℕ, zero, suc, ◌+◌, ◌-◌, ◌*◌, ◌≤◌, ◌<◌}
use native.Mathlib.Omega.{arith}
use lib.ListN.{length}
use lib.Ieee.{Float}
use Rattle.refusals.specs.Results.{Result, ok, bind}
use Rattle.layout.specs.Bytes.{u64_at, mask_bit}
use Rattle.sparse_grid.specs.declared.Entry.{Entry}
use Rattle.nanovdb.specs.Spans.{Span, nowhere, seen}
use Rattle.nanovdb.specs.Nodes.{Places, State, claim, with_span, size_of, entries_of, mask_of, table_of, nodes_at, places_at, leaf_placed, placed, slots_read, node}
use Rattle.nanovdb.specs.Lent.{Lent, Tables, tables, lengths}
use Rattle.nanovdb.proofs.HeldNodes.{span_of, opening}
use Rattle.decode.specs.Inner.WorkTable.{size, node_span, Pushed, EnterOut}
use Rattle.decode.specs.Inner.Filled.{slot_target, count_in, places_of, grown_by, Tabs, Kept, Fit, Holds, Lends, Reads, NodeOut, OpenOut}
use Rattle.decode.specs.Inner.Filled.{filling, numbered, nodes_of, with_work, NewNode}
use Rattle.decode.specs.Inner.Stored.{at_upper, at_lower, leaf_value, slot_value, Stored, TilesStored, NextChild}
use Rattle.decode.specs.declared.spans.Spans.{Spans}
use Rattle.decode.specs.declared.spans.Entered.{Entered}
use Rattle.decode.specs.declared.spans.Entered.TheVariants.{Again, Fresh}
use Rattle.decode.specs.declared.nodes.State as Progress
use Rattle.decode.specs.declared.nodes.Opening.{Opening}
use Rattle.decode.specs.declared.nodes.Opened.{Opened}
use Rattle.decode.specs.declared.nodes.Placed.{Placed}
use Rattle.std.specs.Prelude.{Ok, Err, Result as Answer}
use Rattle.refusals.specs.Numbers as Numbers
use Rattle.refusals.specs.Numbers.{said_by}
use Rattle.refusals.specs.declared.Refusal.TheVariants.{NoPlace}
use Rattle.refusals.specs.declared.Refusal.{Refusal}
use Rattle.decode.proofs.nodes.Steps.{node_again, node_stops, node_full, node_filled, filled_leaf, filled_broke, filled_ends}
use Rattle.decode.proofs.nodes.Fits.{room_of, room_of_lem, room_kept, leaf_room, fresh_inside, fit_fresh, fit_kept}
use Rattle.decode.proofs.nodes.Levels.{less_one}
use Rattle.decode.proofs.nodes.Tables.{with_links, with_values, with_leaves, holds_opened, holds_leaf, holds_placed, holds_begun, slots_ready, leaf_base}
use Rattle.decode.proofs.nodes.Turns.{Slot, Stops, stops_off, stops_child, passes_child, kept_on, lends_kept}
use Rattle.decode.proofs.nodes.Turns.{Begins, Turn, turn_more, turn_stops, turn_tiles}

-- the number of the next node, in the code and in the definition
counts : (level : ℕ) {t : Tabs} {st : Progress.State} {d : State} {lower upper : List Entry} → Holds t st d lower upper
    → count_in st level ≡ nodes_at d level
counts zero h = sym h.leaves
counts (suc zero) h = sym h.lowers
counts (suc (suc n)) h = sym h.uppers

-- and the places of its level
rooms : (level : ℕ) {t : Tabs} {p : Places} → Lends t p → places_of level t ≡ places_at p level
rooms zero l = sym l.leaf
rooms (suc zero) l = sym l.lower
rooms (suc (suc n)) l = sym l.upper

-- ---- the answers of `open`

-- a new node lies in the bytes
pub fresh-whole : {len source level k : ℕ} (st : Progress.State) {w v : List ℕ} {next : Spans} → EnterOut len w v st.spans (Ok (Fresh next)) source level k
    → source + size_of level ≤ len
unfolding size
fresh-whole {len} {source} {level} {k} st {w} {v} {next} (new, granted) = fresh_inside len w v st.spans next source level k granted

-- what `enter` says of its answer, once that is known
pub entered : (len : ℕ) (w v : List ℕ) (s : Spans) (source level k : ℕ) {x y : Entered} → x ≡ y → EnterOut len w v s (Ok x) source level k
    → EnterOut len w v s (Ok y) source level k
entered len w v s source level k is = subst (λ (e : Entered). EnterOut len w v s (Ok e) source level k) is

-- and the same of `open`
pub opened : (level : ℕ) (b : List ℕ) (source : ℕ) (t : Tabs) (st : Progress.State) (u : Tabs) {x y : Opened} → x ≡ y
    → OpenOut level b source t st u (Ok x) → OpenOut level b source t st u (Ok y)
opened level b source t st u is = subst (λ (o : Opened). OpenOut level b source t st u (Ok o)) is

-- the span that the words hold is the definition's
span-is : (source level k : ℕ) {t : Tabs} {st : Progress.State} {d : State} {lower upper : List Entry} → k ≡ count_in st level → Holds t st d lower upper
    → node_span source level k ≡ span_of level source d
unfolding size
span-is source level k counted h = ap (node_span source level) (counted ∙ counts level h)

-- k is the number of the next node, and `enter` has left the words v
module _ {b : List ℕ} {source level k : ℕ} {st : Progress.State} {w v : List ℕ} (counted : k ≡ count_in st level) (t : Tabs)
    (fit : Fit (length b) (with_work t w) st) where
  pub out-again : {n : ℕ} → EnterOut (length b) w v st.spans (Ok (Again n)) source level k
      → NodeOut level b source (with_work t w) st (with_work t v) (Ok (record { number = n; state = st }))
  out-again {n} (same, (found, small)) = record {
    fit = (subst (λ (x : List ℕ). Fit (length b) (with_work t x) st) (sym same) fit, small);
    says = λ p d lower upper R. (
      d,
      node_again level source b p d n (ap (λ (s : List Span). seen s source level) R.holds.spans_are ∙ found),
      subst (λ (x : List ℕ). Holds (with_work t x) st d lower upper) (sym same) R.holds,
    );
  }

  pub out-stop : {e : Refusal} → EnterOut (length b) w v st.spans (Err e) source level k → NodeOut level b source (with_work t w) st (with_work t v) (Err e)
  out-stop {e} (new, (same, claimed)) = record {
    fit = tt;
    says = λ p d lower upper R.
        node_stops level source b p d (ap (λ (s : List Span). seen s source level) R.holds.spans_are ∙ new) (Numbers.number e)
        (ap (claim b p d) (sym (span-is source level k counted R.holds)) ∙ claimed b p d refl R.lends.spans R.holds.spans_are);
  }

  module _ {next : Spans} (fresh : EnterOut (length b) w v st.spans (Ok (Fresh next)) source level k) where
    new : (p : Places) (d : State) {lower upper : List Entry} → Reads level b (with_work t w) st p d lower upper → seen d.spans source level ≡ nowhere
    new p d R = ap (λ (s : List Span). seen s source level) R.holds.spans_are ∙ fresh.0

    claimed : (p : Places) (d : State) {lower upper : List Entry} → Reads level b (with_work t w) st p d lower upper
        → claim b p d (span_of level source d) ≡ ok (with_span d (span_of level source d))
    claimed p d R =
        subst (λ (s : Span). claim b p d s ≡ ok (with_span d s)) (span-is source level k counted R.holds) (fresh.1.1 b p d refl R.lends.spans R.holds.spans_are)

    pub out-full : places_of level t ≤ k → NodeOut level b source (with_work t w) st (with_work t v) (Err NoPlace)
    out-full h = record {
      fit = tt;
      says = λ p d lower upper R.
          node_full level source b p d (new p d R) (claimed p d R)
          (omega (arith, counted, counts level R.holds, rooms level R.lends));
    }

    pub out-new : {mask entries : ℕ} {now : Progress.State} → k < 4294967295 → k < places_of level t → mask ≡ source + mask_of level
        → entries ≡ entries_of level
        → now ≡ grown_by level st next
        → NewNode level b source (with_work t w) st (with_work t v) (record { number = k; mask = mask; entries = entries; base = k * entries; now = now })
    out-new {now = now} small room mask all grown =
        let words = fresh.1.0.size_kept in
        record {
          whole = fresh-whole st fresh;
          small = small;
          room = room;
          mask = mask;
          entries = all;
          base = ap (λ (n : ℕ). k * n) all;
          kept = record { work = words; upper_links = refl; upper_values = refl; lower_links = refl; lower_values = refl; leaf_values = refl };
          fit = subst (Fit (length b) (with_work t v)) (sym grown) (fit_fresh fit source level k fresh.1);
          says = λ p d lower upper R.
              let number : nodes_at d level ≡ k = sym (counted ∙ counts level R.holds) in
              let pushed = subst (Pushed w v st.spans next source level) counted fresh.1.0 in
              record {
                number = number;
                filled = subst (λ (n : ℕ). node level b p source d ≡ bind (filling level b p source (opening level source d)) (numbered n)) number
                    (node_filled level source b p d (new p d R) (claimed p d R) (omega (arith, number, rooms level R.lends)));
                holds = subst (λ (s : Progress.State). Holds (with_work t v) s (opening level source d) lower upper) (sym grown)
                    (holds_opened level source R.holds pushed);
              };
        }

-- ---- the calls of `node`

-- of the level below
pub below_out : {l m : ℕ} (b : List ℕ) (source : ℕ) (t : Tabs) (st : Progress.State) (u : Tabs) (r : Answer Placed Refusal) → l ≡ suc m
    → NodeOut m b source t st u r → NodeOut (l - 1) b source t st u r
below_out b source t st u r e = subst (λ (k : ℕ). NodeOut k b source t st u r) (omega (arith, e))

-- with the values of a run
abbrev pub with_run : Tables → List Float → List Float → Tables
with_run t uv lv = tables t.blocks t.root_links t.root_values t.upper_links uv t.lower_links lv t.leaf_values t.work

-- tables that keep their lengths
pub kept_of : (t u : Tables) → lengths u ≡ lengths t → Kept (nodes_of t) (nodes_of u)
kept_of t u e = record {
  work = ap (λ (l : Lent). l.work) e;
  upper_links = ap (λ (l : Lent). l.upper_links) e;
  upper_values = ap (λ (l : Lent). l.upper_values) e;
  lower_links = ap (λ (l : Lent). l.lower_links) e;
  lower_values = ap (λ (l : Lent). l.lower_values) e;
  leaf_values = ap (λ (l : Lent). l.leaf_values) e;
}

-- ---- the answers of `node` where it is new

module _ {level : ℕ} {b : List ℕ} {source : ℕ} {t : Tabs} {st : Progress.State} {u : Tabs} {o : Opening} (new : NewNode level b source t st u o) where
  -- the entries of the nodes before it
  from : (p : Places) (d : State) {lower upper : List Entry} → Reads level b t st p d lower upper → nodes_at d level * entries_of level ≡ o.base
  from p d R = ap (λ (n : ℕ). n * entries_of level) (new.says p d _ _ R).number ∙ sym new.base

  pub leaf-place : level ≡ 0 → o.base + 512 ≤ length u.leaf_values
  leaf-place z = omega (arith, leaf_room level t z new.room new.base, new.kept.leaf_values)

  pub out-leaf : {lf : List Float} → level ≡ 0 → Stored (leaf_value b source) o.base 0 u.leaf_values 512 lf
      → NodeOut level b source t st (with_leaves u lf) (Ok (record { number = o.number; state = o.now }))
  out-leaf {lf} z f = record {
    fit = (fit_kept new.fit (with_leaves u lf) refl refl refl refl, new.small);
    says = λ p d lower upper R.
        let begun = new.says p d lower upper R in (
          leaf_placed b source (opening level source d),
          begun.filled ∙ ap (λ (r : Result State). bind r (numbered o.number)) (filled_leaf level source b p (opening level source d) z),
          holds_leaf begun.holds b source (same-leaf level d z ∙ leaf_base level b d z R.ready ∙ from p d R) (leaf-place z) f,
        );
  }
    where
      same-leaf : (level : ℕ) (d : State) → level ≡ 0 → length (opening level source d).leaf ≡ length d.leaf
      same-leaf zero d z = refl
      same-leaf (suc l) d z = absurd (omega arith)

-- ---- a new node that is no leaf

pub record Internal (level : ℕ) (b : List ℕ) (source : ℕ) (t : Tabs) (st : Progress.State) (u : Tabs) (o : Opening) : Type 0 where
  pub new : NewNode level b source t st u o
  pub above : 0 < level
  pub three : level < 3

-- and its first i slots have been read into the tables v
pub record Turned (level : ℕ) (b : List ℕ) (source : ℕ) (t : Tabs) (st : Progress.State) (u : Tabs) (o : Opening) (v : Tabs) (s : Progress.State)
    (i : ℕ) : Type 0 where
  pub node : Internal level b source t st u o
  pub turn : Turn level b source o u v s i

module _ {level : ℕ} {b : List ℕ} {source : ℕ} {t : Tabs} {st : Progress.State} {u : Tabs} {o : Opening} (n : Internal level b source t st u o)
    {v : Tabs} {s : Progress.State} {i : ℕ} (turn : Turn level b source o u v s i) where
  pub turn-keeps : Kept t v
  turn-keeps = kept_on n.new.kept turn.kept

  -- each of its entries has its place
  place : o.base + entries_of level ≤ room_of level v
  place = room_kept level turn-keeps.upper_links turn-keeps.lower_links (room_of_lem level t n.above n.new.room n.new.base)

  -- the values up to the next child
  pub run-to : {j : ℕ} {uv lv : List Float} → NextChild b o.mask i o.entries j
      → TilesStored level (slot_value b source level) o.base i v.upper_values v.lower_values j uv lv
      → Turn level b source o u (with_values v uv lv) s j
  run-to next stored =
      turn_tiles n.above n.three (omega (arith, place, n.new.entries)) turn stored next.to
      (λ k f l. subst (λ (m : ℕ). mask_bit b m k ≡ 0) n.new.mask (next.clear k f l))

  begins : (p : Places) (d : State) {lower upper : List Entry} → Reads level b t st p d lower upper
      → Begins level b source o u p (opening level source d) upper
  begins p d R = record {
    holds = holds_begun level n.above R.shut (n.new.says p d _ _ R).holds;
    lends = lends_kept n.new.kept R.lends;
    steady = λ j then read.
        let (ready, here) = slots_ready level (level - 1) (less_one level n.above) n.three b p source d j then R.ready read in
        (ready, here ∙ ap (λ (n : ℕ). n + j) (from n.new p d R));
  }

  out-broke : {x : Tabs} {e : Refusal} → i < o.entries → Stops level b source o.base i v s (Numbers.number e) → NodeOut level b source t st x (Err e)
  out-broke {e = e} h stop = record {
    fit = tt;
    says = λ p d lower upper R.
        let (then, read, stopped) = turn_stops turn stop p (opening level source d) upper (begins p d R) in
        (n.new.says p d lower upper R).filled ∙ ap (λ (r : Result State). bind r (numbered o.number))
        (filled_broke level source b p (opening level source d) n.above i (Numbers.number e) then read stopped (subst (λ (m : ℕ). i < m) n.new.entries h));
  }

  pub out-ends : i ≡ o.entries → NodeOut level b source t st v (Ok (record { number = o.number; state = s }))
  out-ends last = record {
    fit = (turn.fit, n.new.small);
    says = λ p d lower upper R.
        let (then, read, holds) = turn.says p (opening level source d) upper (begins p d R) in
        let all = subst (λ (m : ℕ). slots_read b (node (level - 1) b p) level source m (opening level source d) ≡ ok then) (last ∙ n.new.entries) read in (
          placed level then,
          (n.new.says p d lower upper R).filled ∙ ap (λ (r : Result State). bind r (numbered o.number))
              (filled_ends level source b p (opening level source d) n.above then all),
          holds_placed level then n.above R.shut holds,
        );
  }

-- slot j is the next, a child stands there, and its place is asked for
pub record Aimed (level : ℕ) (b : List ℕ) (source : ℕ) (t : Tabs) (st : Progress.State) (u : Tabs) (o : Opening) (v : Tabs) (s : Progress.State) (j : ℕ)
    (place : Answer ℕ Refusal) : Type 0 where
  pub node : Internal level b source t st u o
  pub turn : Turn level b source o u v s j
  pub here : j < o.entries
  pub set : mask_bit b o.mask j ≡ 1
  pub aims : said_by place ≡ slot_target source (u64_at b (source + table_of level + 8 * j))

-- the values up to slot j have been read, and what stands there is a child whose place is answered
pub aimed : {level : ℕ} {b : List ℕ} {source : ℕ} {t : Tabs} {st : Progress.State} {u : Tabs} {o : Opening} {v : Tabs} {s : Progress.State} {i j : ℕ}
    {uv lv : List Float} {place : Answer ℕ Refusal} → Turned level b source t st u o v s i → NextChild b o.mask i o.entries j
    → TilesStored level (slot_value b source level) o.base i v.upper_values v.lower_values j uv lv → (j ≡ o.entries → ⊥)
    → said_by place ≡ slot_target source (u64_at b (source + table_of level + 8 * j))
    → Aimed level b source t st u o (with_values v uv lv) s j place
aimed {o = o} {j = j} r next stored more aims =
    let here : j < o.entries = omega (arith, next.to, more) in
    record { node = r.node; turn = run-to r.node r.turn next stored; here = here; set = next.found here; aims = aims }

module _ {level : ℕ} {b : List ℕ} {source : ℕ} {t : Tabs} {st : Progress.State} {u : Tabs} {o : Opening} {v : Tabs} {s : Progress.State} {j : ℕ} where
  module _ {r : Answer ℕ Refusal} (a : Aimed level b source t st u o v s j r) where
    slot : Slot b source level o.base j v s
    slot = record {
      above = a.node.above;
      three = a.node.three;
      fit = a.turn.fit;
      room = omega (arith, place a.node a.turn, a.here, a.node.new.entries);
    }

    set : mask_bit b (source + mask_of level) j ≡ 1
    set = subst (λ (m : ℕ). mask_bit b m j ≡ 1) a.node.new.mask a.set

  pub out-off : {e : Refusal} {x : Tabs} → Aimed level b source t st u o v s j (Err e) → NodeOut level b source t st x (Err e)
  out-off a = out-broke a.node a.turn a.here (stops_off (slot a) (set a) a.aims)

  -- the child at `to` has been read into the tables x
  module _ {to : ℕ} (a : Aimed level b source t st u o v s j (Ok to)) {x : Tabs} where
    pub out-refused : {e : Refusal} {y : Tabs} → NodeOut (level - 1) b to v s x (Err e) → NodeOut level b source t st y (Err e)
    out-refused out = out-broke a.node a.turn a.here (stops_child (slot a) (set a) a.aims out)

    pub turn-child : {c : Placed} {ul ll : List ℕ} → NodeOut (level - 1) b to v s x (Ok c) → Kept v x
        → (ul ≡ at_upper level x.upper_links (o.base + j) (c.number + 1)) × (ll ≡ at_lower level x.lower_links (o.base + j) (c.number + 1))
        → Turn level b source o u (with_links x ul ll) c.state (j + 1)
    turn-child out kept stored = turn_more a.turn a.here (passes_child (slot a) (set a) a.aims out kept stored)
