-- One slot of a node, by what stands there, and the loop over a node's slots. Assumes nothing.
use mathlib.Core.Path.{◌≡◌, refl, sym, ap, ◌∙◌}
use mathlib.Core.List.{List, []}
use Prim.Native.Nat.{ℕ, zero, suc, ◌+◌, ◌-◌, ◌*◌, ◌/◌, ◌≤◌, ◌<◌}
use native.Mathlib.Omega.{arith}
use lib.ListN.{length}
use lib.Ieee.{Float}
use Rattle.refusals.specs.Results.{ok, refused}
use Rattle.layout.specs.Bytes.{u64_at, mask_bit}
use Rattle.sparse_grid.specs.declared.Entry.{Entry}
use Rattle.nanovdb.specs.Nodes.{Places, State, Slots, mask_of, table_of, slot_read, slots_read, node}
use Rattle.decode.specs.Inner.Filled.{slot_target, Tabs, Fit, Kept, Holds, Lends, Ready, Shut, Reads, NodeOut}
use Rattle.decode.specs.Inner.Stored.{at_upper, at_lower, slot_value, TilesStored, tiles_none, tiles_more}
use Rattle.decode.specs.declared.nodes.State as Progress
use Rattle.decode.specs.declared.nodes.Opening.{Opening}
use Rattle.decode.specs.declared.nodes.Placed as Placed
use Rattle.std.specs.Prelude.{Ok, Err}
use Rattle.refusals.specs.Numbers.{number}
use Rattle.refusals.specs.declared.Refusal.{Refusal}
use Rattle.decode.proofs.nodes.Steps.{slot_tile, slot_off, slot_refused, slot_child, slots_more}
use Rattle.decode.proofs.nodes.Fits.{room_of, room_kept, fit_kept}
use Rattle.decode.proofs.nodes.Levels.{less_one}
use Rattle.decode.proofs.nodes.Runs.{upper_kept, lower_kept, tiles_from}
use Rattle.decode.proofs.nodes.Tables.{with_links, with_values, lower_open, upper_open, before, Next, holds_tile, holds_child, child_before}

-- ---- one slot

-- slot i has its place in the tables
pub record Slot (b : List ℕ) (source level base i : ℕ) (t : Tabs) (st : Progress.State) : Type 0 where
  pub above : 0 < level
  pub three : level < 3
  pub fit : Fit (length b) t st
  pub room : base + i < room_of level t

-- the tables hold what the definition has read before it, and its entry goes to `at`
pub record ReadsSlot (level : ℕ) (b : List ℕ) (at : ℕ) (t : Tabs) (st : Progress.State) (p : Places) (now : Slots) (outer : List Entry) : Type 0 where
  pub holds : Holds t st now.state (lower_open level now.entries) (upper_open level now.entries outer)
  pub lends : Lends t p
  pub ready : Ready (level - 1) b now.state
  pub place : before level now.state now.entries ≡ at

-- the definition refuses it
abbrev pub Stops : ℕ → List ℕ → ℕ → ℕ → ℕ → Tabs → Progress.State → ℕ → Type 0
Stops level b source base i t st n = (p : Places) (now : Slots) (outer : List Entry) → ReadsSlot level b (base + i) t st p now outer
    → slot_read b (node (level - 1) b p) level source i now ≡ refused n

-- the definition reads it, and u holds that
pub record Passes (level : ℕ) (b : List ℕ) (source base i : ℕ) (t : Tabs) (st : Progress.State) (u : Tabs) (s : Progress.State) : Type 0 where
  pub kept : Kept t u
  pub fit : Fit (length b) u s
  pub says : (p : Places) (now : Slots) (outer : List Entry) → ReadsSlot level b (base + i) t st p now outer
      → (next : Slots) × (slot_read b (node (level - 1) b p) level source i now ≡ ok next)
      × Holds u s next.state (lower_open level next.entries) (upper_open level next.entries outer)

-- what keeps the lengths goes on to what keeps them
pub kept_on : {t u v : Tabs} → Kept t u → Kept u v → Kept t v
kept_on k m = record {
  work = m.work ∙ k.work;
  upper_links = m.upper_links ∙ k.upper_links;
  upper_values = m.upper_values ∙ k.upper_values;
  lower_links = m.lower_links ∙ k.lower_links;
  lower_values = m.lower_values ∙ k.lower_values;
  leaf_values = m.leaf_values ∙ k.leaf_values;
}

pub lends_kept : {t u : Tabs} {p : Places} → Kept t u → Lends t p → Lends u p
lends_kept k l = record {
  spans = l.spans ∙ ap (λ (n : ℕ). n / 4) (sym k.work);
  upper = l.upper ∙ ap (λ (n : ℕ). n / 32768) (sym k.upper_links);
  lower = l.lower ∙ ap (λ (n : ℕ). n / 4096) (sym k.lower_links);
  leaf = l.leaf ∙ ap (λ (n : ℕ). n / 512) (sym k.leaf_values);
}

module _ {b : List ℕ} {source level base i : ℕ} {t : Tabs} {st : Progress.State} (s : Slot b source level base i t st) where
  -- a value, v
  module _ (v : Float) (is : v ≡ slot_value b source level i) (clear : mask_bit b (source + mask_of level) i ≡ 0) where
    abbrev valued : Tabs
    valued = with_values t (at_upper level t.upper_values (base + i) v) (at_lower level t.lower_values (base + i) v)

    pub passes_tile : Passes level b source base i t st valued st
    passes_tile =
        let upper = upper_kept level t.upper_values (base + i) v in let lower = lower_kept level t.lower_values (base + i) v in
        record {
          kept = record { work = refl; upper_links = refl; upper_values = upper; lower_links = refl; lower_values = lower; leaf_values = refl };
          fit = fit_kept s.fit valued refl upper refl lower;
          says = λ p now outer R.
              let next : Next level t st now.state now.entries outer (base + i) = record {
                holds = R.holds;
                upper_pair = s.fit.upper_pair;
                lower_pair = s.fit.lower_pair;
                place = R.place;
                room = s.room;
              } in
              (_, slot_tile b (node (level - 1) b p) level source i now v clear is, holds_tile level v s.three next refl refl);
        }

  -- a child, by what its target gives
  module _ (set : mask_bit b (source + mask_of level) i ≡ 1) where
    pub stops_off : {e : ℕ} → refused e ≡ slot_target source (u64_at b (source + table_of level + 8 * i)) → Stops level b source base i t st e
    stops_off {e} q p now outer R = slot_off b (node (level - 1) b p) level source i now set e q

    module _ {to : ℕ} (q : ok to ≡ slot_target source (u64_at b (source + table_of level + 8 * i))) where
      -- what the child's reader is handed
      handed : (p : Places) (now : Slots) (outer : List Entry) → ReadsSlot level b (base + i) t st p now outer
          → Reads (level - 1) b t st p now.state (lower_open level now.entries) (upper_open level now.entries outer)
      handed p now outer R = record {
        holds = R.holds;
        lends = R.lends;
        ready = R.ready;
        shut = shut level s.above s.three now.entries outer;
      }
        where
          shut : (level : ℕ) → 0 < level → level < 3 → (es outer : List Entry) → Shut (level - 1) (lower_open level es) (upper_open level es outer)
          shut zero p h es outer = absurd (omega arith)
          shut (suc zero) p h es outer = tt
          shut (suc (suc zero)) p h es outer = refl
          shut (suc (suc (suc n))) p h es outer = absurd (omega arith)

      pub stops_child : {u : Tabs} {e : Refusal} → NodeOut (level - 1) b to t st u (Err e) → Stops level b source base i t st (number e)
      stops_child {e = e} out p now outer R =
          slot_refused b (node (level - 1) b p) level source i now set to (number e) q (out.says p now.state _ _ (handed p now outer R))

      -- u has kept its lengths, and the child's link has been stored in it
      pub passes_child : {u : Tabs} {c : Placed.Placed} {ul ll : List ℕ} → NodeOut (level - 1) b to t st u (Ok c) → Kept t u
          → (ul ≡ at_upper level u.upper_links (base + i) (c.number + 1)) × (ll ≡ at_lower level u.lower_links (base + i) (c.number + 1))
          → Passes level b source base i t st (with_links u ul ll) c.state
      passes_child {u} {c} {ul} {ll} out kept (upper, lower) =
          let n = c.number in
          let v = c.state in
          let ku : length ul ≡ length u.upper_links = ap length upper ∙ upper_kept level u.upper_links (base + i) (n + 1) in
          let kl : length ll ≡ length u.lower_links = ap length lower ∙ lower_kept level u.lower_links (base + i) (n + 1) in
          let fit = out.fit.0 in
          record {
            kept = kept_on kept (record { work = refl; upper_links = ku; upper_values = refl; lower_links = kl; lower_values = refl; leaf_values = refl });
            fit = fit_kept fit (with_links u ul ll) ku refl kl refl;
            says = λ p now outer R.
                let (e, read, holds) = out.says p now.state _ _ (handed p now outer R) in
                let here = child_before level (level - 1) (less_one level s.above) s.three b p to now.state now.entries
                (record { number = n; state = e }) R.ready read in
                let next : Next level u v e now.entries outer (base + i) = record {
                  holds = holds;
                  upper_pair = fit.upper_pair;
                  lower_pair = fit.lower_pair;
                  place = here ∙ R.place;
                  room = room_kept level kept.upper_links kept.lower_links s.room;
                } in (
                  _,
                  slot_child b (node (level - 1) b p) level source i now set to (record { number = n; state = e }) q read,
                  holds_child level n (n + 1) s.three next refl upper lower,
                );
          }

-- ---- the loop over the slots

-- a node is open, and whatever its first slots give, the nodes below are whole and the next entry goes to its place
pub record Begins (level : ℕ) (b : List ℕ) (source : ℕ) (o : Opening) (t : Tabs) (p : Places) (d : State) (outer : List Entry) : Type 0 where
  pub holds : Holds t o.now d (lower_open level []) (upper_open level [] outer)
  pub lends : Lends t p
  pub steady : (i : ℕ) (now : Slots) → slots_read b (node (level - 1) b p) level source i d ≡ ok now
      → Ready (level - 1) b now.state × (before level now.state now.entries ≡ o.base + i)

-- from the tables t₀ to the tables t by i slots
pub record Turn (level : ℕ) (b : List ℕ) (source : ℕ) (o : Opening) (t₀ t : Tabs) (st : Progress.State) (i : ℕ) : Type 0 where
  pub turn : i ≤ o.entries
  pub kept : Kept t₀ t
  pub fit : Fit (length b) t st
  pub says : (p : Places) (d : State) (outer : List Entry) → Begins level b source o t₀ p d outer
      → (now : Slots) × (slots_read b (node (level - 1) b p) level source i d ≡ ok now)
      × Holds t st now.state (lower_open level now.entries) (upper_open level now.entries outer)

pub turn_begins : {level : ℕ} {b : List ℕ} {source : ℕ} {o : Opening} {t : Tabs} → Fit (length b) t o.now → Turn level b source o t t o.now 0
unfolding slots_read
turn_begins f = record {
  turn = omega arith;
  kept = record { work = refl; upper_links = refl; upper_values = refl; lower_links = refl; lower_values = refl; leaf_values = refl };
  fit = f;
  says = λ p d outer B. (record { entries = []; state = d }, refl, B.holds);
}

module _ {level : ℕ} {b : List ℕ} {source : ℕ} {o : Opening} {t₀ t : Tabs} {st : Progress.State} {i : ℕ} (turn : Turn level b source o t₀ t st i) where
  -- what the next slot is handed
  slot_handed : (p : Places) (d : State) (outer : List Entry) → Begins level b source o t₀ p d outer
      → (now : Slots) × (slots_read b (node (level - 1) b p) level source i d ≡ ok now) × ReadsSlot level b (o.base + i) t st p now outer
  slot_handed p d outer B =
      let (now, read, holds) = turn.says p d outer B in
      let (ready, place) = B.steady i now read in
      (now, read, record { holds = holds; lends = lends_kept turn.kept B.lends; ready = ready; place = place })

  pub turn_more : {u : Tabs} {s : Progress.State} → i < o.entries → Passes level b source o.base i t st u s → Turn level b source o t₀ u s (i + 1)
  turn_more h out = record {
    turn = omega arith;
    kept = kept_on turn.kept out.kept;
    fit = out.fit;
    says = λ p d outer B.
        let (now, read, handed) = slot_handed p d outer B in
        let (next, slot, holds) = out.says p now outer handed in
        (next, slots_more b (node (level - 1) b p) level source d i now next read slot, holds);
  }

  pub turn_stops : {n : ℕ} → Stops level b source o.base i t st n → (p : Places) (d : State) (outer : List Entry) → Begins level b source o t₀ p d outer
      → (now : Slots) × (slots_read b (node (level - 1) b p) level source i d ≡ ok now)
      × (slot_read b (node (level - 1) b p) level source i now ≡ refused n)
  turn_stops stop p d outer B = let (now, read, handed) = slot_handed p d outer B in (now, read, stop p now outer handed)

-- a run of values: each of its slots is a tile
module _ {level : ℕ} {b : List ℕ} {source : ℕ} {o : Opening} {t₀ t : Tabs} {st : Progress.State} {from : ℕ} (above : 0 < level) (three : level < 3)
    (room : o.base + o.entries ≤ room_of level t) (turn : Turn level b source o t₀ t st from) where
  pub turn_tiles : {i : ℕ} {uv lv : List Float}
      → TilesStored level (slot_value b source level) o.base from t.upper_values t.lower_values i uv lv → i ≤ o.entries
      → ((j : ℕ) → from ≤ j → j < i → mask_bit b (source + mask_of level) j ≡ 0) → Turn level b source o t₀ (with_values t uv lv) st i
  turn_tiles tiles_none h clear = turn
  turn_tiles (tiles_more {i} s) h clear =
      let so = turn_tiles s (omega arith) (λ j f l. clear j f (omega arith)) in
      let here : Slot b source level o.base i _ st = record { above = above; three = three; fit = so.fit; room = omega arith } in
      turn_more so (omega arith) (passes_tile here (slot_value b source level i) refl (clear i (tiles_from s) (omega arith)))
