-- What it means that tables hold a node of the bytes, that this outlasts the growth of the tables, and the loop over a node's slots. Assumes nothing.
use Rattle.std.specs.Prelude.{◌≡◌, refl, ◌⊎◌, List, [], ◌∷◌, ◌++◌, Bool, true, false, not, ◌&&◌, cond, ℤ, pos, negsuc, T, eqb, ltb, length, get_or, Float}
use Rattle.std.proofs.Common.{sym, ap, ◌∙◌, inl, inr, arith, eqb→eq, length-append, get_or-append-add}
use Rattle.std.proofs.Math.Path.{subst}
use Prim.Native.Nat.{ℕ, zero, suc, ◌+◌, ◌-◌, ◌*◌, ◌%◌, ◌≤◌, ◌<◌}
use native.Mathlib.Nat.{eq-or-lt_of_le, le_of_suc-le-suc, le_trans}
use Rattle.std.proofs.Math.ListN.{get_or-append}
use Rattle.std.proofs.lemmas.List.{get_or_at}
use Rattle.std.specs.Float.Ieee.{of_bits}
use Rattle.std.specs.Float.{binary32}
use Rattle.refusals.specs.Results.{ok, bind, need}
use Rattle.refusals.specs.ResultLaws.{ok_injective, bind_ok, need_ok}
use Rattle.float.specs.Zero.{+0}
use Rattle.layout.specs.Bytes.{u32_at, u64_at, i64_at, mask_bit}
use Rattle.layout.specs.Walk.{shift}
use Rattle.sparse_grid.specs.declared.Entry.{Entry}
use Rattle.sparse_grid.specs.declared.Entry.TheVariants.{Child, Tile}
use Rattle.nanovdb.specs.Spans.{Span, Seen, at, nowhere, seen}
use Rattle.nanovdb.specs.Nodes.{State, Read, Slots, Reader, child_target, entries_of, mask_of, table_of, slot_read, slots_read, leaf_values}
pub use Rattle.nanovdb.specs.InTables.{Leaf, Good, SlotGood, Node}
use Rattle.nanovdb.proofs.Growth.{Prefix, prefix_length, prefix_at}

-- ---- spans

abbrev Nowhere : Seen → Type 0
Nowhere (at k) = ⊥
Nowhere nowhere = Unit {0}

pub not_seen : {k : ℕ} → nowhere ≡ at k → ⊥
not_seen e = subst Nowhere e tt

abbrev or_at : ℕ → Seen → ℕ
or_at d (at k) = k
or_at d nowhere = d

pub at_injective : {j k : ℕ} → at j ≡ at k → j ≡ k
at_injective {j} e = ap (or_at j) e

-- a span that comes last is found where no earlier one is
pub seen_new : (ss : List Span) (s : Span) (source level : ℕ) {k : ℕ} → seen (ss ++ (s ∷ [])) source level ≡ at k
    → (seen ss source level ≡ at k) ⊎ ((s.start ≡ source) × (s.level ≡ level) × (s.number ≡ k))
unfolding seen
seen_new [] s source level {k} e = go (eqb s.start source) (eqb s.level level) (eqb→eq s.start source) (eqb→eq s.level level) e
  where
    go : (x y : Bool) → (T x → s.start ≡ source) → (T y → s.level ≡ level) → cond (x && y) (at s.number) nowhere ≡ at k
        → (nowhere ≡ at k) ⊎ ((s.start ≡ source) × (s.level ≡ level) × (s.number ≡ k))
    go true true p q e = inr (p tt, q tt, at_injective e)
    go true false p q e = inl e
    go false y p q e = inl e
seen_new (r ∷ ss) s source level {k} e = go (eqb r.start source && eqb r.level level) (seen_new ss s source level) e
  where
    go : (x : Bool) → (seen (ss ++ (s ∷ [])) source level ≡ at k → (seen ss source level ≡ at k) ⊎ ((s.start ≡ source) × (s.level ≡ level) × (s.number ≡ k)))
        → cond x (at r.number) (seen (ss ++ (s ∷ [])) source level) ≡ at k
        → (cond x (at r.number) (seen ss source level) ≡ at k) ⊎ ((s.start ≡ source) × (s.level ≡ level) × (s.number ≡ k))
    go true f e = inl e
    go false f e = f e

-- a span of another level is passed over
pub seen_other : (ss : List Span) (s : Span) (source level : ℕ) → (s.level ≡ level → ⊥) → seen (ss ++ (s ∷ [])) source level ≡ seen ss source level
unfolding seen
seen_other [] s source level h = go (eqb s.start source) (eqb s.level level) (λ t. h (eqb→eq s.level level t))
  where
    go : (x y : Bool) → (T y → ⊥) → cond (x && y) (at s.number) nowhere ≡ nowhere
    go true true k = absurd (k tt)
    go true false k = refl
    go false y k = refl
seen_other (r ∷ ss) s source level h =
    ap (λ (z : Seen). cond (eqb r.start source && eqb r.level level) (at r.number) z) (seen_other ss s source level h)

-- ---- a node of the bytes, in the tables

pub good_map : {P Q : ℕ → ℕ → Type 0} → ((s k : ℕ) → P s k → Q s k) → (x : Bool) (bits target : ℕ) (e : Entry) → Good P x bits target e → Good Q x bits target e
good_map f true bits target (Tile v) g = g
good_map f true bits target (Child j) g = g
good_map f false bits target (Tile v) g = g
good_map f false bits target (Child j) g = f target j g

pub leaf_grown : {b : List ℕ} {l m : List Float} → Prefix l m → (s k : ℕ) → Leaf b l s k → Leaf b m s k
leaf_grown {l = l} p s k r = record {
  fits = le_trans r.fits (prefix_length p);
  each = λ (i : ℕ) (h : i < 512). prefix_at p (512 * k + i) +0 (omega (arith, r.fits)) ∙ r.each i h;
}

-- place i of node k
pub in_node : (n k i t : ℕ) → n * (k + 1) ≤ t → i < n → n * k + i < t
in_node n k i t h l = omega (arith, native.Mathlib.Nat.mul-add n k 1, native.Mathlib.Nat.mul-one n)

pub node_grown : {P Q : ℕ → ℕ → Type 0} {b : List ℕ} {level : ℕ} {l m : List Entry} → ((s k : ℕ) → P s k → Q s k) → Prefix l m → (s k : ℕ)
    → Node P b level l s k → Node Q b level m s k
node_grown {P} {Q} {b} {level} {l} {m} f p s k r = record {
  fits = le_trans r.fits (prefix_length p);
  each = λ (i : ℕ) (h : i < entries_of level).
      let e : get_or m (entries_of level * k + i) (Tile +0) ≡ get_or l (entries_of level * k + i) (Tile +0) = prefix_at p (entries_of level * k + i)
      (Tile +0) (in_node (entries_of level) k i (length l) r.fits h) in
      subst (λ (z : Entry). SlotGood Q b level s i z) (sym e)
      (good_map f (eqb (mask_bit b (s + mask_of level) i) 0) (u32_at b (s + table_of level + 8 * i)) (shift s (i64_at b (s + table_of level + 8 * i)))
      (get_or l (entries_of level * k + i) (Tile +0)) (r.each i h));
}

-- the node whose entries are put behind those of k whole ones
pub node_new : {P : ℕ → ℕ → Type 0} {b : List ℕ} {level : ℕ} (l es : List Entry) (s k : ℕ) → length l ≡ entries_of level * k → length es ≡ entries_of level
    → ((i : ℕ) → i < entries_of level → SlotGood P b level s i (get_or es i (Tile +0))) → Node P b level (l ++ es) s k
node_new {P} {b} {level} l es s k hl he g = record {
  fits = whole (entries_of level) (length (l ++ es)) (length l) (length es) k (length-append l es) hl he;
  each = λ (i : ℕ) (h : i < entries_of level).
      subst (λ (z : Entry). SlotGood P b level s i z)
      (sym (subst (λ (n : ℕ). get_or (l ++ es) (n + i) (Tile +0) ≡ get_or es i (Tile +0)) hl (get_or-append-add l es i (Tile +0)))) (g i h);
}
  where
    whole : (n t x y k : ℕ) → t ≡ x + y → x ≡ n * k → y ≡ n → n * (k + 1) ≤ t
    whole n t x y k p q r = omega (arith, native.Mathlib.Nat.mul-add n k 1, native.Mathlib.Nat.mul-one n)

-- ---- the values of a leaf

pub leaf_values_length : (b : List ℕ) (source n : ℕ) → length (leaf_values b source n) ≡ n
unfolding leaf_values
leaf_values_length b source zero = refl
leaf_values_length b source (suc n) =
    omega (arith, leaf_values_length b source n, length-append (leaf_values b source n) (of_bits binary32 (u32_at b (source + 96 + 4 * n)) ∷ []))

leaf_values_at : (b : List ℕ) (source n i : ℕ) → i < n → get_or (leaf_values b source n) i +0 ≡ of_bits binary32 (u32_at b (source + 96 + 4 * i))
unfolding leaf_values
leaf_values_at b source zero i h = absurd (omega arith)
leaf_values_at b source (suc n) i h =
    let v : ℕ → Float = λ (j : ℕ). of_bits binary32 (u32_at b (source + 96 + 4 * j)) in
    let l : List Float = leaf_values b source n in
    elim (eq-or-lt_of_le (le_of_suc-le-suc h)) [
      | inl p ↦ get_or_at l (v n) [] +0 i (leaf_values_length b source n ∙ sym p) ∙ ap v (sym p)
      | inr q ↦ get_or-append l (v n ∷ []) +0 i (omega (arith, leaf_values_length b source n)) ∙ leaf_values_at b source n i q
    ]

pub leaf_length : (b : List ℕ) (source : ℕ) → length (leaf_values b source 512) ≡ 512
leaf_length b source = leaf_values_length b source 512

pub leaf_new : (b : List ℕ) (l : List Float) (s k : ℕ) → length l ≡ 512 * k → Leaf b (l ++ leaf_values b s 512) s k
leaf_new b l s k h = record {
  fits = omega (arith, length-append l (leaf_values b s 512), leaf_length b s);
  each =
      λ (i : ℕ) (u : i < 512). subst (λ (n : ℕ). get_or (l ++ leaf_values b s 512) (n + i) +0 ≡ get_or (leaf_values b s 512) i +0) h
      (get_or-append-add l (leaf_values b s 512) i +0)
      ∙ leaf_values_at b s 512 i u;
}

-- ---- the slots of a node, whose child reader keeps an invariant

pub target_is : (base : ℕ) (z : ℤ) {target : ℕ} → child_target base z ≡ ok target → target ≡ shift base z
target_is base (pos k) e = sym (ok_injective (need_ok (eqb ((base + k) % 32) 0) 8 (ok (base + k)) e).1)
target_is base (negsuc k) e = sym (ok_injective (need_ok (ltb k base && eqb ((base - (k + 1)) % 32) 0) 8 (ok (base - (k + 1))) e).1)

-- the invariant after a child has been read, the child, and how the state has grown
pub record Step (I : State → Type 0) (R : State → ℕ → ℕ → Type 0) (G : State → State → Type 0) (source : ℕ) (t : State) (r : Read) : Type 0 where
  pub keeps : I r.state
  pub reads : R r.state source r.number
  pub grown : G t r.state

pub record Filled (I : State → Type 0) (R : State → ℕ → ℕ → Type 0) (G : State → State → Type 0) (b : List ℕ) (level source n : ℕ) (t : State)
    (s : Slots) : Type 0 where
  pub keeps : I s.state
  pub grown : G t s.state
  pub size : length s.entries ≡ n
  pub each : (i : ℕ) → i < n → SlotGood (R s.state) b level source i (get_or s.entries i (Tile +0))

module _ (I : State → Type 0) (R : State → ℕ → ℕ → Type 0) (G : State → State → Type 0)
    (same : (t : State) → G t t) (join : (t u v : State) → G t u → G u v → G t v) (stable : (t u : State) → G t u → (s k : ℕ) → R t s k → R u s k)
    (b : List ℕ) (level source : ℕ) (child : Reader) (step : (target : ℕ) (t : State) (r : Read) → I t → child target t ≡ ok r → Step I R G target t r) where
  -- one more entry, good in the state that comes with it
  more : (n : ℕ) (t : State) (s : Slots) (u : State) (e : Entry) → Filled I R G b level source n t s → I u → G s.state u → SlotGood (R u) b level source n e
      → Filled I R G b level source (suc n) t (record { entries = s.entries ++ (e ∷ []); state = u })
  more n t s u e f i g good = record {
    keeps = i;
    grown = join t s.state u f.grown g;
    size = omega (arith, f.size, length-append s.entries (e ∷ []));
    each = λ (j : ℕ) (h : j < suc n). pick j (eq-or-lt_of_le (le_of_suc-le-suc h));
  }
    where
      pick : (j : ℕ) → (j ≡ n) ⊎ (j < n) → SlotGood (R u) b level source j (get_or (s.entries ++ (e ∷ [])) j (Tile +0))
      pick j (inl p) =
          subst (λ (z : Entry). SlotGood (R u) b level source j z) (sym (get_or_at s.entries e [] (Tile +0) j (f.size ∙ sym p)))
          (subst (λ (z : ℕ). SlotGood (R u) b level source z e) (sym p) good)
      pick j (inr q) =
          subst (λ (z : Entry). SlotGood (R u) b level source j z) (sym (get_or-append s.entries (e ∷ []) (Tile +0) j (omega (arith, f.size))))
          (good_map (stable s.state u g) (eqb (mask_bit b (source + mask_of level) j) 0) (u32_at b (source + table_of level + 8 * j))
          (shift source (i64_at b (source + table_of level + 8 * j))) (get_or s.entries j (Tile +0)) (f.each j q))

  slot_filled : (n : ℕ) (t : State) (s s' : Slots) → Filled I R G b level source n t s → slot_read b child level source n s ≡ ok s'
      → Filled I R G b level source (suc n) t s'
  slot_filled n t s s' f e = go (eqb (mask_bit b (source + mask_of level) n) 0) (more n t s) e
    where
      at₀ : ℕ
      at₀ = source + table_of level + 8 * n

      go : (x : Bool)
          → ((u : State) (e : Entry) → Filled I R G b level source n t s → I u → G s.state u → Good (R u) x (u32_at b at₀) (shift source (i64_at b at₀)) e
          → Filled I R G b level source (suc n) t (record { entries = s.entries ++ (e ∷ []); state = u }))
          → cond x (ok (record { entries = s.entries ++ (Tile (of_bits binary32 (u32_at b at₀)) ∷ []); state = s.state }))
          (need (not (eqb (u64_at b at₀) 0)) 8
          (bind (child_target source (i64_at b at₀)) (λ (target : ℕ).
          bind (child target s.state) (λ (r : Read). ok (record { entries = s.entries ++ (Child r.number ∷ []); state = r.state })))))
          ≡ ok s'
          → Filled I R G b level source (suc n) t s'
      go true add e =
          subst (λ (z : Slots). Filled I R G b level source (suc n) t z) (ok_injective e)
          (add s.state (Tile (of_bits binary32 (u32_at b at₀))) f f.keeps (same s.state) refl)
      go false add e =
          let n8 = need_ok (not (eqb (u64_at b at₀) 0)) 8
          (bind (child_target source (i64_at b at₀)) (λ (target : ℕ).
          bind (child target s.state) (λ (r : Read). ok (record { entries = s.entries ++ (Child r.number ∷ []); state = r.state }))))
          e in
          let (target, is_target, e₁) = bind_ok (child_target source (i64_at b at₀))
          (λ (target : ℕ).
          bind (child target s.state) (λ (r : Read). ok (record { entries = s.entries ++ (Child r.number ∷ []); state = r.state })))
          n8.1 in
          let (r, is_read, e₂) = bind_ok (child target s.state)
          (λ (r : Read). ok (record { entries = s.entries ++ (Child r.number ∷ []); state = r.state })) e₁ in
          let st = step target s.state r f.keeps is_read in
          subst (λ (z : Slots). Filled I R G b level source (suc n) t z) (ok_injective e₂)
          (add r.state (Child r.number) f st.keeps st.grown
          (subst (λ (z : ℕ). R r.state z r.number) (target_is source (i64_at b at₀) is_target) st.reads))

  pub slots_filled : (n : ℕ) (t : State) (s : Slots) → I t → slots_read b child level source n t ≡ ok s → Filled I R G b level source n t s
  unfolding slots_read
  slots_filled zero t s i e =
      subst (λ (z : Slots). Filled I R G b level source 0 t z) (ok_injective e)
      (record { keeps = i; grown = same t; size = refl; each = λ (i : ℕ) (h : i < 0). absurd (omega arith) })
  slots_filled (suc n) t s i e =
      let (s₀, before, last) = bind_ok (slots_read b child level source n t) (slot_read b child level source n) e in
      slot_filled n t s₀ s (slots_filled n t s₀ i before) last
