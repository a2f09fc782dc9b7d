-- Runs of values: they keep the lengths, go to the table of their level, and a leaf's stand behind those before it. Assumes nothing.
use mathlib.Core.Path.{◌≡◌, refl, sym, ap, ◌∙◌, subst}
use mathlib.Core.List.{List, [], ◌∷◌, ◌++◌, append_assoc, append-nil}
use Prim.Native.Nat.{ℕ, zero, suc, ◌+◌, ◌*◌, ◌≤◌, ◌<◌}
use native.Mathlib.Numerals.{add-one}
use native.Mathlib.Omega.{arith}
use lib.ListN.{length, set, length-append, length-set}
use lib.Seq.{set-append_seam}
use lib.Ieee.{Float}
use Rattle.layout.specs.Bytes.{f32_at}
use Rattle.nanovdb.specs.Nodes.{table_of, leaf_values}
use Rattle.nanovdb.proofs.Held.{leaf_values_length}
use Rattle.decode.specs.Inner.Kinds.{level_of}
use Rattle.decode.specs.declared.kinds.Kind.{Kind}
use Rattle.decode.specs.declared.kinds.Kind.TheVariants.{Lower, Upper}
use Rattle.decode.specs.Inner.Filled.{Starts}
use Rattle.decode.specs.Inner.Stored.{leaf_value, slot_value, Stored, stored_none, stored_more, at_upper, at_lower, TilesStored, tiles_none, tiles_more}

module _ {f : ℕ → Float} {base from : ℕ} where
  pub stored_kept : {l m : List Float} {i : ℕ} → Stored f base from l i m → length m ≡ length l
  stored_kept stored_none = refl
  stored_kept (stored_more {i} {m} s) = length-set m (base + i) (f i) ∙ stored_kept s

  pub stored_next : {l m : List Float} {i : ℕ} {v : Float} → v ≡ f i → Stored f base from l i m → Stored f base from l (i + 1) (set m (base + i) v)
  stored_next e s = rw e (stored_more s)

  pub stored_to : {l m : List Float} {i to : ℕ} → i ≡ to → Stored f base from l i m → Stored f base from l to m
  stored_to {l} {m} e s = subst (λ (k : ℕ). Stored f base from l k m) e s

  -- a run in the table of its level
  pub tiles_lower : {uv l m : List Float} {i : ℕ} → Stored f base from l i m → TilesStored 1 f base from uv l i uv m
  tiles_lower stored_none = tiles_none
  tiles_lower (stored_more s) = tiles_more (tiles_lower s)

  pub tiles_upper : {n : ℕ} {lv l m : List Float} {i : ℕ} → Stored f base from l i m → TilesStored (suc (suc n)) f base from l lv i m lv
  tiles_upper stored_none = tiles_none
  tiles_upper (stored_more s) = tiles_more (tiles_upper s)

  pub tiles_from : {level : ℕ} {upper lower u l : List Float} {i : ℕ} → TilesStored level f base from upper lower i u l → from ≤ i
  tiles_from tiles_none = omega arith
  tiles_from (tiles_more s) = let h = tiles_from s in omega arith

-- the run of a kind: where its values go
module _ (b : List ℕ) (source : ℕ) {base from to at : ℕ} (k : Kind) (place : at ≡ table_of (level_of k)) where
  placed : {n : ℕ} {l m : List Float} → level_of k ≡ n → Stored (λ (i : ℕ). f32_at b (source + at + 8 * i)) base from l to m
      → Stored (slot_value b source n) base from l to m
  placed {l = l} {m} e s = subst (λ (t : ℕ). Stored (λ (i : ℕ). f32_at b (source + t + 8 * i)) base from l to m) (place ∙ ap table_of e) s

  pub lower_run : {uv l m : List Float} → k ≡ Lower → Stored (λ (i : ℕ). f32_at b (source + at + 8 * i)) base from l to m
      → TilesStored (level_of k) (slot_value b source (level_of k)) base from uv l to uv m
  lower_run {uv} {l} {m} e s =
      subst (λ (n : ℕ). TilesStored n (slot_value b source n) base from uv l to uv m) (sym (ap level_of e)) (tiles_lower (placed (ap level_of e) s))

  pub upper_run : {lv l m : List Float} → k ≡ Upper → Stored (λ (i : ℕ). f32_at b (source + at + 8 * i)) base from l to m
      → TilesStored (level_of k) (slot_value b source (level_of k)) base from l lv to m lv
  upper_run {lv} {l} {m} e s =
      subst (λ (n : ℕ). TilesStored n (slot_value b source n) base from l lv to m lv) (sym (ap level_of e)) (tiles_upper (placed (ap level_of e) s))

-- a store by the level keeps the lengths
pub upper_kept : {A : Type 0} (level : ℕ) (l : List A) (at : ℕ) (x : A) → length (at_upper level l at x) ≡ length l
upper_kept zero l at x = refl
upper_kept (suc zero) l at x = refl
upper_kept (suc (suc n)) l at x = length-set l at x

pub lower_kept : {A : Type 0} (level : ℕ) (l : List A) (at : ℕ) (x : A) → length (at_lower level l at x) ≡ length l
lower_kept zero l at x = refl
lower_kept (suc zero) l at x = length-set l at x
lower_kept (suc (suc n)) l at x = refl

-- one more behind those that a table begins with
starts_push : {A : Type 0} {t : List A} (l : List A) (at : ℕ) (v : A) → Starts t l → length l ≡ at → at < length t → Starts (set t at v) (l ++ (v ∷ []))
starts_push {A} {t} l at v (rest, is) size room = go rest is
  where
    go : (rest : List A) → t ≡ l ++ rest → Starts (set t at v) (l ++ (v ∷ []))
    go [] e = absurd (omega (arith, ap length (e ∙ append-nil l)))
    go (z ∷ rest) e = (
      rest,
      ap (λ (x : List A). set x at v) e
          ∙ ap (λ (k : ℕ). set (l ++ (z ∷ rest)) k v) (sym size)
          ∙ set-append_seam l z rest v
          ∙ sym (append_assoc l (v ∷ []) rest),
    )

-- a leaf's values behind those of l
module _ (b : List ℕ) (source : ℕ) {base : ℕ} {before : List Float} (l : List Float) (held : Starts before l) (size : length l ≡ base)
    (room : base + 512 ≤ length before) where
  pub leaf_filled : {i : ℕ} {now : List Float} → Stored (leaf_value b source) base 0 before i now → i ≤ 512 → Starts now (l ++ leaf_values b source i)
  unfolding leaf_values
  leaf_filled stored_none h = (held.0, held.1 ∙ ap (λ (k : List Float). k ++ held.0) (sym (append-nil l)))
  leaf_filled (stored_more {i} {m} s) h =
      let v = leaf_value b source i in
      let long : length (l ++ leaf_values b source i) ≡ base + i = length-append l (leaf_values b source i)
      ∙ (let n = leaf_values_length b source i in omega arith) in
      let more = starts_push (l ++ leaf_values b source i) (base + i) v (leaf_filled s (omega arith)) long (omega (arith, stored_kept s)) in
      subst (Starts (set m (base + i) v)) (append_assoc l (leaf_values b source i) (v ∷ [])
      ∙ ap (λ (n : ℕ). l ++ leaf_values b source n) (sym (add-one i))) more
