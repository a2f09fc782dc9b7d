-- A part of a box that lies in one cell of a node: all of its places go by one entry.
use Rattle.std.specs.Prelude.{ℕ, zero, suc, ◌+◌, ◌*◌, ◌/◌, ◌%◌, ◌≤◌, ◌<◌, ◌≡◌, false, List, get_or, Float}
use Rattle.std.proofs.Common.{le_trans, arith, sym, ap, ◌∙◌, subst}
use Rattle.std.specs.Float.Ieee.{lt}
use Rattle.float.specs.Zero.{+0}
use Rattle.sparse_grid.specs.declared.Entry.{Entry}
use Rattle.sparse_grid.specs.declared.Entry.TheVariants.{Child, Tile}
use Rattle.sparse_grid.specs.Tables.{entry_of, entry_at}
use Rattle.boxes.specs.declared.Span.{Span}
use Rattle.boxes.specs.Boxes.{greater}
use Rattle.boxes.specs.Most.{Joined}
use Rattle.boxes.specs.RangeMax.{Within, Full, Cut, InCell, entry_read, leaf_read, lower_read, upper_read, lower_slot, upper_slot, child_in}
use Rattle.boxes.proofs.MostLaws.{most_as, low_corner}
use Rattle.boxes.proofs.JoinedLaws.{joined_flat, joined_as}

module _ {f : ℕ → ℕ → ℕ → Float} (g : ℕ → ℕ → ℕ → ℕ → Float) (x y z : Span) {e : Entry}
    (same : (a b c : ℕ) → Within x y z a b c → f a b c ≡ entry_read e (λ j. g j a b c)) where
  abbrev by_entry : {d : Entry} → e ≡ d → (a b c : ℕ) → Within x y z a b c → f a b c ≡ entry_read d (λ j. g j a b c)
  by_entry h a b c s = same a b c s ∙ ap (λ (k : Entry). entry_read k (λ j. g j a b c)) h

  pub cell_tile : Full x y z → {v m r : Float} → e ≡ Tile v → lt m +0 ≡ false → r ≡ greater m v → Joined m f (Within x y z) r
  cell_tile full {v} h l q = joined_flat l v (by_entry h) x.lo y.lo z.lo (low_corner full.x_some full.y_some full.z_some) q

  pub cell_child : {j : ℕ} {m r : Float} → e ≡ Child j → Joined m (g j) (Within x y z) r → Joined m f (Within x y z) r
  cell_child h = joined_as (λ p m. most_as (λ a b c s. sym (by_entry h a b c s)) m)

-- ---- the slot of a cell

same8 : (a x : ℕ) → a ≤ x → x < a / 8 * 8 + 8 → x % 128 / 8 ≡ a % 128 / 8
same8 a x h l = omega arith

same128 : (a x : ℕ) → a ≤ x → x < a / 128 * 128 + 128 → x % 4096 / 128 ≡ a % 4096 / 128
same128 a x h l = omega arith

module _ (x y z : Span) where
  pub lower_same : (links : List ℕ) (values leaf : List Float) (k : ℕ) → InCell 8 x → InCell 8 y → InCell 8 z
      → (a b c : ℕ) → Within x y z a b c
      → lower_read links values leaf k a b c ≡ entry_read (entry_at links values (lower_slot k x.lo y.lo z.lo)) (λ j. leaf_read leaf j a b c)
  unfolding lower_read
  lower_same links values leaf k hx hy hz a b c s =
      let i : a % 128 / 8 ≡ x.lo % 128 / 8 = same8 x.lo a (omega arith) (omega arith) in
      let j : b % 128 / 8 ≡ y.lo % 128 / 8 = same8 y.lo b (omega arith) (omega arith) in
      let h : c % 128 / 8 ≡ z.lo % 128 / 8 = same8 z.lo c (omega arith) (omega arith) in
      rw (i, j, h)

  pub upper_same : (upper_links : List ℕ) (upper_values : List Float) (links : List ℕ) (values leaf : List Float) (k : ℕ) → InCell 128 x → InCell 128 y
      → InCell 128 z
      → (a b c : ℕ) → Within x y z a b c
      → upper_read upper_links upper_values links values leaf k a b c
      ≡ entry_read (entry_at upper_links upper_values (upper_slot k x.lo y.lo z.lo)) (λ j. lower_read links values leaf j a b c)
  unfolding upper_read
  upper_same upper_links upper_values links values leaf k hx hy hz a b c s =
      let i : a % 4096 / 128 ≡ x.lo % 4096 / 128 = same128 x.lo a (omega arith) (omega arith) in
      let j : b % 4096 / 128 ≡ y.lo % 4096 / 128 = same128 y.lo b (omega arith) (omega arith) in
      let h : c % 4096 / 128 ≡ z.lo % 4096 / 128 = same128 z.lo c (omega arith) (omega arith) in
      rw (i, j, h)

-- ---- a full box whose span on one axis is cut at e
module _ {x y z : Span} {side at e : ℕ} (f : Full x y z) where
  pub cut_x : Cut side at x.hi e → Full (record { lo = at; hi = e }) y z
  cut_x k = record {
    x_some = k.more;
    y_some = f.y_some;
    z_some = f.z_some;
    x_top = le_trans k.within f.x_top;
    y_top = f.y_top;
    z_top = f.z_top;
  }

  pub cut_y : Cut side at y.hi e → Full x (record { lo = at; hi = e }) z
  cut_y k = record {
    x_some = f.x_some;
    y_some = k.more;
    z_some = f.z_some;
    x_top = f.x_top;
    y_top = le_trans k.within f.y_top;
    z_top = f.z_top;
  }

  pub cut_z : Cut side at z.hi e → Full x y (record { lo = at; hi = e })
  cut_z k = record {
    x_some = f.x_some;
    y_some = f.y_some;
    z_some = k.more;
    x_top = f.x_top;
    y_top = f.y_top;
    z_top = le_trans k.within f.z_top;
  }

-- ---- children

child_of : (l : ℕ) (v : Float) {j : ℕ} → entry_of l v ≡ Child j → l ≡ suc j
child_of zero v q = let w : ◌≡◌ {A = ℕ} 0 1 = cc in absurd (omega arith)
child_of (suc l) v q = cc

-- the link of an entry that is child j
pub child_link : (links : List ℕ) (values : List Float) (i : ℕ) {j : ℕ} → entry_at links values i ≡ Child j → get_or links i 0 ≡ suc j
child_link links values i q = child_of (get_or links i 0) (get_or values i +0) q

pub child_room : {e : Entry} {j n : ℕ} → e ≡ Child j → child_in e n → 32768 * j + 32768 ≤ n
child_room {e} {j} {n} q h = subst (λ (e : Entry). child_in e n) q h

room : (l : ℕ) (v : Float) (n : ℕ) → 32768 * l ≤ n → child_in (entry_of l v) n
room zero v n h = omega arith
room (suc l) v n h = omega arith

pub linked_room : (links : List ℕ) (values : List Float) (i n : ℕ) → 32768 * get_or links i 0 ≤ n → child_in (entry_at links values i) n
linked_room links values i n h = room (get_or links i 0) (get_or values i +0) n h
