-- The places of a zone by class add up along any cut, and never past the places of the zone: what each turn of a count's loops cites. Assumes nothing.
use Rattle.std.specs.Prelude.{ℕ, suc, ◌+◌, ◌-◌, ◌*◌, ◌%◌, ◌≤◌, ◌<◌, ◌≡◌, refl, Bool, true, false, cond, List, eqb, length, get_or, Float}
use Rattle.std.proofs.Common.{mul-one, mul_comm, le_trans, add-le-add, arith, sym, ap, ◌∙◌, subst}
use Rattle.std.proofs.Math.Nat.{mod-one}
use Rattle.sparse_grid.specs.declared.Entry.{Entry}
use Rattle.sparse_grid.specs.declared.Entry.TheVariants.{Child, Tile}
use Rattle.sparse_grid.specs.Count.{bit, bit_most}
use Rattle.boxes.specs.declared.Span.{Span}
use Rattle.boxes.specs.RangeMax.{entry_read, Within}
use Rattle.walk.specs.Walk.{Zone}
use Rattle.walk.specs.Classes.{class}
use Rattle.walk.specs.Sums.{sum_le}
use Rattle.walk.specs.Gather.{zone, along_x, along_y, along_z, run, tally, tally_gathers, tally_same, tally_flat, volume, At, turn_x, turn_y, turn_z}
use Rattle.walk.specs.Tallied.{is_class, places, Ready, Added}

-- ---- sums over a zone

run_le : (lo hi : ℕ) (f g : ℕ → ℕ) → ((t : ℕ) → f t ≤ g t) → run lo hi f ≤ run lo hi g
unfolding run
run_le lo hi f g h = sum_le (hi - lo) (λ i. f (lo + i)) (λ i. g (lo + i)) (λ t l. h (lo + t))

pub tally_le : (f g : ℕ → ℕ → ℕ → ℕ) (q : Zone) → ((x y z : ℕ) → f x y z ≤ g x y z) → tally f q ≤ tally g q
unfolding tally
tally_le f g q h = run_le q.x0 q.x1 _ _ (λ x. run_le q.y0 q.y1 _ _ (λ y. run_le q.z0 q.z1 _ _ (λ z. h x y z)))

pub places_are : (q : Zone) → places q ≡ volume q
places_are q = tally_flat (λ x y z. 1) q 1 (λ x y z s. refl) ∙ mul-one (volume q)

-- a cut anywhere
module _ (f : ℕ → ℕ → ℕ → ℕ) (q : Zone) (lo at next : ℕ) (l : lo ≤ at) (m : at ≤ next) where
  cut_x : tally f (along_x q lo at) + tally f (along_x q at next) ≡ tally f (along_x q lo next)
  cut_x = turn_x 1 (tally f) (tally_gathers f) (omega arith) q lo at next _ _ l m (λ h. mod-one at) refl refl

  cut_y : tally f (along_y q lo at) + tally f (along_y q at next) ≡ tally f (along_y q lo next)
  cut_y = turn_y 1 (tally f) (tally_gathers f) (omega arith) q lo at next _ _ l m (λ h. mod-one at) refl refl

  cut_z : tally f (along_z q lo at) + tally f (along_z q at next) ≡ tally f (along_z q lo next)
  cut_z = turn_z 1 (tally f) (tally_gathers f) (omega arith) q lo at next _ _ l m (λ h. mod-one at) refl refl

-- ---- a turn of a loop, along each axis

pub class_le : (ls : List Float) (read : ℕ → ℕ → ℕ → Float) (k : ℕ) (q : Zone) → tally (is_class ls read k) q ≤ places q
class_le ls read k q = tally_le (is_class ls read k) (λ x y z. 1) q (λ x y z. bit_most (eqb (class ls (read x y z)) k))

module _ {ls : List Float} {read : ℕ → ℕ → ℕ → Float} where
  none : (counts : List ℕ) (q : Zone) → ((k : ℕ) → tally (is_class ls read k) q ≡ 0) → Added ls read q counts counts
  none counts q h = record { each = λ k l. omega (arith, h k) }

  pub none_x : (counts : List ℕ) (q : Zone) (a : ℕ) → Added ls read (along_x q a a) counts counts
  none_x counts q a = none counts (along_x q a a) (λ k. (tally_gathers (is_class ls read k)).none_x q a)

  pub none_y : (counts : List ℕ) (q : Zone) (a : ℕ) → Added ls read (along_y q a a) counts counts
  none_y counts q a = none counts (along_y q a a) (λ k. (tally_gathers (is_class ls read k)).none_y q a)

  pub none_z : (counts : List ℕ) (q : Zone) (a : ℕ) → Added ls read (along_z q a a) counts counts
  none_z counts q a = none counts (along_z q a a) (λ k. (tally_gathers (is_class ls read k)).none_z q a)

  -- a part that ends where it is to end
  pub till_x : (q : Zone) {lo at hi : ℕ} {a b : List ℕ} → at ≡ hi → Added ls read (along_x q lo at) a b → Added ls read (along_x q lo hi) a b
  till_x q {lo} {a = a} {b} e u = subst (λ (m : ℕ). Added ls read (along_x q lo m) a b) e u

  pub till_y : (q : Zone) {lo at hi : ℕ} {a b : List ℕ} → at ≡ hi → Added ls read (along_y q lo at) a b → Added ls read (along_y q lo hi) a b
  till_y q {lo} {a = a} {b} e u = subst (λ (m : ℕ). Added ls read (along_y q lo m) a b) e u

  pub till_z : (q : Zone) {lo at hi : ℕ} {a b : List ℕ} → at ≡ hi → Added ls read (along_z q lo at) a b → Added ls read (along_z q lo hi) a b
  till_z q {lo} {a = a} {b} e u = subst (λ (m : ℕ). Added ls read (along_z q lo m) a b) e u

  -- two zones that make up a third
  both : {p q r : Zone} {a b c : List ℕ} → ((f : ℕ → ℕ → ℕ → ℕ) → tally f p + tally f q ≡ tally f r) → Added ls read p a b → Added ls read q b c
      → Added ls read r a c
  both h u v = record { each = λ k l. omega (arith, u.each k l, v.each k l, h (is_class ls read k)) }

  -- what is left has room in what the part before made of the counts
  ready : {p q r : Zone} {a b : List ℕ} → ((f : ℕ → ℕ → ℕ → ℕ) → tally f p + tally f q ≤ tally f r) → Ready ls a r → length b ≡ length a
      → Added ls read p a b → Ready ls b q
  ready {p} h R e u = record {
    few = R.few;
    long = e ∙ R.long;
    room = λ k l. omega (arith, R.room k l, u.each k l, h (λ x y z. 1), class_le ls read k p);
  }

  module _ (q : Zone) {lo at next : ℕ} {a b c : List ℕ} (l : lo ≤ at) (m : at ≤ next) where
    pub add_x : Added ls read (along_x q lo at) a b → Added ls read (along_x q at next) b c → Added ls read (along_x q lo next) a c
    add_x u v = both (λ f. cut_x f q lo at next l m) u v

    pub add_y : Added ls read (along_y q lo at) a b → Added ls read (along_y q at next) b c → Added ls read (along_y q lo next) a c
    add_y u v = both (λ f. cut_y f q lo at next l m) u v

    pub add_z : Added ls read (along_z q lo at) a b → Added ls read (along_z q at next) b c → Added ls read (along_z q lo next) a c
    add_z u v = both (λ f. cut_z f q lo at next l m) u v

  module _ (q : Zone) {lo at next hi : ℕ} {a b : List ℕ} (l : lo ≤ at) (m : at ≤ next) (n : next ≤ hi) where
    pub ready_x : Ready ls a (along_x q lo hi) → length b ≡ length a → Added ls read (along_x q lo at) a b → Ready ls b (along_x q at next)
    ready_x R e u = ready (λ f. omega (arith, cut_x f q lo at next l m, cut_x f q lo next hi (le_trans l m) n)) R e u

    pub ready_y : Ready ls a (along_y q lo hi) → length b ≡ length a → Added ls read (along_y q lo at) a b → Ready ls b (along_y q at next)
    ready_y R e u = ready (λ f. omega (arith, cut_y f q lo at next l m, cut_y f q lo next hi (le_trans l m) n)) R e u

    pub ready_z : Ready ls a (along_z q lo hi) → length b ≡ length a → Added ls read (along_z q lo at) a b → Ready ls b (along_z q at next)
    ready_z R e u = ready (λ f. omega (arith, cut_z f q lo at next l m, cut_z f q lo next hi (le_trans l m) n)) R e u

-- what is read on the zone decides
pub added_as : {ls : List Float} {f g : ℕ → ℕ → ℕ → Float} {q : Zone} {a b : List ℕ} → ((x y z : ℕ) → At q x y z → f x y z ≡ g x y z)
    → Added ls f q a b → Added ls g q a b
added_as {ls} {f} {g} {q} {a} same u = record {
  each = λ k l. u.each k l ∙ ap (λ (n : ℕ). get_or a k 0 + n)
      (tally_same (is_class ls g k) (is_class ls f k) q (λ x y z s. ap (λ (w : Float). bit (eqb (class ls w) k)) (same x y z s)));
}

-- ---- a part of one value

abbrev pub Counts : List Float → Float → ℕ → List ℕ → List ℕ → Type 0
Counts ls v size before after = (k : ℕ) → k < 17 → get_or after k 0 ≡ get_or before k 0 + bit (eqb (class ls v) k) * size

pub one_value : {ls : List Float} {read : ℕ → ℕ → ℕ → Float} {q : Zone} {a b : List ℕ} (v : Float) (size : ℕ)
    → ((x y z : ℕ) → At q x y z → read x y z ≡ v) → size ≡ volume q → Counts ls v size a b → Added ls read q a b
one_value {ls} {read} {q} {a} v size same e c = record {
  each = λ k l. c k l ∙ ap (λ (n : ℕ). get_or a k 0 + n) (ap (λ (n : ℕ). bit (eqb (class ls v) k) * n) e ∙ mul_comm (bit (eqb (class ls v) k)) (volume q)
      ∙ sym (tally_flat (is_class ls read k) q (bit (eqb (class ls v) k)) (λ x y z s. ap (λ (w : Float). bit (eqb (class ls w) k)) (same x y z s))));
}

-- one place
pub one : (x y z : ℕ) → 1 ≡ (x + 1 - x) * (y + 1 - y) * (z + 1 - z)
one x y z =
    let p : x + 1 - x ≡ 1 = omega arith in
    let q : y + 1 - y ≡ 1 = omega arith in
    let r : z + 1 - z ≡ 1 = omega arith in
    λ t. sym p t * sym q t * sym r t

pub one_place : {ls : List Float} {read : ℕ → ℕ → ℕ → Float} {a b : List ℕ} (x y z : ℕ) (v : Float) → read x y z ≡ v → Counts ls v 1 a b
    → Added ls read (zone x (x + 1) y (y + 1) z (z + 1)) a b
one_place {read = read} x y z v e c = one_value v 1 same (one x y z) c
  where
    same : (i j k : ℕ) → At (zone x (x + 1) y (y + 1) z (z + 1)) i j k → read i j k ≡ v
    same i j k s =
        let p : i ≡ x = omega (arith, s.x_low, s.x_high) in
        let q : j ≡ y = omega (arith, s.y_low, s.y_high) in
        let r : k ≡ z = omega (arith, s.z_low, s.z_high) in
        (λ t. read (p t) (q t) (r t)) ∙ e

-- room for a zone's places, as many as a value is counted for
pub ready_value : {ls : List Float} {counts : List ℕ} {q : Zone} (size : ℕ) → Ready ls counts q → size ≡ volume q
    → (length ls ≤ 16) × (length counts ≡ 17) × ((k : ℕ) → k < 17 → get_or counts k 0 + size ≤ 1152921504606846976)
ready_value {q = q} size R e = (R.few, R.long, λ k l. omega (arith, R.room k l, e, places_are q))

-- the places of a cell go by one entry: a tile's value, or what its child has
module _ {ls : List Float} {read : ℕ → ℕ → ℕ → Float} (g : ℕ → ℕ → ℕ → ℕ → Float) (q : Zone) {e : Entry}
    (same : (x y z : ℕ) → At q x y z → read x y z ≡ entry_read e (λ j. g j x y z)) where
  pub cell_tile : {v : Float} (size : ℕ) {a b : List ℕ} → e ≡ Tile v → size ≡ volume q → Counts ls v size a b → Added ls read q a b
  cell_tile {v} size h n c = one_value v size (λ x y z s. same x y z s ∙ ap (λ (k : Entry). entry_read k (λ j. g j x y z)) h) n c

  pub cell_child : {j : ℕ} {a b : List ℕ} → e ≡ Child j → Added ls (g j) q a b → Added ls read q a b
  cell_child {j} h u = added_as (λ x y z s. sym (same x y z s ∙ ap (λ (d : Entry). entry_read d (λ i. g i x y z)) h)) u
