-- From spans of biased coordinates back to a box between two corners: what is the greatest there is `box_maximum`, and what is read for it. Assumes nothing.
use Rattle.std.proofs.Common.{◌≡◌, ℕ, ◌+◌, ◌-◌, ◌<◌, ◌≤◌, Bool, true, false, ◌||◌, T, leb, ℤ, ◌≤ℤ◌, sym, refl, ap, ◌∙◌, subst, inl, inr, ⊎_elim, arith, leb-false, leb-true}
use lib.Ieee.{Float, lt, fits, binary32, of_bits}
use Rattle.layout.specs.Coordinates.{Coord}
use Rattle.sparse_grid.specs.Tables.{Grid}
use Rattle.sparse_grid.specs.Lookup.{read_in}
use Rattle.sparse_grid.specs.Biased.{back, place}
use Rattle.sparse_grid.specs.BiasedLaws.{back_low, back_high, back_le, back_between}
use Rattle.sparse_grid.specs.Count.{split_lt}
use Rattle.boxes.specs.declared.Span.{Span}
use Rattle.boxes.specs.Boxes.{Box, Greatest, box_maximum}
use Rattle.majorant.specs.declared.part.Part as Code
use Rattle.majorant.specs.Walks.{no_reads}
use Rattle.majorant.specs.Rooting.{PartOf, read_of, reads_for}
use Rattle.boxes.proofs.Maximum.{greatest}
use Rattle.boxes.proofs.Greatest.{greatest_one}
use Rattle.majorant.proofs.FitLaws.{zero_fits, box_fits}
use Rattle.boxes.specs.Most.{Most}
use Rattle.boxes.specs.RangeMax.{Within, Full, Ends, empty, read_at}
use Rattle.boxes.proofs.MostLaws.{none}
use Rattle.walk.specs.Walk.{Price, biased, zone_of, steps, roots_only, uppers_only, lowers_only, leaves_only}
use Rattle.walk.specs.Counts.{zone_in}
use Rattle.walk.proofs.NodeWalk.{empty_steps}

-- ---- spans with a place, and without

or_false : (a b : Bool) → (a || b) ≡ false → (a ≡ false) × (b ≡ false)
or_false true b h = absurd (subst T h tt)
or_false false b h = (refl, h)

pub some : (x y z : Span) → empty x y z ≡ false → (x.lo < x.hi) × (y.lo < y.hi) × (z.lo < z.hi)
some x y z h =
    let p = or_false (leb x.hi x.lo || leb y.hi y.lo) (leb z.hi z.lo) h in
    let q = or_false (leb x.hi x.lo) (leb y.hi y.lo) p.0 in
    (leb-false x.hi x.lo q.0, leb-false y.hi y.lo q.1, leb-false z.hi z.lo p.1)

pub filled : {b : Box} {p : Code.Part} → PartOf b p → empty p.x p.y p.z ≡ false → Full p.x p.y p.z
filled {p = p} e h =
    let s = some p.x p.y p.z h in
    record { x_some = s.0; y_some = s.1; z_some = s.2; x_top = e.x.ends.top; y_top = e.y.ends.top; z_top = e.z.ends.top }

-- an empty span on some axis
module _ {P : Type 0} where
  or_true : (a b : Bool) → (a || b) ≡ true → (a ≡ true → P) → (b ≡ true → P) → P
  or_true true b h p q = p refl
  or_true false b h p q = q h

  pub lacking : (x y z : Span) → empty x y z ≡ true → (x.hi ≤ x.lo → P) → (y.hi ≤ y.lo → P) → (z.hi ≤ z.lo → P) → P
  lacking x y z h p q r =
      or_true (leb x.hi x.lo || leb y.hi y.lo) (leb z.hi z.lo) h
      (λ e. or_true (leb x.hi x.lo) (leb y.hi y.lo) e (λ k. p (leb-true _ _ k)) (λ k. q (leb-true _ _ k)))
      (λ e. r (leb-true _ _ e))

no_place : (x y z : Span) → empty x y z ≡ true → (a b c : ℕ) → Within x y z a b c → ⊥
no_place x y z h a b c s = lacking x y z h (λ k. omega arith) (λ k. omega arith) (λ k. omega arith)

-- ---- the box

module _ (g : Grid) {b : Box} {p : Code.Part} (spans : PartOf b p) where
  -- a coordinate between two ends is a place of their span
  axis : {lo hi : ℤ} (s : Span) → Ends lo hi s → (c : ℤ) → lo ≤ℤ c → c ≤ℤ hi → (n : ℕ) × (c ≡ back 2147483648 n) × (s.lo ≤ n) × (n < s.hi)
  axis s e c l u =
      let w = back_between 2147483648 s.lo (s.hi - 1) c (subst (λ (k : ℤ). k ≤ℤ c) e.low l) (subst (λ (k : ℤ). c ≤ℤ k) e.high u) in
      (w.0, w.1, w.2, omega (arith, w.3, e.some))

  low_end : {lo hi : ℤ} (s : Span) → Ends lo hi s → (n : ℕ) → s.lo ≤ n → lo ≤ℤ back 2147483648 n
  low_end s e n h = subst (λ (k : ℤ). k ≤ℤ back 2147483648 n) (sym e.low) (back_le 2147483648 s.lo n h)

  high_end : {lo hi : ℤ} (s : Span) → Ends lo hi s → (n : ℕ) → n < s.hi → back 2147483648 n ≤ℤ hi
  high_end s e n h = subst (λ (k : ℤ). back 2147483648 n ≤ℤ k) (sym e.high) (back_le 2147483648 n (s.hi - 1) (omega arith))

  most_greatest : {r : Float} → Most (read_at g) (Within p.x p.y p.z) r → Greatest (read_in g) b r
  unfolding read_at
  most_greatest {r} m = record {
    covers = λ c i.
        let a = axis p.x spans.x.ends c.x i.x_low i.x_high in
        let e = axis p.y spans.y.ends c.y i.y_low i.y_high in
        let d = axis p.z spans.z.ends c.z i.z_low i.z_high in
        let f : c ≡ place a.0 e.0 d.0 = λ j. record { x = a.1 j; y = e.1 j; z = d.1 j } in
        ap (λ (k : Coord). lt r (read_in g k)) f
        ∙ m.covers a.0 e.0 d.0 (record { x_low = a.2; x_high = a.3; y_low = e.2; y_high = e.3; z_low = d.2; z_high = d.3 });
    reached = ⊎_elim (λ e. inl e)
        (λ w. inr (
          place w.0 w.1 w.2,
          record {
            x_low = low_end p.x spans.x.ends w.0 w.3.x_low;
            x_high = high_end p.x spans.x.ends w.0 w.3.x_high;
            y_low = low_end p.y spans.y.ends w.1 w.3.y_low;
            y_high = high_end p.y spans.y.ends w.1 w.3.y_high;
            z_low = low_end p.z spans.z.ends w.2 w.3.z_low;
            z_high = high_end p.z spans.z.ends w.2 w.3.z_high;
          },
          w.4,
          w.5,
        )) m.reached;
  }

  -- it is +0 or one of the values that are read, so it fits where they do
  most_fits : {r : Float} → ((c : Coord) → T (fits binary32 (read_in g c))) → Most (read_at g) (Within p.x p.y p.z) r → T (fits binary32 r)
  unfolding read_at
  most_fits h m =
      ⊎_elim (λ e. subst (λ (v : Float). T (fits binary32 v)) (sym e) zero_fits)
      (λ w. subst (λ (v : Float). T (fits binary32 v)) w.4 (h (place w.0 w.1 w.2))) m.reached

  pub is_maximum : {r : Float} → ((c : Coord) → T (fits binary32 (read_in g c))) → Most (read_at g) (Within p.x p.y p.z) r
      → r ≡ box_maximum (read_in g) b
  is_maximum h m =
      greatest_one (read_in g) binary32 b (most_fits h m) (box_fits (read_in g) b h) (most_greatest m) (greatest (read_in g) b)

  -- an empty box: the code's 0.0
  pub is_none : empty p.x p.y p.z ≡ true → ((c : Coord) → T (fits binary32 (read_in g c)))
      → of_bits binary32 0 ≡ box_maximum (read_in g) b
  is_none o h = is_maximum h (none (no_place p.x p.y p.z o))

-- ---- what is read for the box

-- a biased number, biased again
biased_back : (n : ℕ) → biased (back 2147483648 n) ≡ n
biased_back n =
    split_lt n 2147483648
    (λ l. ap biased (back_low 2147483648 n l) ∙ omega arith)
    (λ l. ap biased (back_high 2147483648 n l) ∙ omega arith)

pub low_number : {lo hi : ℤ} {s : Span} → Ends lo hi s → biased lo ≡ s.lo
low_number {s = s} e = ap biased e.low ∙ biased_back s.lo

pub high_number : {lo hi : ℤ} {s : Span} → Ends lo hi s → biased hi + 1 ≡ s.hi
high_number {s = s} e = let h = ap biased e.high ∙ biased_back (s.hi - 1) in omega (arith, e.some)

module _ {b : Box} {p : Code.Part} (spans : PartOf b p) where
  -- the zone of the box
  pub zone_is : zone_of b ≡ zone_in p.x p.y p.z
  zone_is = λ i. record {
    x0 = low_number spans.x.ends i;
    x1 = high_number spans.x.ends i;
    y0 = low_number spans.y.ends i;
    y1 = high_number spans.y.ends i;
    z0 = low_number spans.z.ends i;
    z1 = high_number spans.z.ends i;
  }

  module _ (g : Grid) where
    -- an empty box: nothing
    pub none_read : empty p.x p.y p.z ≡ true → no_reads ≡ reads_for g b
    none_read h = λ i. record { roots = none roots_only i; uppers = none uppers_only i; lowers = none lowers_only i; leaves = none leaves_only i }
      where
        none : (t : Price) → 0 ≡ steps t g (zone_of b)
        none t =
            sym (ap (steps t g) zone_is
            ∙ empty_steps t g (zone_in p.x p.y p.z) (lacking p.x p.y p.z h (λ k. inl k) (λ k. inr (inl k)) (λ k. inr (inr k))))

    -- what is read for the spans is what is read for the box
    pub all_read : read_of g (zone_in p.x p.y p.z) ≡ reads_for g b
    all_read = λ i. record { roots = same roots_only i; uppers = same uppers_only i; lowers = same lowers_only i; leaves = same leaves_only i }
      where
        same : (t : Price) → steps t g (zone_in p.x p.y p.z) ≡ steps t g (zone_of b)
        same t = ap (steps t g) (sym zone_is)
