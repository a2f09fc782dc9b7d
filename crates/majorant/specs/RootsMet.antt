-- The roots that a box meets: one block of the box more for each, because their blocks differ; at the end all blocks of the box, or a place that no root has.
use Rattle.std.proofs.Common.{◌≡◌, ℕ, suc, ◌+◌, ◌-◌, ◌*◌, ◌/◌, ◌<◌, ◌≤◌, Bool, true, false, ◌&&◌, ◌||◌, T, eqb, ltb, ◌⊎◌, length, sym, refl, ap, ◌∙◌, subst, inl, inr, ⊎_elim, mul-one, add-one, arith, ltb-false, ltb-true, eq-eqb, eqb-true}
use lib.Ieee.{Float, of_bits, binary32}
use Rattle.float.proofs.Literal.{zero_literal}
use Rattle.float.proofs.Plain.{up_plain}
use Rattle.layout.specs.Coordinates.{Coord, same_block}
use Rattle.sparse_grid.specs.Tables.{Grid, block_at, entry_at}
use Rattle.sparse_grid.specs.Validate.{earlier}
use Rattle.sparse_grid.specs.BiasedLaws.{eq_z_back}
use Rattle.sparse_grid.specs.Sound.{Sound}
use Rattle.sparse_grid.specs.Count.{sum, bit, split_lt, sum_same, sum_one, sum_most, sum_full, sum_gap, sum_nil, bit_most, bit_one, bit_none}
use Rattle.boxes.specs.declared.Span.{Span}
use Rattle.boxes.specs.Boxes.{greater}
use Rattle.boxes.specs.Most.{Most, Inside}
use Rattle.boxes.specs.RangeMax.{apart, Within, Full, entry_read, upper_read, read_at, corner, block_at_place, Clip, Met, wide, met, Covered, CoveredIn}
use Rattle.boxes.proofs.MostLaws.{most_set, most_join, most_flat, most_up, most_none, zero_beside}
use Rattle.boxes.proofs.RootReads.{missed, found}

-- ---- tests

same_corners : (a b c x y z : ℕ) → same_block (corner a b c) (corner x y z) ≡ (eqb a x && eqb b y && eqb c z)
same_corners a b c x y z = rw (eq_z_back 524288 a x, eq_z_back 524288 b y, eq_z_back 524288 c z)

and_true : (a b : Bool) → (a && b) ≡ true → (a ≡ true) × (b ≡ true)
and_true true b h = (refl, h)
and_true false b h = absurd (subst T (sym h) tt)

or_true_right : (a : Bool) → (a || true) ≡ true
or_true_right true = refl
or_true_right false = refl

or_false_right : (a : Bool) → (a || false) ≡ a
or_false_right true = refl
or_false_right false = refl

same_yes : (a b c x y z : ℕ) → same_block (corner a b c) (corner x y z) ≡ true → (a ≡ x) × (b ≡ y) × (c ≡ z)
same_yes a b c x y z h =
    let p = and_true (eqb a x && eqb b y) (eqb c z) (sym (same_corners a b c x y z) ∙ h) in
    let q = and_true (eqb a x) (eqb b y) p.0 in
    (eqb-true a x q.0, eqb-true b y q.1, eqb-true c z p.1)

same_at : (a b c : ℕ) → same_block (corner a b c) (corner a b c) ≡ true
same_at a b c = same_corners a b c a b c ∙ simp (eq-eqb a a refl, eq-eqb b b refl, eq-eqb c c refl)

same_no : (a b c x y z : ℕ) → ((a ≡ x) × (b ≡ y) × (c ≡ z) → ⊥) → same_block (corner a b c) (corner x y z) ≡ false
same_no a b c x y z n = go (same_block (corner a b c) (corner x y z)) refl
  where
    go : (t : Bool) → same_block (corner a b c) (corner x y z) ≡ t → t ≡ false
    go true e = absurd (n (same_yes a b c x y z e))
    go false e = refl

-- one root more
more : (g : Grid) (i : ℕ) (b : Coord) → earlier g (suc i) b ≡ (earlier g i b || same_block (block_at g i) b)
unfolding earlier
more g i b = refl

module _ (g : Grid) (i a b c x0 x1 y0 y1 z0 z1 : ℕ) (here : block_at g i ≡ corner a b c) where
  -- where the block is not, nothing changes
  elsewhere : (x y z : ℕ) → ((a ≡ x) × (b ≡ y) × (c ≡ z) → ⊥) → earlier g (suc i) (corner x y z) ≡ earlier g i (corner x y z)
  elsewhere x y z n =
      more g i (corner x y z)
      ∙ ap (λ (t : Bool). earlier g i (corner x y z) || t) (ap (λ (k : Coord). same_block k (corner x y z)) here ∙ same_no a b c x y z n)
      ∙ or_false_right (earlier g i (corner x y z))

  -- and where it is, there is a root now
  there : earlier g (suc i) (corner a b c) ≡ true
  there =
      more g i (corner a b c) ∙ ap (λ (t : Bool). earlier g i (corner a b c) || t) (ap (λ (k : Coord). same_block k (corner a b c)) here ∙ same_at a b c)
      ∙ or_true_right (earlier g i (corner a b c))

  -- a root that does not meet the box
  module _ (out : (x y z : ℕ) → x0 / 4096 ≤ x → x ≤ (x1 - 1) / 4096 → y0 / 4096 ≤ y → y ≤ (y1 - 1) / 4096
      → z0 / 4096 ≤ z → z ≤ (z1 - 1) / 4096 → (a ≡ x) × (b ≡ y) × (c ≡ z) → ⊥) where
    pub apart_most : {m : Float} → Most (read_at g) (Met g i x0 x1 y0 y1 z0 z1) m → Most (read_at g) (Met g (suc i) x0 x1 y0 y1 z0 z1) m
    apart_most =
        most_set (λ x y z s. record { inside = s.inside; block = same x y z s.inside ∙ s.block })
        (λ x y z s. record { inside = s.inside; block = sym (same x y z s.inside) ∙ s.block })
      where
        same : (x y z : ℕ) → Inside x0 x1 y0 y1 z0 z1 x y z → earlier g (suc i) (block_at_place x y z) ≡ earlier g i (block_at_place x y z)
        same x y z s =
            elsewhere (x / 4096) (y / 4096) (z / 4096)
            (out (x / 4096) (y / 4096) (z / 4096) (omega arith) (omega arith) (omega arith) (omega arith) (omega arith) (omega arith))

    pub apart_met : x0 < x1 → y0 < y1 → z0 < z1 → met g (suc i) x0 x1 y0 y1 z0 z1 ≡ met g i x0 x1 y0 y1 z0 z1
    unfolding met
    apart_met hx hy hz =
        sum_same (wide x0 x1) _ _ (λ p l. sum_same (wide y0 y1) _ _ (λ q k. sum_same (wide z0 z1) _ _ (λ r j.
        ap bit (elsewhere (x0 / 4096 + p) (y0 / 4096 + q) (z0 / 4096 + r)
        (out (x0 / 4096 + p) (y0 / 4096 + q) (z0 / 4096 + r) (omega arith) (omega arith) (omega arith) (omega arith) (omega arith) (omega arith))))))

  -- a root that meets it
  module _ (ax ex ay ey az ez : ℕ) (cx : Clip a x0 x1 ax ex) (cy : Clip b y0 y1 ay ey) (cz : Clip c z0 z1 az ez) where
    pub meets_most : {m v : Float} → Most (read_at g) (Met g i x0 x1 y0 y1 z0 z1) m → Most (read_at g) (Inside ax ex ay ey az ez) v
        → Most (read_at g) (Met g (suc i) x0 x1 y0 y1 z0 z1) (greater m v)
    meets_most = most_join old new both
      where
        old : (x y z : ℕ) → Met g i x0 x1 y0 y1 z0 z1 x y z → Met g (suc i) x0 x1 y0 y1 z0 z1 x y z
        old x y z s = record {
          inside = s.inside;
          block = more g i (block_at_place x y z) ∙ ap (λ (t : Bool). t || same_block (block_at g i) (block_at_place x y z)) s.block;
        }

        new : (x y z : ℕ) → Inside ax ex ay ey az ez x y z → Met g (suc i) x0 x1 y0 y1 z0 z1 x y z
        new x y z s =
            let px : x / 4096 ≡ a = omega arith in let py : y / 4096 ≡ b = omega arith in let pz : z / 4096 ≡ c = omega arith in
            record {
              inside =
                  record { x_low = omega arith; x_high = omega arith; y_low = omega arith; y_high = omega arith; z_low = omega arith; z_high = omega arith };
              block = rw (px, py, pz) there;
            }

        both : (x y z : ℕ) → Met g (suc i) x0 x1 y0 y1 z0 z1 x y z → Met g i x0 x1 y0 y1 z0 z1 x y z ⊎ Inside ax ex ay ey az ez x y z
        both x y z s = go (earlier g i (block_at_place x y z)) refl
          where
            go : (t : Bool) → earlier g i (block_at_place x y z) ≡ t → Met g i x0 x1 y0 y1 z0 z1 x y z ⊎ Inside ax ex ay ey az ez x y z
            go true e = inl (record { inside = s.inside; block = e })
            go false e =
                let w : same_block (block_at g i) (block_at_place x y z)
                ≡ true = sym (ap (λ (t : Bool). t || same_block (block_at g i) (block_at_place x y z)) e) ∙ sym (more g i (block_at_place x y z)) ∙ s.block in
                let q = same_yes a b c (x / 4096) (y / 4096) (z / 4096) (sym (ap (λ (k : Coord). same_block k (block_at_place x y z)) here) ∙ w) in
                let p = s.inside in
                let kx = cx.all x p.x_low p.x_high (sym q.0) in
                let ky = cy.all y p.y_low p.y_high (sym q.1) in
                let kz = cz.all z p.z_low p.z_high (sym q.2) in
                inr (record { x_low = kx.0; x_high = kx.1; y_low = ky.0; y_high = ky.1; z_low = kz.0; z_high = kz.1 })

    pub meets_met : earlier g i (block_at g i) ≡ false → ax < ex → ay < ey → az < ez
        → met g (suc i) x0 x1 y0 y1 z0 z1 ≡ met g i x0 x1 y0 y1 z0 z1 + 1
    unfolding met
    meets_met new hx hy hz =
        let sx = a - x0 / 4096 in let sy = b - y0 / 4096 in let sz = c - z0 / 4096 in
        let ex' : x0 / 4096 + sx ≡ a = omega arith in let ey' : y0 / 4096 + sy ≡ b = omega arith in let ez' : z0 / 4096 + sz ≡ c = omega arith in
        sum_one (wide x0 x1) _ _ sx (omega arith)
        (sum_one (wide y0 y1) _ _ sy (omega arith)
        (sum_one (wide z0 z1) _ _ sz (omega arith)
        (rw (ex', ey', ez') (ap bit there ∙ ap (λ (t : Bool). bit t + 1) (sym (ap (earlier g i) (sym here) ∙ new))))
        (λ r j n. ap bit (elsewhere _ _ _ (λ k. n (omega arith)))))
        (λ q j n. sum_same (wide z0 z1) _ _ (λ r l. ap bit (elsewhere _ _ _ (λ k. n (omega arith))))))
        (λ p j n. sum_same (wide y0 y1) _ _ (λ q l. sum_same (wide z0 z1) _ _ (λ r l. ap bit (elsewhere _ _ _ (λ k. n (omega arith))))))

-- ---- what the loop over the roots keeps

-- how many blocks the box has
abbrev pub blocks_in : ℕ → ℕ → ℕ → ℕ → ℕ → ℕ → ℕ
blocks_in x0 x1 y0 y1 z0 z1 = wide x0 x1 * (wide y0 y1 * wide z0 z1)

module _ (g : Grid) (x0 x1 y0 y1 z0 z1 : ℕ) where
  pub covered_none : Covered g 0 x0 x1 y0 y1 z0 z1 (of_bits binary32 0) 0
  unfolding earlier met
  covered_none = record {
    most =
        subst (λ (r : Float). Most (read_at g) (Met g 0 x0 x1 y0 y1 z0 z1) r) (sym (zero_literal binary32))
        (most_none (λ x y z s. absurd (subst T (sym s.block) tt)));
    count = sym (sum_nil (wide x0 x1) _ (λ a. sum_nil (wide y0 y1) _ (λ b. sum_nil (wide z0 z1) _ (λ c. refl))));
    small = omega arith;
  }

  plane : ℕ → ℕ → ℕ
  plane i a = sum (wide y0 y1) (λ b. sum (wide z0 z1) (λ c. bit (earlier g i (corner (x0 / 4096 + a) (y0 / 4096 + b) (z0 / 4096 + c)))))

  row : ℕ → ℕ → ℕ → ℕ
  row i a b = sum (wide z0 z1) (λ c. bit (earlier g i (corner (x0 / 4096 + a) (y0 / 4096 + b) (z0 / 4096 + c))))

  row_most : (i a b : ℕ) → row i a b ≤ wide z0 z1 * 1
  unfolding row
  row_most i a b = sum_most (wide z0 z1) 1 _ (λ c l. bit_most (earlier g i (corner (x0 / 4096 + a) (y0 / 4096 + b) (z0 / 4096 + c))))

  plane_most : (i a : ℕ) → plane i a ≤ wide y0 y1 * (wide z0 z1 * 1)
  unfolding plane row
  plane_most i a = sum_most (wide y0 y1) (wide z0 z1 * 1) _ (λ b l. row_most i a b)

  total : wide x0 x1 * (wide y0 y1 * (wide z0 z1 * 1)) ≡ blocks_in x0 x1 y0 y1 z0 z1
  total = ap (λ (n : ℕ). wide x0 x1 * (wide y0 y1 * n)) (mul-one (wide z0 z1))

  -- as many as there are: every block of the box has a root
  pub every : (i : ℕ) → blocks_in x0 x1 y0 y1 z0 z1 ≤ met g i x0 x1 y0 y1 z0 z1 → (x y z : ℕ) → Inside x0 x1 y0 y1 z0 z1 x y z
      → earlier g i (block_at_place x y z) ≡ true
  unfolding met plane row
  every i h x y z s =
      let p = x / 4096 - x0 / 4096 in let q = y / 4096 - y0 / 4096 in let r = z / 4096 - z0 / 4096 in
      let ep : x0 / 4096 + p ≡ x / 4096 = omega arith in
      let eq : y0 / 4096 + q ≡ y / 4096 = omega arith in
      let er : z0 / 4096 + r ≡ z / 4096 = omega arith in
      let a = sum_full (wide x0 x1) (wide y0 y1 * (wide z0 z1 * 1)) (plane i) (λ t l. plane_most i t)
      (subst (λ (n : ℕ). n ≤ met g i x0 x1 y0 y1 z0 z1) (sym total) h) p (omega arith) in
      let b = sum_full (wide y0 y1) (wide z0 z1 * 1) (row i p) (λ t l. row_most i p t) a q (omega arith) in
      let c = sum_full (wide z0 z1) 1 (λ c. bit (earlier g i (corner (x0 / 4096 + p) (y0 / 4096 + q) (z0 / 4096 + c))))
      (λ t l. bit_most (earlier g i (corner (x0 / 4096 + p) (y0 / 4096 + q) (z0 / 4096 + t)))) b r (omega arith) in
      rw (ep, eq, er) at (bit_one (earlier g i (corner (x0 / 4096 + p) (y0 / 4096 + q) (z0 / 4096 + r))) c)

  pub whole : (i : ℕ) {m : Float} → blocks_in x0 x1 y0 y1 z0 z1 ≤ met g i x0 x1 y0 y1 z0 z1 → Most (read_at g) (Met g i x0 x1 y0 y1 z0 z1) m
      → Most (read_at g) (Inside x0 x1 y0 y1 z0 z1) m
  whole i h = most_set (λ x y z s. s.inside) (λ x y z s. record { inside = s; block = every i h x y z s })

  -- fewer: some place of the box lies in a block that no root has
  start : (lo hi t : ℕ) → lo < hi → t < wide lo hi → (x : ℕ) × (lo ≤ x) × (x < hi) × (x / 4096 ≡ lo / 4096 + t)
  start lo hi t h l =
      split_lt lo ((lo / 4096 + t) * 4096) (λ k. ((lo / 4096 + t) * 4096, omega arith, omega arith, omega arith))
      (λ k. (lo, omega arith, omega arith, omega arith))

  pub some : (i : ℕ) → x0 < x1 → y0 < y1 → z0 < z1 → met g i x0 x1 y0 y1 z0 z1 < blocks_in x0 x1 y0 y1 z0 z1
      → (x : ℕ) × (y : ℕ) × (z : ℕ) × Inside x0 x1 y0 y1 z0 z1 x y z × (earlier g i (block_at_place x y z) ≡ false)
  unfolding met plane row
  some i hx hy hz h =
      let a = sum_gap (wide x0 x1) (wide y0 y1 * (wide z0 z1 * 1)) (plane i) (subst (λ (n : ℕ). met g i x0 x1 y0 y1 z0 z1 < n) (sym total) h) in
      let b = sum_gap (wide y0 y1) (wide z0 z1 * 1) (row i a.0) a.2 in
      let c = sum_gap (wide z0 z1) 1 (λ c. bit (earlier g i (corner (x0 / 4096 + a.0) (y0 / 4096 + b.0) (z0 / 4096 + c)))) b.2 in
      let x = start x0 x1 a.0 hx a.1 in let y = start y0 y1 b.0 hy b.1 in let z = start z0 z1 c.0 hz c.1 in (
        x.0,
        y.0,
        z.0,
        record { x_low = x.1; x_high = x.2; y_low = y.1; y_high = y.2; z_low = z.1; z_high = z.2 },
        rw (x.3, y.3, z.3) (bit_none (earlier g i (corner (x0 / 4096 + a.0) (y0 / 4096 + b.0) (z0 / 4096 + c.0))) c.2),
      )

  pub gap : Sound g → {m : Float} → x0 < x1 → y0 < y1 → z0 < z1 → met g (length g.root_links) x0 x1 y0 y1 z0 z1 < blocks_in x0 x1 y0 y1 z0 z1
      → Most (read_at g) (Met g (length g.root_links) x0 x1 y0 y1 z0 z1) m → Most (read_at g) (Inside x0 x1 y0 y1 z0 z1) (greater m g.background)
  gap s {m} hx hy hz h k =
      subst (λ (r : Float). Most (read_at g) (Inside x0 x1 y0 y1 z0 z1) r) (zero_beside (up_plain m (most_up k)) g.background)
      (most_join (λ x y z t. t.inside) (λ x y z t. t.0) side k
      (most_flat g.background (λ x y z t. missed g s x y z t.1) w.0 w.1 w.2 (w.3, w.4)))
    where
      w : (x : ℕ) × (y : ℕ) × (z : ℕ) × Inside x0 x1 y0 y1 z0 z1 x y z × (earlier g (length g.root_links) (block_at_place x y z) ≡ false)
      w = some (length g.root_links) hx hy hz h

      side : (x y z : ℕ) → Inside x0 x1 y0 y1 z0 z1 x y z
          → Met g (length g.root_links) x0 x1 y0 y1 z0 z1 x y z
          ⊎ (Inside x0 x1 y0 y1 z0 z1 x y z × (earlier g (length g.root_links) (block_at_place x y z) ≡ false))
      side x y z s = go (earlier g (length g.root_links) (block_at_place x y z)) refl
        where
          go : (b : Bool) → earlier g (length g.root_links) (block_at_place x y z) ≡ b
              → Met g (length g.root_links) x0 x1 y0 y1 z0 z1 x y z
              ⊎ (Inside x0 x1 y0 y1 z0 z1 x y z × (earlier g (length g.root_links) (block_at_place x y z) ≡ false))
          go true e = inl (record { inside = s; block = e })
          go false e = inr (s, e)

-- ---- one root

pub apart_out : (b lo hi : ℕ) → apart b lo hi ≡ true → (x : ℕ) → lo / 4096 ≤ x → x ≤ (hi - 1) / 4096 → b ≡ x → ⊥
apart_out b lo hi h x p q r = go (ltb b (lo / 4096)) refl h
  where
    go : (t : Bool) → ltb b (lo / 4096) ≡ t → (t || ltb ((hi - 1) / 4096) b) ≡ true → ⊥
    go true e h = omega (arith, ltb-true b (lo / 4096) e)
    go false e h = omega (arith, ltb-true ((hi - 1) / 4096) b h)

-- a block that is not apart from a span holds a part of it
pub clip_some : {b lo hi a e : ℕ} → lo < hi → apart b lo hi ≡ false → Clip b lo hi a e → a < e
clip_some {b} {lo} {hi} {a} {e} l h c = go (ltb b (lo / 4096)) refl h
  where
    some : lo / 4096 ≤ b → b ≤ (hi - 1) / 4096 → a < e
    some p q =
        split_lt lo (b * 4096)
        (λ k. let w = c.all (b * 4096) (omega arith) (omega arith) (omega arith) in omega (arith, w.0, w.1))
        (λ k. let w = c.all lo (omega arith) (omega arith) (omega arith) in omega (arith, w.0, w.1))

    go : (t : Bool) → ltb b (lo / 4096) ≡ t → (t || ltb ((hi - 1) / 4096) b) ≡ false → a < e
    go true e h = absurd (subst T h tt)
    go false e h = some (ltb-false b (lo / 4096) e) (ltb-false ((hi - 1) / 4096) b h)

module _ (g : Grid) (i a b c x0 x1 y0 y1 z0 z1 : ℕ) (here : block_at g i ≡ corner a b c) where
  -- a root that misses the box on some axis
  pub step_apart : {m : Float} {k : ℕ} → x0 < x1 → y0 < y1 → z0 < z1
      → (apart a x0 x1 ≡ true) ⊎ ((apart b y0 y1 ≡ true) ⊎ (apart c z0 z1 ≡ true))
      → Covered g i x0 x1 y0 y1 z0 z1 m k → Covered g (i + 1) x0 x1 y0 y1 z0 z1 m k
  step_apart {m} {k} hx hy hz o v =
      subst (λ (n : ℕ). Covered g n x0 x1 y0 y1 z0 z1 m k) (sym (add-one i))
      (record {
        most = apart_most g i a b c x0 x1 y0 y1 z0 z1 here out v.most;
        count = v.count ∙ sym (apart_met g i a b c x0 x1 y0 y1 z0 z1 here out hx hy hz);
        small = let h = v.small in omega arith;
      })
    where
      out : (x y z : ℕ) → x0 / 4096 ≤ x → x ≤ (x1 - 1) / 4096 → y0 / 4096 ≤ y → y ≤ (y1 - 1) / 4096
          → z0 / 4096 ≤ z → z ≤ (z1 - 1) / 4096 → (a ≡ x) × (b ≡ y) × (c ≡ z) → ⊥
      out x y z p q p' q' p'' q'' e =
          ⊎_elim (λ h. apart_out a x0 x1 h x p q e.0)
          (λ w. ⊎_elim (λ h. apart_out b y0 y1 h y p' q' e.1) (λ h. apart_out c z0 z1 h z p'' q'' e.2) w) o

module _ (g : Grid) (s : Sound g) (i a b c x0 x1 y0 y1 z0 z1 ax ex ay ey az ez : ℕ) (l : i < length g.root_links) (here : block_at g i ≡ corner a b c)
    (cx : Clip a x0 x1 ax ex) (cy : Clip b y0 y1 ay ey) (cz : Clip c z0 z1 az ez) where
  -- what is read in the part that it holds
  pub root_read : (x y z : ℕ) → Inside ax ex ay ey az ez x y z
      → read_at g x y z ≡ entry_read (entry_at g.root_links g.root_values i)
      (λ j. upper_read g.upper_links g.upper_values g.lower_links g.lower_values g.leaf_values j x y z)
  root_read x y z t =
      let px : x / 4096 ≡ a = omega arith in let py : y / 4096 ≡ b = omega arith in let pz : z / 4096 ≡ c = omega arith in
      let e : block_at_place x y z ≡ block_at g i = (λ i. corner (px i) (py i) (pz i)) ∙ sym here in
      found g s x y z i l (ap (earlier g i) e ∙ s.apart i l) (rw (px, py, pz) (ap (λ (k : Coord). same_block k (corner a b c)) here ∙ same_at a b c))

  pub step_meets : {m v r : Float} {k : ℕ} → ax < ex → ay < ey → az < ez → Covered g i x0 x1 y0 y1 z0 z1 m k
      → Most (read_at g) (Inside ax ex ay ey az ez) v → r ≡ greater m v → Covered g (i + 1) x0 x1 y0 y1 z0 z1 r (k + 1)
  step_meets {m} {v} {r} {k} hx hy hz o w e =
      subst (λ (n : ℕ). Covered g n x0 x1 y0 y1 z0 z1 r (k + 1)) (sym (add-one i))
      (record {
        most =
            subst (λ (q : Float). Most (read_at g) (Met g (suc i) x0 x1 y0 y1 z0 z1) q) (sym e)
            (meets_most g i a b c x0 x1 y0 y1 z0 z1 here ax ex ay ey az ez cx cy cz o.most w);
        count = ap (λ (n : ℕ). n + 1) o.count ∙ sym (meets_met g i a b c x0 x1 y0 y1 z0 z1 here ax ex ay ey az ez cx cy cz (s.apart i l) hx hy hz);
        small = let h = o.small in omega arith;
      })

-- ---- the end of the loop

-- all roots were gone through; a, b and c blocks lie along the three spans
pub record Ended (g : Grid) (x y z : Span) (m : Float) (k a b c : ℕ) : Type 0 where
  pub sound : Sound g
  pub full : Full x y z
  pub all : CoveredIn g (length g.root_links) x y z m k
  pub along_x_lem : a ≡ wide x.lo x.hi
  pub along_y_lem : b ≡ wide y.lo y.hi
  pub along_z_lem : c ≡ wide z.lo z.hi

module _ {g : Grid} {x y z : Span} {m : Float} {k a b c : ℕ} (o : Ended g x y z m k a b c) where
  as_many : a * (b * c) ≡ blocks_in x.lo x.hi y.lo y.hi z.lo z.hi
  as_many = rw (o.along_x_lem, o.along_y_lem, o.along_z_lem)

  pub ends_whole : {r : Float} → a * (b * c) ≤ k → r ≡ m → Most (read_at g) (Within x y z) r
  ends_whole h e =
      subst (λ (q : Float). Most (read_at g) (Within x y z) q) (sym e)
      (whole g x.lo x.hi y.lo y.hi z.lo z.hi (length g.root_links)
      (let e = o.all.count in let f = as_many in omega arith) o.all.most)

  pub ends_gap : {r : Float} → k < a * (b * c) → r ≡ greater m g.background → Most (read_at g) (Within x y z) r
  ends_gap h e =
      subst (λ (q : Float). Most (read_at g) (Within x y z) q) (sym e)
      (gap g x.lo x.hi y.lo y.hi z.lo z.hi o.sound o.full.x_some o.full.y_some o.full.z_some
      (let e = o.all.count in let f = as_many in omega arith) o.all.most)
