-- The walk below a node as its code goes: zones cut along cells, one entry for a part in one cell, and a block's part of a box. Assumes nothing.
use Rattle.std.specs.Prelude.{ℕ, ◌+◌, ◌-◌, ◌*◌, ◌/◌, ◌%◌, ◌≤◌, ◌<◌, max, min, ◌≡◌, refl, ◌⊎◌, Bool, true, false, not, ◌||◌, ltb, length}
use Rattle.std.proofs.Common.{mul-suc, mul-le-mul_left, arith, sym, ap, ◌∙◌, ⊎_elim, lt-ltb, le-ltb}
use Rattle.sparse_grid.specs.declared.Entry.{Entry}
use Rattle.sparse_grid.specs.declared.Entry.TheVariants.{Child, Tile}
use Rattle.sparse_grid.specs.Tables.{Grid, entry_at, block_at}
use Rattle.sparse_grid.specs.Biased.{raised}
use Rattle.sparse_grid.specs.Count.{sum, split_lt, sum_nil}
use Rattle.boxes.specs.RangeMax.{Clip, apart, lower_slot, upper_slot}
use Rattle.walk.specs.Walk.{Zone, Price, meets, below, over_cells, leaf_steps, lower_steps, upper_steps, steps}
use Rattle.walk.specs.Sums.{sum_grown}
use Rattle.walk.proofs.Cells.{hits, met, unmet}
use Rattle.walk.proofs.Bound.{values8, leaf_is}
use Rattle.walk.proofs.Axes.{counts_values8}
use Rattle.walk.specs.Gather.{Gathers, volume}
use Rattle.walk.proofs.Local.{Alike, AlikeIn, Local, cells_local, cells_gather, apart_x, apart_y, apart_z}

pub below_same : (e : Entry) (f h : ℕ → ℕ) → ((k : ℕ) → f k ≡ h k) → below e f ≡ below e h
below_same (Child k) f h s = s k
below_same (Tile v) f h s = refl

-- ---- leaves, lower nodes, upper nodes

module _ (p : Price) (k : ℕ) where
  abbrev leaf_part : Zone → ℕ → ℕ → ℕ → ℕ → ℕ
  leaf_part q t x y z = p.leaf

  pub leaf_gather : (a b c : ℕ) → Gathers 1 (λ q. leaf_steps p q k a b c)
  unfolding leaf_steps
  leaf_gather a b c = cells_gather 8 1 leaf_part (λ q r t x y z h. refl) (8 * a) (8 * b) (8 * c)

  pub leaf_local : (q r : Zone) (a b c : ℕ) → AlikeIn 8 q r a b c → leaf_steps p q k a b c ≡ leaf_steps p r k a b c
  unfolding leaf_steps
  leaf_local q r a b c h = cells_local 8 1 leaf_part (λ q r t x y z h. refl) q r a b c h

module _ (p : Price) (g : Grid) (k : ℕ) where
  abbrev lower_part : Zone → ℕ → ℕ → ℕ → ℕ → ℕ
  lower_part q t x y z = p.lower + below (entry_at g.lower_links g.lower_values (4096 * k + t)) (λ j. leaf_steps p q j x y z)

  lower_part_local : Local 8 lower_part
  lower_part_local q r t x y z h = ap
      (λ (n : ℕ). p.lower + n) (below_same (entry_at g.lower_links g.lower_values (4096 * k + t)) _ _ (λ j. leaf_local p j q r x y z h))

  pub lower_gather : (a b c : ℕ) → Gathers 8 (λ q. lower_steps p g q k a b c)
  unfolding lower_steps
  lower_gather a b c = cells_gather 16 8 lower_part lower_part_local (16 * a) (16 * b) (16 * c)

  pub lower_local : (q r : Zone) (a b c : ℕ) → AlikeIn 128 q r a b c → lower_steps p g q k a b c ≡ lower_steps p g r k a b c
  unfolding lower_steps
  lower_local q r a b c h = cells_local 16 8 lower_part lower_part_local q r a b c h

module _ (p : Price) (g : Grid) (k : ℕ) where
  abbrev upper_part : Zone → ℕ → ℕ → ℕ → ℕ → ℕ
  upper_part q t x y z = p.upper + below (entry_at g.upper_links g.upper_values (32768 * k + t)) (λ j. lower_steps p g q j x y z)

  upper_part_local : Local 128 upper_part
  upper_part_local q r t x y z h = ap
      (λ (n : ℕ). p.upper + n) (below_same (entry_at g.upper_links g.upper_values (32768 * k + t)) _ _ (λ j. lower_local p g j q r x y z h))

  pub upper_gather : (a b c : ℕ) → Gathers 128 (λ q. upper_steps p g q k a b c)
  unfolding upper_steps
  upper_gather a b c = cells_gather 32 128 upper_part upper_part_local (32 * a) (32 * b) (32 * c)

  pub upper_local : (q r : Zone) (a b c : ℕ) → AlikeIn 4096 q r a b c → upper_steps p g q k a b c ≡ upper_steps p g r k a b c
  unfolding upper_steps
  upper_local q r a b c h = cells_local 32 128 upper_part upper_part_local q r a b c h

-- ---- a zone in one cell

-- lo..hi has a coordinate, and all of them in cell t
pub record Within (s lo hi t : ℕ) : Type 0 where
  pub some : lo < hi
  pub low : s * t ≤ lo
  pub high : hi ≤ s * t + s

within_meets : (s lo hi t : ℕ) → Within s lo hi t → meets s lo hi t ≡ true
unfolding meets
within_meets s lo hi t w = lt-ltb (max lo (s * t)) (min hi (s * t + s)) (omega arith)

within_other : (s lo hi t u : ℕ) → Within s lo hi t → (u ≡ t → ⊥) → meets s lo hi u ≡ false
unfolding meets
within_other s lo hi t u w n =
    split_lt u t
    (λ d. let m = mul-suc s u in let o = mul-le-mul_left s d in le-ltb (max lo (s * u)) (min hi (s * u + s)) (omega arith))
    (λ d. let e : t < u = split_lt t u (λ h. h) (λ h. absurd (n (omega arith))) in let m = mul-suc s t in let o = mul-le-mul_left s e in
    le-ltb (max lo (s * u)) (min hi (s * u + s)) (omega arith))

pub cells_single : (n s : ℕ) (q : Zone) (a b c i j k : ℕ) (f : ℕ → ℕ → ℕ → ℕ → ℕ) → i < n → j < n → k < n
    → Within s q.x0 q.x1 (a + i) → Within s q.y0 q.y1 (b + j) → Within s q.z0 q.z1 (c + k)
    → over_cells n s q a b c f ≡ f ((i * n + j) * n + k) (a + i) (b + j) (c + k)
unfolding over_cells
cells_single n s q a b c i j k f li lj lk wx wy wz =
    only i li (only j lj (only k lk
    (rw (within_meets s q.x0 q.x1 (a + i) wx, within_meets s q.y0 q.y1 (b + j) wy, within_meets s q.z0 q.z1 (c + k) wz))
    (λ t d. apart_z s q (a + i) (b + j) (c + t) _ (within_other s q.z0 q.z1 (c + k) (c + t) wz (λ e. d (omega arith)))))
    (λ t d. sum_nil n _ (λ u. apart_y s q (a + i) (b + t) (c + u) _ (within_other s q.y0 q.y1 (b + j) (b + t) wy (λ e. d (omega arith))))))
    (λ t d. sum_nil n _ (λ v. sum_nil n _
    (λ u. apart_x s q (a + t) (b + v) (c + u) _ (within_other s q.x0 q.x1 (a + i) (a + t) wx (λ e. d (omega arith))))))
  where
    -- a sum with one term
    only : (s : ℕ) {h : ℕ → ℕ} {v : ℕ} → s < n → h s ≡ v → ((t : ℕ) → (t ≡ s → ⊥) → h t ≡ 0) → sum n h ≡ v
    only s {h} {v} l e o = let z = sum_nil n (λ t. 0) (λ t. refl) in let w = sum_grown n v (λ t. 0) h s l (omega arith) (λ t m d. o t d) in omega arith

-- x.lo / side, within a node's cells
slot8 : (lo hi : ℕ) → lo < hi → hi ≤ lo / 8 * 8 + 8 → Within 8 lo hi (16 * (lo / 128) + lo % 128 / 8)
slot8 lo hi h k = record { some = h; low = omega arith; high = omega arith }

slot128 : (lo hi : ℕ) → lo < hi → hi ≤ lo / 128 * 128 + 128 → Within 128 lo hi (32 * (lo / 4096) + lo % 4096 / 128)
slot128 lo hi h k = record { some = h; low = omega arith; high = omega arith }

-- spans with a coordinate, each in one cell of s
pub record InOne (s : ℕ) (q : Zone) : Type 0 where
  pub x_some : q.x0 < q.x1
  pub y_some : q.y0 < q.y1
  pub z_some : q.z0 < q.z1
  pub x : q.x1 ≤ q.x0 / s * s + s
  pub y : q.y1 ≤ q.y0 / s * s + s
  pub z : q.z1 ≤ q.z0 / s * s + s

-- the one entry that code reads for a part in one cell, and what is below it
pub lower_one : (p : Price) (g : Grid) (q : Zone) (k : ℕ) → InOne 8 q
    → lower_steps p g q k (q.x0 / 128) (q.y0 / 128) (q.z0 / 128)
    ≡ p.lower + below (entry_at g.lower_links g.lower_values (lower_slot k q.x0 q.y0 q.z0))
    (λ j. leaf_steps p q j (q.x0 / 8) (q.y0 / 8) (q.z0 / 8))
unfolding lower_steps
lower_one p g q k o =
    let e : 16 * (q.x0 / 128) + q.x0 % 128 / 8 ≡ q.x0 / 8 = omega arith in
    let f : 16 * (q.y0 / 128) + q.y0 % 128 / 8 ≡ q.y0 / 8 = omega arith in
    let h : 16 * (q.z0 / 128) + q.z0 % 128 / 8 ≡ q.z0 / 8 = omega arith in
    cells_single 16 8 q (16 * (q.x0 / 128)) (16 * (q.y0 / 128)) (16 * (q.z0 / 128)) (q.x0 % 128 / 8) (q.y0 % 128 / 8) (q.z0 % 128 / 8)
    (lower_part p g k q) (omega arith) (omega arith) (omega arith) (slot8 _ _ o.x_some o.x) (slot8 _ _ o.y_some o.y)
    (slot8 _ _ o.z_some o.z)
    ∙ rw (e, f, h)

pub upper_one : (p : Price) (g : Grid) (q : Zone) (k : ℕ) → InOne 128 q
    → upper_steps p g q k (q.x0 / 4096) (q.y0 / 4096) (q.z0 / 4096)
    ≡ p.upper + below (entry_at g.upper_links g.upper_values (upper_slot k q.x0 q.y0 q.z0))
    (λ j. lower_steps p g q j (q.x0 / 128) (q.y0 / 128) (q.z0 / 128))
unfolding upper_steps
upper_one p g q k o =
    let e : 32 * (q.x0 / 4096) + q.x0 % 4096 / 128 ≡ q.x0 / 128 = omega arith in
    let f : 32 * (q.y0 / 4096) + q.y0 % 4096 / 128 ≡ q.y0 / 128 = omega arith in
    let h : 32 * (q.z0 / 4096) + q.z0 % 4096 / 128 ≡ q.z0 / 128 = omega arith in
    cells_single 32 128 q (32 * (q.x0 / 4096)) (32 * (q.y0 / 4096)) (32 * (q.z0 / 4096)) (q.x0 % 4096 / 128) (q.y0 % 4096 / 128) (q.z0 % 4096 / 128)
    (upper_part p g k q) (omega arith) (omega arith) (omega arith) (slot128 _ _ o.x_some o.x) (slot128 _ _ o.y_some o.y)
    (slot128 _ _ o.z_some o.z)
    ∙ rw (e, f, h)

-- a leaf's values: as many as the part has coordinates
values_here : (lo hi : ℕ) → lo < hi → hi ≤ lo / 8 * 8 + 8 → values8 lo hi (lo / 8) ≡ hi - lo
values_here lo hi h k = counts_values8 lo hi (lo / 8) ∙ hits 1 lo hi (8 * (lo / 8)) 8 (omega arith) h (omega arith) (omega arith) ∙ omega arith

pub leaf_volume : (p : Price) (g : Grid) (q : Zone) (k : ℕ) → InOne 8 q → leaf_steps p q k (q.x0 / 8) (q.y0 / 8) (q.z0 / 8) ≡ p.leaf * volume q
leaf_volume p g q k o =
    leaf_is p g q k (q.x0 / 8) (q.y0 / 8) (q.z0 / 8)
    ∙ rw (values_here q.x0 q.x1 o.x_some o.x, values_here q.y0 q.y1 o.y_some o.y, values_here q.z0 q.z1 o.z_some o.z)

-- ---- a root's block

-- the code's test for a block and the definition's
pub apart_meets : (b lo hi : ℕ) → lo < hi → meets 4096 lo hi b ≡ not (apart b lo hi)
apart_meets b lo hi l =
    split_lt b (lo / 4096)
    (λ h. unmet 4096 lo hi b (omega arith) (λ e. omega arith) ∙ sym (ap (λ (t : Bool). not (t || ltb ((hi - 1) / 4096) b)) (lt-ltb b (lo / 4096) h)))
    (λ h. split_lt ((hi - 1) / 4096) b
    (λ k. unmet 4096 lo hi b (omega arith) (λ e. omega arith)
    ∙ sym (ap (λ (t : Bool). not (ltb b (lo / 4096) || t)) (lt-ltb ((hi - 1) / 4096) b k) ∙ ap not (or_true_right (ltb b (lo / 4096)))))
    (λ k. met 4096 lo hi b (omega arith) l h k
    ∙ sym (ap (λ (t : Bool). not (t || ltb ((hi - 1) / 4096) b)) (le-ltb b (lo / 4096) h) ∙ ap not (le-ltb ((hi - 1) / 4096) b k))))
  where
    or_true_right : (a : Bool) → (a || true) ≡ true
    or_true_right true = refl
    or_true_right false = refl

-- the part that the code clips is the one in the block
pub clip_alike : (b lo hi a e : ℕ) → lo < hi → lo / 4096 ≤ b → b ≤ (hi - 1) / 4096 → Clip b lo hi a e → Alike 4096 lo hi a e b
clip_alike b lo hi a e l h k c =
    let u = c.all (max lo (4096 * b)) (omega arith) (omega arith) (omega arith) in
    let v = c.all (min hi (4096 * b + 4096) - 1) (omega arith) (omega arith) (omega arith) in
    record { low = omega (arith, c.low, c.block_low, u.0, u.1); high = omega (arith, c.high, c.block_high, v.0, v.1) }

-- ---- an empty box: nothing is read

apart_empty : (s lo hi t : ℕ) → hi ≤ lo → meets s lo hi t ≡ false
unfolding meets
apart_empty s lo hi t h = le-ltb (max lo (s * t)) (min hi (s * t + s)) (omega arith)

pub empty_steps : (p : Price) (g : Grid) (q : Zone) → (q.x1 ≤ q.x0) ⊎ ((q.y1 ≤ q.y0) ⊎ (q.z1 ≤ q.z0)) → steps p g q ≡ 0
unfolding steps
empty_steps p g q h =
    sum_nil (length g.root_links) _ (λ i.
    let b = block_at g i in
    ⊎_elim (λ x. apart_x 4096 q (raised b.x) (raised b.y) (raised b.z) _ (apart_empty 4096 q.x0 q.x1 (raised b.x) x))
    (λ w. ⊎_elim (λ y. apart_y 4096 q (raised b.x) (raised b.y) (raised b.z) _ (apart_empty 4096 q.y0 q.y1 (raised b.y) y))
    (λ z. apart_z 4096 q (raised b.x) (raised b.y) (raised b.z) _ (apart_empty 4096 q.z0 q.z1 (raised b.z) z)) w) h)
