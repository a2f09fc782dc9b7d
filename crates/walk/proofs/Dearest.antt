-- No valid grid makes the walk of a cube of n coordinates a side read more than R^3 root entries, U^3 upper entries, L^3 lower entries and n^3 leaf
-- values. Assumes nothing.
use Rattle.std.specs.Prelude.{ℕ, zero, suc, ◌+◌, ◌-◌, ◌*◌, ◌/◌, ◌≤◌, ◌<◌, ◌≡◌, refl, ℤ, length}
use native.Mathlib.Nat.{mul-le-mul, mul-le-mul_left}
use Rattle.std.proofs.Common.{arith, sym, ap, ◌∙◌, subst}
use mathlib.Core.Bool.{true, false, cond}
use Rattle.layout.specs.Coordinates.{Coord, same_block}
use Rattle.sparse_grid.specs.Tables.{Grid, block_at}
use Rattle.sparse_grid.specs.Validate.{validate, earlier, block_in}
use Rattle.sparse_grid.specs.Sound.{Sound, sound}
use Rattle.sparse_grid.specs.Biased.{back, raised}
use Rattle.sparse_grid.proofs.Signs.{raised_below, eq_z_self}
use Rattle.sparse_grid.specs.Count.{split_lt}
use Rattle.boxes.proofs.RootReads.{back_raised, or_false}
use Rattle.walk.specs.Walk.{Zone, Price, touches, over_cells, root_steps, steps, R, U, L, cubed}
use Rattle.walk.specs.Sums.{sum3, sum_le, sum3_same, sum_places}
use Rattle.walk.proofs.Cells.{most, row_most}
use Rattle.walk.proofs.Bound.{one, row, root_top, root_le, four, uppers4096, lowers4096, values4096}
use Rattle.walk.proofs.Axes.{total, total_one, counts_uppers4096, counts_lowers4096, counts_values4096}

-- ---- roots of a valid grid have different places

raised_same : (a b : ℤ) → block_in a ≡ true → block_in b ≡ true → raised a ≡ raised b → a ≡ b
raised_same a b h k e = back_raised a h ∙ ap (back 524288) e ∙ sym (back_raised b k)

-- no root before i has the block: none of them has
not_earlier : (g : Grid) (i : ℕ) (b : Coord) → earlier g i b ≡ false → (j : ℕ) → j < i → same_block (block_at g j) b ≡ false
unfolding earlier
not_earlier g zero b h j l = absurd (native.Mathlib.Nat.not-suc-le-zero l)
not_earlier g (suc i) b h j l =
    let p = or_false (earlier g i b) (same_block (block_at g i) b) h in
    split_lt j i (λ k. not_earlier g i b p.0 j k)
    (λ k. let e : j ≡ i = omega arith in subst (λ (n : ℕ). same_block (block_at g n) b ≡ false) (sym e) p.1)

same_coord : (a b : Coord) → a.x ≡ b.x → a.y ≡ b.y → a.z ≡ b.z → same_block a b ≡ true
same_coord a b p q r = rw (p, q, r) (simp (eq_z_self b.x, eq_z_self b.y, eq_z_self b.z))

module _ (g : Grid) (s : Sound g) where
  place_x : ℕ → ℕ
  place_x i = raised (block_at g i).x

  place_y : ℕ → ℕ
  place_y i = raised (block_at g i).y

  place_z : ℕ → ℕ
  place_z i = raised (block_at g i).z

  placed : (i : ℕ) → i < length g.root_links → (place_x i < 1048576) × (place_y i < 1048576) × (place_z i < 1048576)
  unfolding place_x place_y place_z
  placed i l = let r = s.ranged i l in (raised_below (block_at g i).x r.0, raised_below (block_at g i).y r.1, raised_below (block_at g i).z r.2)

  differ : (i j : ℕ) → i < j → j < length g.root_links → (place_x i ≡ place_x j) × (place_y i ≡ place_y j) × (place_z i ≡ place_z j) → ⊥
  unfolding place_x place_y place_z
  differ i j l k e =
      let r = s.ranged i (omega arith) in let t = s.ranged j k in
      let w = same_coord (block_at g i) (block_at g j) (raised_same _ _ r.0 t.0 e.0) (raised_same _ _ r.1 t.1 e.1)
      (raised_same _ _ r.2 t.2 e.2) in
      mathlib.Core.Bool.true≢false (sym w ∙ not_earlier g j (block_at g j) (s.apart j k) i l)

  module _ (p : Price) (q : Zone) where
    top : ℕ → ℕ → ℕ → ℕ
    top x y z = cond (touches 4096 q x y z) (root_top p g q x y z) 0

    from_zero : sum3 1048576 (λ i j k. top (0 + i) (0 + j) (0 + k)) ≡ sum3 1048576 top
    from_zero = sum3_same 1048576 top (λ i j k. top (0 + i) (0 + j) (0 + k))
        (λ i j k l m o. let e : 0 + i ≡ i = omega arith in let f : 0 + j ≡ j = omega arith in let h : 0 + k ≡ k = omega arith in
        λ t. top (e t) (f t) (h t))

    -- the walk reads no more than it would in a grid that has every root and every child
    steps_le : steps p g q ≤ over_cells 1048576 4096 q 0 0 0 (λ t x y z. root_top p g q x y z)
    unfolding steps place_x place_y place_z over_cells top
    steps_le =
        let a = sum_le (length g.root_links) (λ i. root_steps p g q i (block_at g i)) (λ i. top (place_x i) (place_y i) (place_z i))
        (λ i l. root_le p g q i (block_at g i)) in
        let b = sum_places (length g.root_links) 1048576 place_x place_y place_z top placed differ in
        let c = from_zero in
        native.Mathlib.Nat.le_trans a (native.Mathlib.Nat.le_trans b (native.Mathlib.Nat.le_of_eq (sym c)))

-- ---- a cube

-- n coordinates a side, below 2^32
pub record Cube (n : ℕ) (q : Zone) : Type 0 where
  pub some : 1 ≤ n
  pub x : q.x1 ≡ q.x0 + n
  pub y : q.y1 ≡ q.y0 + n
  pub z : q.z1 ≡ q.z0 + n
  pub x_top : q.x1 ≤ 4294967296
  pub y_top : q.y1 ≤ 4294967296
  pub z_top : q.z1 ≤ 4294967296

-- one axis of n coordinates from lo on
module _ (lo hi n : ℕ) (h : 1 ≤ n) (e : hi ≡ lo + n) (t : hi ≤ 4294967296) where
  as_most : (s : ℕ) → 0 < s → (hi - 1) / s - lo / s + 1 ≤ most s n
  as_most s p = subst (λ (k : ℕ). (k - 1) / s - lo / s + 1 ≤ most s n) (sym e) (row_most s lo n p h)

  roots_le : row 1048576 4096 one lo hi 0 ≤ most 4096 n
  roots_le = let w = total_one 1048576 0 lo hi (omega arith) 4096 (omega arith) (omega arith) (omega arith) in let m = as_most 4096 (omega arith) in
      omega arith

  uppers_le : row 1048576 4096 uppers4096 lo hi 0 ≤ most 128 n
  uppers_le = let w = total 1048576 0 lo hi (omega arith) 32 128 uppers4096 counts_uppers4096 (omega arith) (omega arith) (omega arith) in
      let m = as_most 128 (omega arith) in omega arith

  lowers_le : row 1048576 4096 lowers4096 lo hi 0 ≤ most 8 n
  lowers_le = let w = total 1048576 0 lo hi (omega arith) 512 8 lowers4096 counts_lowers4096 (omega arith) (omega arith) (omega arith) in
      let m = as_most 8 (omega arith) in omega arith

  values_le : row 1048576 4096 values4096 lo hi 0 ≤ n
  values_le = let w = total 1048576 0 lo hi (omega arith) 4096 1 values4096 counts_values4096 (omega arith) (omega arith) (omega arith) in omega arith

prod_le : (a b c m : ℕ) → a ≤ m → b ≤ m → c ≤ m → a * b * c ≤ cubed m
prod_le a b c m h k l = mul-le-mul (mul-le-mul h k) l

-- what the dearest cube comes to
abbrev pub worst : Price → ℕ → ℕ
worst p n = p.root * cubed (R n) + p.upper * cubed (U n) + p.lower * cubed (L n) + p.leaf * cubed n

pub worst_is : (p : Price) (n : ℕ) → p.root * cubed (most 4096 n) + p.upper * cubed (most 128 n) + p.lower * cubed (most 8 n) + p.leaf * cubed n
    ≡ worst p n
worst_is p n =
    let r : most 4096 n ≡ R n = omega arith in let u : most 128 n ≡ U n = omega arith in let l : most 8 n ≡ L n = omega arith in
    λ i. p.root * cubed (r i) + p.upper * cubed (u i) + p.lower * cubed (l i) + p.leaf * cubed n

at_most : (p : Price) (g : Grid) (q : Zone) (n : ℕ) → validate g ≡ 0 → Cube n q
    → steps p g q ≤ p.root * cubed (most 4096 n) + p.upper * cubed (most 128 n) + p.lower * cubed (most 8 n) + p.leaf * cubed n
at_most p g q n v u =
    let a = steps_le g (sound g v) p q in
    let e = four p g q 1048576 0 0 0 in
    let r = mul-le-mul_left p.root
    (prod_le _ _ _ _ (roots_le q.x0 q.x1 n u.some u.x u.x_top) (roots_le q.y0 q.y1 n u.some u.y u.y_top)
    (roots_le q.z0 q.z1 n u.some u.z u.z_top)) in
    let o = mul-le-mul_left p.upper
    (prod_le _ _ _ _ (uppers_le q.x0 q.x1 n u.some u.x u.x_top) (uppers_le q.y0 q.y1 n u.some u.y u.y_top)
    (uppers_le q.z0 q.z1 n u.some u.z u.z_top)) in
    let l = mul-le-mul_left p.lower
    (prod_le _ _ _ _ (lowers_le q.x0 q.x1 n u.some u.x u.x_top) (lowers_le q.y0 q.y1 n u.some u.y u.y_top)
    (lowers_le q.z0 q.z1 n u.some u.z u.z_top)) in
    let f = mul-le-mul_left p.leaf
    (prod_le _ _ _ _ (values_le q.x0 q.x1 n u.some u.x u.x_top) (values_le q.y0 q.y1 n u.some u.y u.y_top)
    (values_le q.z0 q.z1 n u.some u.z u.z_top)) in
    omega arith

pub dearest : (p : Price) (g : Grid) (q : Zone) (n : ℕ) → validate g ≡ 0 → Cube n q → steps p g q ≤ worst p n
dearest p g q n v u = native.Mathlib.Nat.le_trans (at_most p g q n v u) (native.Mathlib.Nat.le_of_eq (worst_is p n))
