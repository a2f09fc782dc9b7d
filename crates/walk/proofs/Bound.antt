-- What the walk reads of a node, at most: sums over cells, and products of the three axes. Assumes nothing.
use Rattle.std.specs.Prelude.{ℕ, zero, suc, ◌+◌, ◌*◌, ◌≤◌, ◌<◌, ◌≡◌, refl, Bool, true, false, ◌&&◌, get_or, Float}
use native.Mathlib.Nat.{zero-mul, mul-zero, one-mul, mul-one}
use native.Mathlib.Omega.{arith}
use Rattle.std.proofs.Math.Path.{sym, ap}
use Rattle.std.proofs.Common.{◌∙◌}
use Rattle.std.proofs.Math.Bool.{cond}
use Rattle.float.specs.Zero.{+0}
use Rattle.layout.specs.Coordinates.{Coord}
use Rattle.sparse_grid.specs.Tables.{Grid, entry_of, entry_at}
use Rattle.sparse_grid.specs.Biased.{raised}
use Rattle.sparse_grid.specs.Count.{sum, bit}
use Rattle.walk.specs.Walk.{Zone, Price, meets, touches, below, over_cells, leaf_steps, lower_steps, upper_steps, root_steps}
use Rattle.walk.specs.Sums.{sum3_same, sum3_le, sum3_add, sum3_left, sum3_product}
use Rattle.walk.proofs.Cells.{hit}

-- ---- three axes at a time: an axis function takes the two ends and a cell

abbrev pub Axial : Type 0
Axial = ℕ → ℕ → ℕ → ℕ

abbrev pub one : Axial
one lo hi t = 1

abbrev pub prod : Zone → Axial → ℕ → ℕ → ℕ → ℕ
prod q f a b c = f q.x0 q.x1 a * f q.y0 q.y1 b * f q.z0 q.z1 c

-- over the n cells of s coordinates from a on that lo..hi meets
unfoldable pub row : ℕ → ℕ → Axial → Axial
row n s f lo hi a = sum n (λ i. hit s lo hi (a + i) * f lo hi (a + i))

-- over those in cell t
abbrev pub inside : ℕ → ℕ → Axial → Axial
inside n s f lo hi t = row n s f lo hi (n * t)

gate : (A B C : Bool) (w u v t : ℕ) → cond (A && B && C) (w * (u * v * t)) 0 ≡ w * (bit A * u * (bit B * v) * (bit C * t))
gate true true true w u v t = simp one-mul
gate true true false w u v t = simp (zero-mul, mul-zero)
gate true false true w u v t = simp (zero-mul, mul-zero)
gate true false false w u v t = simp (zero-mul, mul-zero)
gate false true true w u v t = simp (zero-mul, mul-zero)
gate false true false w u v t = simp (zero-mul, mul-zero)
gate false false true w u v t = simp (zero-mul, mul-zero)
gate false false false w u v t = simp (zero-mul, mul-zero)

cond_le : (b : Bool) (u v : ℕ) → u ≤ v → cond b u 0 ≤ cond b v 0
cond_le true u v h = h
cond_le false u v h = omega arith

cond_add : (b : Bool) (u v : ℕ) → cond b (u + v) 0 ≡ cond b u 0 + cond b v 0
cond_add true u v = refl
cond_add false u v = refl

module _ (n s : ℕ) (q : Zone) (a b c : ℕ) where
  pub cells_le : (f g : ℕ → ℕ → ℕ → ℕ → ℕ)
      → ((i j k x y z : ℕ) → i < n → j < n → k < n → f ((i * n + j) * n + k) x y z ≤ g ((i * n + j) * n + k) x y z)
      → over_cells n s q a b c f ≤ over_cells n s q a b c g
  unfolding over_cells
  cells_le f g h = sum3_le n _ _ (λ i j k l m o. cond_le (touches s q (a + i) (b + j) (c + k)) _ _ (h i j k (a + i) (b + j) (c + k) l m o))

  pub cells_same : (f g : ℕ → ℕ → ℕ → ℕ → ℕ)
      → ((i j k x y z : ℕ) → i < n → j < n → k < n → g ((i * n + j) * n + k) x y z ≡ f ((i * n + j) * n + k) x y z)
      → over_cells n s q a b c g ≡ over_cells n s q a b c f
  unfolding over_cells
  cells_same f g h = sum3_same n _ _
      (λ i j k l m o. ap (λ (v : ℕ). cond (touches s q (a + i) (b + j) (c + k)) v 0) (h i j k (a + i) (b + j) (c + k) l m o))

  pub cells_add : (f g : ℕ → ℕ → ℕ → ℕ → ℕ)
      → over_cells n s q a b c (λ t x y z. f t x y z + g t x y z) ≡ over_cells n s q a b c f + over_cells n s q a b c g
  unfolding over_cells
  cells_add f g =
      sum3_same n _ _ (λ i j k l m o. cond_add (touches s q (a + i) (b + j) (c + k)) (f ((i * n + j) * n + k) (a + i) (b + j) (c + k))
      (g ((i * n + j) * n + k) (a + i) (b + j) (c + k)))
      ∙ sum3_add n _ _

  -- what is a product of the three axes comes to one
  pub cells_prod : (w : ℕ) (f : Axial) → over_cells n s q a b c (λ t x y z. w * prod q f x y z) ≡ w * prod q (row n s f) a b c
  unfolding over_cells row
  cells_prod w f =
      sum3_same n _ _ (λ i j k l m o. gate (meets s q.x0 q.x1 (a + i)) (meets s q.y0 q.y1 (b + j)) (meets s q.z0 q.z1 (c + k)) w
      (f q.x0 q.x1 (a + i)) (f q.y0 q.y1 (b + j)) (f q.z0 q.z1 (c + k)))
      ∙ sum3_left n w (λ i j k. hit s q.x0 q.x1 (a + i) * f q.x0 q.x1 (a + i) * (hit s q.y0 q.y1 (b + j) * f q.y0 q.y1 (b + j)) *
      (hit s q.z0 q.z1 (c + k) * f q.z0 q.z1 (c + k)))
      ∙ ap (λ (v : ℕ). w * v) (sum3_product n (λ i. hit s q.x0 q.x1 (a + i) * f q.x0 q.x1 (a + i))
      (λ j. hit s q.y0 q.y1 (b + j) * f q.y0 q.y1 (b + j)) (λ k. hit s q.z0 q.z1 (c + k) * f q.z0 q.z1 (c + k)))

-- ---- what a node comes to at most

-- below a root, an upper entry, a lower entry: the values, the lower entries, the upper entries along one axis
abbrev pub values8 : Axial
values8 = inside 8 1 one

abbrev pub values128 : Axial
values128 = inside 16 8 values8

abbrev pub values4096 : Axial
values4096 = inside 32 128 values128

abbrev pub lowers128 : Axial
lowers128 = inside 16 8 one

abbrev pub lowers4096 : Axial
lowers4096 = inside 32 128 lowers128

abbrev pub uppers4096 : Axial
uppers4096 = inside 32 128 one

below_le : (l : ℕ) (v : Float) (f : ℕ → ℕ) (m : ℕ) → ((k : ℕ) → f k ≤ m) → below (entry_of l v) f ≤ m
below_le zero v f m h = omega arith
below_le (suc k) v f m h = h k

module _ (p : Price) (g : Grid) (q : Zone) where
  abbrev pub lower_top : ℕ → ℕ → ℕ → ℕ
  lower_top a b c = p.lower * prod q lowers128 a b c + p.leaf * prod q values128 a b c

  abbrev pub upper_top : ℕ → ℕ → ℕ → ℕ
  upper_top a b c = p.upper * prod q uppers4096 a b c + p.lower * prod q lowers4096 a b c + p.leaf * prod q values4096 a b c

  abbrev pub root_top : ℕ → ℕ → ℕ → ℕ
  root_top a b c = p.root * prod q one a b c + p.upper * prod q uppers4096 a b c + p.lower * prod q lowers4096 a b c + p.leaf * prod q values4096 a b c

  pub leaf_is : (k a b c : ℕ) → leaf_steps p q k a b c ≡ p.leaf * prod q values8 a b c
  unfolding leaf_steps
  leaf_is k a b c =
      cells_same 8 1 q (8 * a) (8 * b) (8 * c) (λ t x y z. p.leaf * prod q one x y z) (λ t x y z. p.leaf) (λ i j k x y z l m o. sym (mul-one p.leaf))
      ∙ cells_prod 8 1 q (8 * a) (8 * b) (8 * c) p.leaf one

  -- a price for each entry and what is below it
  pub two : (n s : ℕ) (a b c w v : ℕ) (f : Axial)
      → over_cells n s q a b c (λ t x y z. w + v * prod q f x y z) ≡ w * prod q (row n s one) a b c + v * prod q (row n s f) a b c
  two n s a b c w v f =
      cells_add n s q a b c (λ t x y z. w) (λ t x y z. v * prod q f x y z)
      ∙ ap (λ (k : ℕ). k + over_cells n s q a b c (λ t x y z. v * prod q f x y z))
      (cells_same n s q a b c (λ t x y z. w * prod q one x y z) (λ t x y z. w) (λ i j k x y z l m o. sym (mul-one w)) ∙ cells_prod n s q a b c w one)
      ∙ ap (λ (k : ℕ). w * prod q (row n s one) a b c + k) (cells_prod n s q a b c v f)

  pub three : (n s : ℕ) (a b c w v u : ℕ) (f h : Axial)
      → over_cells n s q a b c (λ t x y z. w + (v * prod q f x y z + u * prod q h x y z))
      ≡ w * prod q (row n s one) a b c + v * prod q (row n s f) a b c + u * prod q (row n s h) a b c
  three n s a b c w v u f h =
      cells_same n s q a b c (λ t x y z. w + v * prod q f x y z + u * prod q h x y z) (λ t x y z. w + (v * prod q f x y z + u * prod q h x y z))
      (λ i j k x y z l m o. omega arith)
      ∙ cells_add n s q a b c (λ t x y z. w + v * prod q f x y z) (λ t x y z. u * prod q h x y z)
      ∙ ap (λ (k : ℕ). k + over_cells n s q a b c (λ t x y z. u * prod q h x y z)) (two n s a b c w v f)
      ∙ ap (λ (k : ℕ). w * prod q (row n s one) a b c + v * prod q (row n s f) a b c + k) (cells_prod n s q a b c u h)

  pub lower_le : (k a b c : ℕ) → lower_steps p g q k a b c ≤ lower_top a b c
  unfolding lower_steps
  lower_le k a b c =
      let h = cells_le 16 8 q (16 * a) (16 * b) (16 * c)
      (λ s x y z. p.lower + below (entry_at g.lower_links g.lower_values (4096 * k + s)) (λ j. leaf_steps p q j x y z))
      (λ s x y z. p.lower + p.leaf * prod q values8 x y z)
      (λ i j r x y z l m o. let u = below_le (get_or g.lower_links (4096 * k + ((i * 16 + j) * 16 + r)) 0)
      (get_or g.lower_values (4096 * k + ((i * 16 + j) * 16 + r)) +0) (λ j. leaf_steps p q j x y z) (p.leaf * prod q values8 x y z)
      (λ e. native.Mathlib.Nat.le_of_eq (leaf_is e x y z)) in omega arith) in
      let e = two 16 8 (16 * a) (16 * b) (16 * c) p.lower p.leaf values8 in omega arith

  pub upper_le : (k a b c : ℕ) → upper_steps p g q k a b c ≤ upper_top a b c
  unfolding upper_steps
  upper_le k a b c =
      let h = cells_le 32 128 q (32 * a) (32 * b) (32 * c)
      (λ s x y z. p.upper + below (entry_at g.upper_links g.upper_values (32768 * k + s)) (λ j. lower_steps p g q j x y z))
      (λ s x y z. p.upper + lower_top x y z)
      (λ i j r x y z l m o. let u = below_le (get_or g.upper_links (32768 * k + ((i * 32 + j) * 32 + r)) 0)
      (get_or g.upper_values (32768 * k + ((i * 32 + j) * 32 + r)) +0) (λ j. lower_steps p g q j x y z) (lower_top x y z) (λ e. lower_le e x y z) in
      omega arith) in
      let e = three 32 128 (32 * a) (32 * b) (32 * c) p.upper p.lower p.leaf lowers128 values128 in omega arith

  pub root_le : (i : ℕ) (b : Coord)
      → root_steps p g q i b ≤ cond (touches 4096 q (raised b.x) (raised b.y) (raised b.z))
      (root_top (raised b.x) (raised b.y) (raised b.z)) 0
  root_le i b =
      let u = below_le (get_or g.root_links i 0) (get_or g.root_values i +0)
      (λ k. upper_steps p g q k (raised b.x) (raised b.y) (raised b.z)) (upper_top (raised b.x) (raised b.y) (raised b.z))
      (λ k. upper_le k (raised b.x) (raised b.y) (raised b.z)) in
      let m = mul-one p.root in
      cond_le (touches 4096 q (raised b.x) (raised b.y) (raised b.z)) _ _ (omega arith)

  -- and with all of it over m cells a side from (a, b, c) on
  pub four : (m : ℕ) (a b c : ℕ) → over_cells m 4096 q a b c (λ t x y z. root_top x y z)
      ≡ p.root * prod q (row m 4096 one) a b c + p.upper * prod q (row m 4096 uppers4096) a b c + p.lower * prod q
      (row m 4096 lowers4096) a b c + p.leaf * prod q (row m 4096 values4096) a b c
  four m a b c =
      cells_add m 4096 q a b c (λ t x y z. p.root * prod q one x y z + p.upper * prod q uppers4096 x y z + p.lower * prod q lowers4096 x y z)
      (λ t x y z. p.leaf * prod q values4096 x y z)
      ∙ ap (λ (k : ℕ). k + over_cells m 4096 q a b c (λ t x y z. p.leaf * prod q values4096 x y z))
      (cells_add m 4096 q a b c (λ t x y z. p.root * prod q one x y z + p.upper * prod q uppers4096 x y z) (λ t x y z. p.lower * prod q lowers4096 x y z)
      ∙ ap (λ (k : ℕ). k + over_cells m 4096 q a b c (λ t x y z. p.lower * prod q lowers4096 x y z))
      (cells_add m 4096 q a b c (λ t x y z. p.root * prod q one x y z) (λ t x y z. p.upper * prod q uppers4096 x y z)))
      ∙ rw (
        cells_prod m 4096 q a b c p.root one,
        cells_prod m 4096 q a b c p.upper uppers4096,
        cells_prod m 4096 q a b c
            p.lower lowers4096,
        cells_prod m 4096 q a b c p.leaf values4096,
      )
