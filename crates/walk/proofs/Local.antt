-- What the walk reads of a node turns on the zone's part in the node's cell alone, adds up along cuts at the borders of its cells, and in a single
-- cell is one entry. Assumes nothing.
use Rattle.std.specs.Prelude.{ℕ, ◌+◌, ◌*◌, ◌≤◌, ◌<◌, max, min, ◌≡◌, ltb}
use Rattle.std.proofs.Common.{mul_comm, mul_assoc, mul-add, sym, ap, ◌∙◌}
use Rattle.std.proofs.Math.Nat.{mul-suc, mul-le-mul_left}
use native.Mathlib.Omega.{arith}
use Rattle.std.proofs.Math.Path.{refl}
use mathlib.Core.Bool.{Bool, true, false, cond, ◌&&◌}
use borrow.Author.Tests.{le-ltb}
use Rattle.sparse_grid.specs.Count.{split_lt, sum_nil}
use Rattle.walk.specs.Walk.{Zone, meets, touches, over_cells}
use Rattle.walk.specs.Sums.{sum3_same, sum3_add}
use Rattle.walk.specs.Gather.{along_x, along_y, along_z, Gathers}

-- ---- two zones with one part in a cell

pub record Alike (s lo hi lo' hi' t : ℕ) : Type 0 where
  pub low : max lo (s * t) ≡ max lo' (s * t)
  pub high : min hi (s * t + s) ≡ min hi' (s * t + s)

pub record AlikeIn (s : ℕ) (q r : Zone) (a b c : ℕ) : Type 0 where
  pub x : Alike s q.x0 q.x1 r.x0 r.x1 a
  pub y : Alike s q.y0 q.y1 r.y0 r.y1 b
  pub z : Alike s q.z0 q.z1 r.z0 r.z1 c

same : {s lo hi t : ℕ} → Alike s lo hi lo hi t
same = record { low = refl; high = refl }

meets_alike : {s lo hi lo' hi' t : ℕ} → Alike s lo hi lo' hi' t → meets s lo hi t ≡ meets s lo' hi' t
unfolding meets
meets_alike h = λ i. ltb (h.low i) (h.high i)

touches_alike : {s a b c : ℕ} (q r : Zone) → AlikeIn s q r a b c → touches s q a b c ≡ touches s r a b c
touches_alike q r h = λ i. meets_alike h.x i && meets_alike h.y i && meets_alike h.z i

-- alike in a cell, so in each of its n cells
finer : (n s lo hi lo' hi' t i : ℕ) → Alike (n * s) lo hi lo' hi' t → i < n → Alike s lo hi lo' hi' (n * t + i)
finer n s lo hi lo' hi' t i h l =
    let a = mul-add s (n * t) i in
    let b : s * (n * t) ≡ n * s * t = sym (mul_assoc s n t) ∙ ap (λ (w : ℕ). w * t) (mul_comm s n) in
    let c = mul-suc s i in let d = mul-le-mul_left s l in let e = mul_comm s n in
    let f = h.low in let g = h.high in
    record { low = omega arith; high = omega arith }

-- ---- a cell that misses the zone on one axis

off_x : (A B C : Bool) (v : ℕ) → A ≡ false → cond (A && B && C) v 0 ≡ 0
off_x true B C v e = absurd (mathlib.Core.Bool.true≢false e)
off_x false B C v e = refl

off_y : (A B C : Bool) (v : ℕ) → B ≡ false → cond (A && B && C) v 0 ≡ 0
off_y true true C v e = absurd (mathlib.Core.Bool.true≢false e)
off_y true false C v e = refl
off_y false B C v e = refl

off_z : (A B C : Bool) (v : ℕ) → C ≡ false → cond (A && B && C) v 0 ≡ 0
off_z A B true v e = absurd (mathlib.Core.Bool.true≢false e)
off_z true true false v e = refl
off_z true false false v e = refl
off_z false B false v e = refl

module _ (s : ℕ) (q : Zone) (X Y Z v : ℕ) where
  pub apart_x : meets s q.x0 q.x1 X ≡ false → cond (touches s q X Y Z) v 0 ≡ 0
  apart_x = off_x (meets s q.x0 q.x1 X) (meets s q.y0 q.y1 Y) (meets s q.z0 q.z1 Z) v

  pub apart_y : meets s q.y0 q.y1 Y ≡ false → cond (touches s q X Y Z) v 0 ≡ 0
  apart_y = off_y (meets s q.x0 q.x1 X) (meets s q.y0 q.y1 Y) (meets s q.z0 q.z1 Z) v

  pub apart_z : meets s q.z0 q.z1 Z ≡ false → cond (touches s q X Y Z) v 0 ≡ 0
  apart_z = off_z (meets s q.x0 q.x1 X) (meets s q.y0 q.y1 Y) (meets s q.z0 q.z1 Z) v

-- ---- what turns on the part in the cell alone

abbrev pub Local : ℕ → (Zone → ℕ → ℕ → ℕ → ℕ → ℕ) → Type 0
Local s f = (q r : Zone) (t x y z : ℕ) → AlikeIn s q r x y z → f q t x y z ≡ f r t x y z

module _ (n s : ℕ) (f : Zone → ℕ → ℕ → ℕ → ℕ → ℕ) (l : Local s f) where
  term : Zone → ℕ → ℕ → ℕ → ℕ → ℕ
  term q t x y z = cond (touches s q x y z) (f q t x y z) 0

  term_alike : (q r : Zone) (t x y z : ℕ) → AlikeIn s q r x y z → term q t x y z ≡ term r t x y z
  unfolding term
  term_alike q r t x y z h = λ i. cond (touches_alike q r h i) (l q r t x y z h i) 0

  pub cells_local : (q r : Zone) (a b c : ℕ) → AlikeIn (n * s) q r a b c
      → over_cells n s q (n * a) (n * b) (n * c) (f q) ≡ over_cells n s r (n * a) (n * b) (n * c) (f r)
  unfolding over_cells term
  cells_local q r a b c h =
      sum3_same n _ _ (λ i j k u v w. term_alike q r ((i * n + j) * n + k) (n * a + i) (n * b + j) (n * c + k)
      (record { x = finer n s _ _ _ _ a i h.x u; y = finer n s _ _ _ _ b j h.y v; z = finer n s _ _ _ _ c k h.z w }))

  -- no cell meets an empty zone
  empty_meets : (a t : ℕ) → meets s a a t ≡ false
  unfolding meets
  empty_meets a t = le-ltb (max a (s * t)) (min a (s * t + s)) (omega arith)

  term_off_x : (q : Zone) (u X Y Z : ℕ) → meets s q.x0 q.x1 X ≡ false → term q u X Y Z ≡ 0
  unfolding term
  term_off_x q u X Y Z = apart_x s q X Y Z (f q u X Y Z)

  term_off_y : (q : Zone) (u X Y Z : ℕ) → meets s q.y0 q.y1 Y ≡ false → term q u X Y Z ≡ 0
  unfolding term
  term_off_y q u X Y Z = apart_y s q X Y Z (f q u X Y Z)

  term_off_z : (q : Zone) (u X Y Z : ℕ) → meets s q.z0 q.z1 Z ≡ false → term q u X Y Z ≡ 0
  unfolding term
  term_off_z q u X Y Z = apart_z s q X Y Z (f q u X Y Z)

  -- a cell lies on one side of a cut
  record Left (a t e X : ℕ) : Type 0 where
    alike : Alike s a e a (s * t) X
    off : meets s (s * t) e X ≡ false

  record Right (a t e X : ℕ) : Type 0 where
    alike : Alike s a e (s * t) e X
    off : meets s a (s * t) X ≡ false

  left : (a t e X : ℕ) → a ≤ s * t → s * t ≤ e → X < t → Left a t e X
  unfolding meets
  left a t e X h k d =
      let m = mul-suc s X in let o = mul-le-mul_left s d in
      record { alike = record { low = refl; high = omega arith }; off = le-ltb (max (s * t) (s * X)) (min e (s * X + s)) (omega arith) }

  right : (a t e X : ℕ) → a ≤ s * t → s * t ≤ e → t ≤ X → Right a t e X
  unfolding meets
  right a t e X h k d =
      let o = mul-le-mul_left s d in
      record { alike = record { low = omega arith; high = refl }; off = le-ltb (max a (s * X)) (min (s * t) (s * X + s)) (omega arith) }

  module _ (q : Zone) (a t e : ℕ) (h : a ≤ s * t) (k : s * t ≤ e) (u X Y Z : ℕ) where
    split_x : term (along_x q a e) u X Y Z ≡ term (along_x q a (s * t)) u X Y Z + term (along_x q (s * t) e) u X Y Z
    split_x = split_lt X t
        (λ d. let w = left a t e X h k d in let m = term_alike (along_x q a e) (along_x q a (s * t)) u X Y Z (record { x = w.alike; y = same; z = same }) in
        let o = term_off_x (along_x q (s * t) e) u X Y Z w.off in omega arith)
        (λ d. let w = right a t e X h k d in let m = term_alike (along_x q a e) (along_x q (s * t) e) u X Y Z (record { x = w.alike; y = same; z = same }) in
        let o = term_off_x (along_x q a (s * t)) u X Y Z w.off in omega arith)

    split_y : term (along_y q a e) u X Y Z ≡ term (along_y q a (s * t)) u X Y Z + term (along_y q (s * t) e) u X Y Z
    split_y = split_lt Y t
        (λ d. let w = left a t e Y h k d in let m = term_alike (along_y q a e) (along_y q a (s * t)) u X Y Z (record { x = same; y = w.alike; z = same }) in
        let o = term_off_y (along_y q (s * t) e) u X Y Z w.off in omega arith)
        (λ d. let w = right a t e Y h k d in let m = term_alike (along_y q a e) (along_y q (s * t) e) u X Y Z (record { x = same; y = w.alike; z = same }) in
        let o = term_off_y (along_y q a (s * t)) u X Y Z w.off in omega arith)

    split_z : term (along_z q a e) u X Y Z ≡ term (along_z q a (s * t)) u X Y Z + term (along_z q (s * t) e) u X Y Z
    split_z = split_lt Z t
        (λ d. let w = left a t e Z h k d in let m = term_alike (along_z q a e) (along_z q a (s * t)) u X Y Z (record { x = same; y = same; z = w.alike }) in
        let o = term_off_z (along_z q (s * t) e) u X Y Z w.off in omega arith)
        (λ d. let w = right a t e Z h k d in let m = term_alike (along_z q a e) (along_z q (s * t) e) u X Y Z (record { x = same; y = same; z = w.alike }) in
        let o = term_off_z (along_z q a (s * t)) u X Y Z w.off in omega arith)

  none : (q : Zone) (a b c : ℕ) → ((u X Y Z : ℕ) → term q u X Y Z ≡ 0) → over_cells n s q a b c (f q) ≡ 0
  unfolding over_cells term
  none q a b c h = sum_nil n _ (λ i. sum_nil n _ (λ j. sum_nil n _ (λ k. h ((i * n + j) * n + k) (a + i) (b + j) (c + k))))

  parted : (q r o : Zone) (a b c : ℕ) → ((u X Y Z : ℕ) → term q u X Y Z ≡ term r u X Y Z + term o u X Y Z)
      → over_cells n s q a b c (f q) ≡ over_cells n s r a b c (f r) + over_cells n s o a b c (f o)
  unfolding over_cells term
  parted q r o a b c h =
      sum3_same n _ _ (λ i j k u v w. h ((i * n + j) * n + k) (a + i) (b + j) (c + k))
      ∙ sum3_add n (λ i j k. term r ((i * n + j) * n + k) (a + i) (b + j) (c + k)) (λ i j k. term o ((i * n + j) * n + k) (a + i) (b + j) (c + k))

  -- the loops over the cells of a node
  pub cells_gather : (a b c : ℕ) → Gathers s (λ q. over_cells n s q a b c (f q))
  cells_gather a b c = record {
    none_x = λ q m. none (along_x q m m) a b c (λ u X Y Z. term_off_x (along_x q m m) u X Y Z (empty_meets m X));
    none_y = λ q m. none (along_y q m m) a b c (λ u X Y Z. term_off_y (along_y q m m) u X Y Z (empty_meets m Y));
    none_z = λ q m. none (along_z q m m) a b c (λ u X Y Z. term_off_z (along_z q m m) u X Y Z (empty_meets m Z));
    cut_x = λ q m t e h k. parted (along_x q m e) (along_x q m (s * t)) (along_x q (s * t) e) a b c (split_x q m t e h k);
    cut_y = λ q m t e h k. parted (along_y q m e) (along_y q m (s * t)) (along_y q (s * t) e) a b c (split_y q m t e h k);
    cut_z = λ q m t e h k. parted (along_z q m e) (along_z q m (s * t)) (along_z q (s * t) e) a b c (split_z q m t e h k);
  }
