-- One valid grid and one low corner make the walk of a cube as dear as it can be, whatever the side from 1 to 4,096. Assumes nothing.
use Rattle.std.specs.Prelude.{ℕ, zero, suc, ◌+◌, ◌-◌, ◌*◌, ◌/◌, ◌≤◌, ◌<◌, ◌≡◌, ℤ, pos, negsuc}
use Rattle.std.proofs.Math.Nat.{mul-one}
use native.Mathlib.Omega.{arith}
use Rattle.std.proofs.Math.Path.{refl, ap}
use Rattle.std.proofs.Common.{◌∙◌}
use Rattle.std.proofs.Math.Bool.{cond}
use Rattle.std.specs.Int.Signed.{mag}
use Rattle.layout.specs.Coordinates.{Signed32}
use Rattle.sparse_grid.specs.declared.Entry.{Entry}
use Rattle.sparse_grid.specs.Tables.{Grid, entry_at}
use Rattle.sparse_grid.specs.Validate.{validate}
use Rattle.sparse_grid.specs.Biased.{raised}
use Rattle.sparse_grid.specs.Count.{sum}
use Rattle.boxes.specs.Boxes.{Box, between, span}
use Rattle.walk.specs.Walk.{
  CubeBox,
  Zone,
  Price,
  biased,
  zone_of,
  touches,
  below,
  over_cells,
  leaf_steps,
  lower_steps,
  upper_steps,
  steps,
  R,
  U,
  L,
  cubed,
  most_read,
  roots_only,
  uppers_only,
  lowers_only,
  leaves_only,
  roots_read,
  uppers_read,
  lowers_read,
  leaves_read,
  all_read,
}
use Rattle.walk.specs.Sums.{sum3, sum3_same}
use Rattle.walk.proofs.Cells.{most, row_reached}
use Rattle.walk.proofs.Bound.{
  one,
  row,
  prod,
  lower_top,
  upper_top,
  root_top,
  leaf_is,
  two,
  three,
  four,
  cells_same,
  values8,
  values128,
  values4096,
  lowers128,
  lowers4096,
  uppers4096,
}
use Rattle.walk.proofs.Axes.{total, total_one, counts_uppers4096, counts_lowers4096, counts_values4096}
use Rattle.walk.proofs.Dearest.{worst, worst_is}
use Rattle.walk.proofs.Shared.{shared_grid, shared_valid, lower_child, upper_child}

module _ (p : Price) (q : Zone) where
  lower_is : (a b c : ℕ) → lower_steps p shared_grid q 0 a b c ≡ lower_top p shared_grid q a b c
  unfolding lower_steps
  lower_is a b c =
      cells_same 16 8 q (16 * a) (16 * b) (16 * c) (λ s x y z. p.lower + p.leaf * prod q values8 x y z)
      (λ s x y z. p.lower + below (entry_at shared_grid.lower_links shared_grid.lower_values (0 + s)) (λ j. leaf_steps p q j x y z))
      (λ i j k x y z l m o. ap (λ (e : Entry). p.lower + below e (λ j. leaf_steps p q j x y z)) (lower_child (0 + ((i * 16 + j) * 16 + k)) (omega arith))
      ∙ ap (λ (w : ℕ). p.lower + w) (leaf_is p shared_grid q 0 x y z))
      ∙ two p shared_grid q 16 8 (16 * a) (16 * b) (16 * c) p.lower p.leaf values8

  upper_is : (a b c : ℕ) → upper_steps p shared_grid q 0 a b c ≡ upper_top p shared_grid q a b c
  unfolding upper_steps
  upper_is a b c =
      cells_same 32 128 q (32 * a) (32 * b) (32 * c) (λ s x y z. p.upper + lower_top p shared_grid q x y z)
      (λ s x y z. p.upper + below (entry_at shared_grid.upper_links shared_grid.upper_values (0 + s)) (λ j. lower_steps p shared_grid q j x y z))
      (λ i j k x y z l m o. ap (λ (e : Entry). p.upper + below e (λ j. lower_steps p shared_grid q j x y z))
      (upper_child (0 + ((i * 32 + j) * 32 + k)) (omega arith)) ∙ ap (λ (w : ℕ). p.upper + w) (lower_is x y z))
      ∙ three p shared_grid q 32 128 (32 * a) (32 * b) (32 * c) p.upper p.lower p.leaf lowers128 values128

  -- what a root at (a, b, c) comes to
  at : ℕ → ℕ → ℕ → ℕ
  at a b c = cond (touches 4096 q a b c) (p.root + upper_steps p shared_grid q 0 a b c) 0

  -- eight roots are two along each axis
  by_roots : steps p shared_grid q ≡ sum3 2 (λ i j k. at (524287 + i) (524287 + j) (524287 + k))
  unfolding steps shared_grid at sum raised
  by_roots = omega arith

  as_cells : sum3 2 (λ i j k. at (524287 + i) (524287 + j) (524287 + k)) ≡ over_cells 2 4096 q 524287 524287 524287
      (λ t x y z. root_top p shared_grid q x y z)
  unfolding over_cells at
  as_cells = sum3_same 2 (λ i j k.
      cond (touches 4096 q (524287 + i) (524287 + j) (524287 + k)) (root_top p shared_grid q (524287 + i) (524287 + j) (524287 + k)) 0) _
      (λ i j k l m o. ap (λ (w : ℕ). cond (touches 4096 q (524287 + i) (524287 + j) (524287 + k)) w 0) (here (524287 + i) (524287 + j) (524287 + k)))
    where
      here : (a b c : ℕ) → p.root + upper_steps p shared_grid q 0 a b c ≡ root_top p shared_grid q a b c
      here a b c = let u = upper_is a b c in let m = mul-one p.root in omega arith

  pub shared_steps : steps p shared_grid q
      ≡ p.root * prod q (row 2 4096 one) 524287 524287 524287 + p.upper * prod q (row 2 4096 uppers4096) 524287 524287 524287 + p.lower * prod q
      (row 2 4096 lowers4096) 524287 524287 524287 + p.leaf * prod q (row 2 4096 values4096) 524287 524287 524287
  shared_steps = by_roots ∙ as_cells ∙ four p shared_grid q 2 524287 524287 524287

-- ---- the cube of n a side whose low corner is (-1, -1, -1)

-- n - 2
abbrev pub far_end : ℕ → ℤ
far_end zero = negsuc 1
far_end (suc zero) = negsuc 0
far_end (suc (suc m)) = pos m

abbrev pub around : ℕ → Box
around n = between (negsuc 0) (negsuc 0) (negsuc 0) (far_end n) (far_end n) (far_end n)

module _ (n : ℕ) (h : 1 ≤ n) (k : n ≤ 4096) where
  pub around_cube : CubeBox n (around n)
  around_cube = record { some = h; low = low_in; high = high_in; x = wide; y = wide; z = wide }
    where
      low_in : Signed32 (around n).lo
      low_in = record { x = omega arith; y = omega arith; z = omega arith }

      far_small : (n : ℕ) → n ≤ 4096 → mag (far_end n) < 2147483648
      far_small zero k = omega arith
      far_small (suc zero) k = omega arith
      far_small (suc (suc m)) k = omega arith

      high_in : Signed32 (around n).hi
      high_in = let f = far_small n k in record { x = f; y = f; z = f }

      far_span : (n : ℕ) → 1 ≤ n → span (negsuc 0) (far_end n) ≡ n
      far_span zero h = absurd (omega arith)
      far_span (suc zero) h = refl
      far_span (suc (suc m)) h = omega arith

      wide : span (negsuc 0) (far_end n) ≡ n
      wide = far_span n h

  -- one axis: as many as there can be at every level
  far : (n : ℕ) → 1 ≤ n → biased (far_end n) + 1 ≡ 2147483647 + n
  far zero h = absurd (omega arith)
  far (suc zero) h = refl
  far (suc (suc m)) h = omega arith

  hi : ℕ
  hi = biased (far_end n) + 1

  as_many : (s c : ℕ) → 0 < s → 2147483647 ≡ s * c + s - 1 → (hi - 1) / s - 2147483647 / s + 1 ≡ most s n
  unfolding hi
  as_many s c p e =
      let f = far n h in
      let r = row_reached s c n p h in
      let u : hi - 1 ≡ s * c + s - 1 + n - 1 = omega arith in
      ap (λ (w : ℕ). w / s - 2147483647 / s + 1) u ∙ ap (λ (w : ℕ). (s * c + s - 1 + n - 1) / s - w / s + 1) e ∙ r

  roots_at : row 2 4096 one 2147483647 hi 524287 ≡ most 4096 n
  unfolding hi
  roots_at = let f = far n h in total_one 2 524287 2147483647 hi (omega arith) 4096 (omega arith) (omega arith) (omega arith)
      ∙ as_many 4096 524287 (omega arith) refl

  uppers_at : row 2 4096 uppers4096 2147483647 hi 524287 ≡ most 128 n
  unfolding hi
  uppers_at = let f = far n h in total 2 524287 2147483647 hi (omega arith) 32 128 uppers4096 counts_uppers4096 (omega arith) (omega arith) (omega arith)
      ∙ as_many 128 16777215 (omega arith) refl

  lowers_at : row 2 4096 lowers4096 2147483647 hi 524287 ≡ most 8 n
  unfolding hi
  lowers_at = let f = far n h in total 2 524287 2147483647 hi (omega arith) 512 8 lowers4096 counts_lowers4096 (omega arith) (omega arith) (omega arith)
      ∙ as_many 8 268435455 (omega arith) refl

  values_at : row 2 4096 values4096 2147483647 hi 524287 ≡ n
  unfolding hi
  values_at = let f = far n h in total 2 524287 2147483647 hi (omega arith) 4096 1 values4096 counts_values4096 (omega arith) (omega arith) (omega arith)
      ∙ omega arith

  pub as_dear : (p : Price) → steps p shared_grid (zone_of (around n)) ≡ worst p n
  unfolding hi
  as_dear p = shared_steps p (zone_of (around n)) ∙ rw (roots_at, uppers_at, lowers_at, values_at) (worst_is p n)

-- some valid grid and place reach it
pub record Reached (n : ℕ) (g : Grid) (b : Box) : Type 0 where
  pub valid : validate g ≡ 0
  pub cube : CubeBox n b
  pub roots : roots_read g b ≡ cubed (R n)
  pub uppers : uppers_read g b ≡ cubed (U n)
  pub lowers : lowers_read g b ≡ cubed (L n)
  pub leaves : leaves_read g b ≡ cubed n
  pub all : all_read g b ≡ most_read n

pub reached : (n : ℕ) → 1 ≤ n → n ≤ 4096 → (g : Grid) × (b : Box) × Reached n g b
reached n h k =
    let r : roots_read shared_grid (around n) ≡ cubed (R n) = as_dear n h k roots_only ∙ omega arith in
    let u : uppers_read shared_grid (around n) ≡ cubed (U n) = as_dear n h k uppers_only ∙ omega arith in
    let l : lowers_read shared_grid (around n) ≡ cubed (L n) = as_dear n h k lowers_only ∙ omega arith in
    let f : leaves_read shared_grid (around n) ≡ cubed n = as_dear n h k leaves_only ∙ omega arith in (
      shared_grid,
      around n,
      record {
        valid = shared_valid;
        cube = around_cube n h k;
        roots = r;
        uppers = u;
        lowers = l;
        leaves = f;
        all = λ i.
            r i + u i + l i + f i;
      },
    )
