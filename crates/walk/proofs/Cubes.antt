-- Cubes of coordinates: the box of n coordinates a side, with ends that are 32-bit numbers, and its biased zone. Assumes nothing.
use Rattle.std.specs.Prelude.{ℕ, suc, ◌+◌, ◌-◌, ◌≤◌, ◌<◌, ◌≡◌, refl, Bool, cond, ℤ, pos, negsuc, ◌+ℤ◌, ◌-ℤ◌}
use Rattle.std.proofs.Common.{add-le-add, arith, sym, ap, ◌∙◌, lt-ltb, le-ltb}
use Rattle.std.proofs.Math.IntN.{+ℤ_comm, -ℤ-+ℤ_cancel}
use Rattle.std.specs.Int.Signed.{mag}
use Rattle.layout.specs.Coordinates.{Signed32}
use Rattle.sparse_grid.specs.Tables.{Grid}
use Rattle.sparse_grid.specs.Validate.{validate}
use Rattle.sparse_grid.specs.Count.{split_lt}
use Rattle.boxes.specs.Boxes.{Box, span, count}
use Rattle.walk.specs.Walk.{
  CubeBox,
  biased,
  zone_of,
  R,
  U,
  L,
  cubed,
  most_read,
  roots_only,
  uppers_only,
  lowers_only,
  leaves_only,
  roots_read,
  uppers_read,
  lowers_read,
  leaves_read,
  all_read,
}
use Rattle.walk.proofs.Dearest.{Cube, dearest}

pub biased_add : (z : ℤ) (m : ℕ) → mag z < 2147483648 → biased (z +ℤ pos m) ≡ biased z + m
biased_add (pos a) m h = omega arith
biased_add (negsuc a) m h =
    split_lt m (suc a)
    (λ l. ap (λ (b : Bool). biased (cond b (negsuc (suc a - suc m)) (pos (m - suc a)))) (lt-ltb m (suc a) l) ∙ omega arith)
    (λ l. ap (λ (b : Bool). biased (cond b (negsuc (suc a - suc m)) (pos (m - suc a)))) (le-ltb m (suc a) l) ∙ omega arith)

biased_top : (z : ℤ) → mag z < 2147483648 → biased z + 1 ≤ 4294967296
biased_top (pos a) h = omega arith
biased_top (negsuc a) h = omega arith

-- the high end of n coordinates from lo on
side : (lo hi : ℤ) (n : ℕ) → 1 ≤ n → mag lo < 2147483648 → span lo hi ≡ n → biased hi + 1 ≡ biased lo + n
side lo hi n h l e = go (hi -ℤ lo) refl e
  where
    go : (d : ℤ) → hi -ℤ lo ≡ d → count d ≡ n → biased hi + 1 ≡ biased lo + n
    go (pos m) r c =
        let w : hi ≡ lo +ℤ pos m = sym (-ℤ-+ℤ_cancel hi lo) ∙ ap (λ (x : ℤ). x +ℤ lo) r ∙ +ℤ_comm (pos m) lo in
        let u = ap biased w ∙ biased_add lo m l in omega arith
    go (negsuc m) r c = absurd (omega arith)

pub cube : (n : ℕ) (b : Box) → CubeBox n b → Cube n (zone_of b)
cube n b c = record {
  some = c.some;
  x = side b.lo.x b.hi.x n c.some c.low.x c.x;
  y = side b.lo.y b.hi.y n c.some c.low.y c.y;
  z = side b.lo.z b.hi.z n c.some c.low.z c.z;
  x_top = biased_top b.hi.x c.high.x;
  y_top = biased_top b.hi.y c.high.y;
  z_top = biased_top b.hi.z c.high.z;
}

-- no valid grid exceeds it: each count by itself, and all together
pub record Bounded (g : Grid) (b : Box) (n : ℕ) : Type 0 where
  pub roots : roots_read g b ≤ cubed (R n)
  pub uppers : uppers_read g b ≤ cubed (U n)
  pub lowers : lowers_read g b ≤ cubed (L n)
  pub leaves : leaves_read g b ≤ cubed n
  pub all : all_read g b ≤ most_read n

pub never_dearer : (g : Grid) (b : Box) (n : ℕ) → validate g ≡ 0 → CubeBox n b → Bounded g b n
never_dearer g b n v c =
    let q = cube n b c in
    let r : roots_read g b ≤ cubed (R n) = let h = dearest roots_only g (zone_of b) n v q in omega arith in
    let u : uppers_read g b ≤ cubed (U n) = let h = dearest uppers_only g (zone_of b) n v q in omega arith in
    let l : lowers_read g b ≤ cubed (L n) = let h = dearest lowers_only g (zone_of b) n v q in omega arith in
    let f : leaves_read g b ≤ cubed n = let h = dearest leaves_only g (zone_of b) n v q in omega arith in
    record { roots = r; uppers = u; lowers = l; leaves = f; all = add-le-add (add-le-add (add-le-add r u) l) f }
