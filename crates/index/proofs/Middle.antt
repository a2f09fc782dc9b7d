-- `world_to_index_f` keeps the order on each axis: a point between two corners maps between them, where the corners map to finite numbers. Assumes nothing.
use Rattle.std.specs.Prelude.{◌≡◌, ℕ, zero, suc, Bool, true, ◌&&◌, List, [], ◌∷◌, get_or, T}
use Rattle.std.proofs.Common.{inl, inr}
use lib.Ieee.{Float, binary32, sub, mul, lt}
use Rattle.std.specs.Float.Ieee.Fits.{and_l, and_r}
use Rattle.float.specs.Fused.{fma}
use lib.Ieee.Scale.{finite}
use Rattle.float.proofs.Rising.{unsigned}
use Rattle.float.proofs.Zeros.{is_zero}
use Rattle.float.specs.Zero.{+0}
use Rattle.float.proofs.Tests.{yes}
use Rattle.float.proofs.Middle.{mul_left, fma_left, fma_last, sub_left, Mid, mid, Factor, mid_sub, mid_mul, mid_fma, positive_unsigned, equals_zero}
use Rattle.medium.specs.Medium.{x_axis, y_axis, z_axis}
use Rattle.medium.specs.Medium.{Point, Medium, Axis, on_point, map_at, map_fault, diagonal, zeroes}
use Rattle.refusals.specs.FaultLaws.{unless_zero}
use Rattle.index.specs.Index.{world_to_index}
use Rattle.index.specs.Cells.{Between}

-- ---- the map
pub record Scaled (m : Medium) : Type 0 where
  pub factor : (a : Axis) → Factor (map_at m a 0) × Factor (map_at m a 1) × Factor (map_at m a 2)
  pub moved : (a : Axis) → T (finite (on_point a m.translation))

diagonal_unsigned : (v : Float) → T (diagonal v) → T (unsigned v)
diagonal_unsigned v h =
    positive_unsigned v (and_l (lib.Ieee.Scale.finite v) (lt +0 v) h) (lib.Ieee.Bits.is_true (lt +0 v) (and_r (lib.Ieee.Scale.finite v) (lt +0 v) h))

zeroes_zero : (v : Float) → T (zeroes v) → T (is_zero v)
zeroes_zero v h = equals_zero v h

-- a row of tests: `b && x && y ..` is `tests b (x ∷ y ..)` by computation
abbrev tests : Bool → List Bool → Bool
tests b [] = b
tests b (x ∷ l) = tests (b && x) l

tests_first : (b : Bool) (l : List Bool) → T (tests b l) → T b
tests_first b [] h = h
tests_first b (x ∷ l) h = and_l b x (tests_first (b && x) l h)

tests_at : (b : Bool) (l : List Bool) → T (tests b l) → (i : ℕ) → T (get_or l i true)
tests_at b [] h i = tt
tests_at b (x ∷ l) h zero = and_r b x (tests_first (b && x) l h)
tests_at b (x ∷ l) h (suc i) = tests_at (b && x) l h i

abbrev real : Float → Bool
real v = lib.Ieee.Scale.finite v

-- the tests of the map after its first place, and of the translation
abbrev rest : Medium → List Bool
rest m =
    let at : ℕ → Float = λ i. get_or m.map i +0 in
    zeroes (at 1) ∷ zeroes (at 2) ∷ zeroes (at 3) ∷ diagonal (at 4) ∷ zeroes (at 5) ∷ zeroes (at 6) ∷ zeroes (at 7) ∷ diagonal (at 8)
    ∷ real m.translation.x ∷ real m.translation.y ∷ real m.translation.z ∷ []

all_passed : (m : Medium) → map_fault m ≡ 0 → T (tests (diagonal (get_or m.map 0 +0)) (rest m))
unfolding map_fault
all_passed m e = unless_zero (tests (diagonal (get_or m.map 0 +0)) (rest m)) 12 e

first_passed : (m : Medium) → map_fault m ≡ 0 → T (diagonal (get_or m.map 0 +0))
first_passed m e = tests_first (diagonal (get_or m.map 0 +0)) (rest m) (all_passed m e)

passed : (m : Medium) → map_fault m ≡ 0 → (i : ℕ) → T (get_or (rest m) i true)
passed m e = tests_at (diagonal (get_or m.map 0 +0)) (rest m) (all_passed m e)

pub scaled : (m : Medium) → map_fault m ≡ 0 → Scaled m
scaled m e =
    let at : ℕ → Float = λ i. get_or m.map i +0 in
    let z : (i : ℕ) → T (zeroes (at i)) → Factor (at i) = λ i t. inr (zeroes_zero (at i) t) in
    let d : (i : ℕ) → T (diagonal (at i)) → Factor (at i) = λ i t. inl (diagonal_unsigned (at i) t) in
    let t : (i : ℕ) → T (get_or (rest m) i true) = passed m e in
    record {
      factor =
          λ a. elim a as (λ b. Factor (map_at m b 0) × Factor (map_at m b 1) × Factor (map_at m b 2)) [
            | x_axis ↦ (d 0 (first_passed m e), z 1 (t 0), z 2 (t 1))
            | y_axis ↦ (z 3 (t 2), d 4 (t 3), z 5 (t 4))
            | z_axis ↦ (z 6 (t 5), z 7 (t 6), d 8 (t 7))
          ];
      moved = λ a. elim a as (λ b. T (finite (on_point b m.translation))) [ x_axis ↦ t 8 | y_axis ↦ t 9 | z_axis ↦ t 10 ];
    }

-- the map is diagonal: finite there, and zeros of either sign elsewhere
pub record Straight (m : Medium) : Type 0 where
  pub xx : T (finite (map_at m x_axis 0))
  pub xy : T (is_zero (map_at m x_axis 1))
  pub xz : T (is_zero (map_at m x_axis 2))
  pub yx : T (is_zero (map_at m y_axis 0))
  pub yy : T (finite (map_at m y_axis 1))
  pub yz : T (is_zero (map_at m y_axis 2))
  pub zx : T (is_zero (map_at m z_axis 0))
  pub zy : T (is_zero (map_at m z_axis 1))
  pub zz : T (finite (map_at m z_axis 2))

pub straight : (m : Medium) → map_fault m ≡ 0 → Straight m
straight m e =
    let at : ℕ → Float = λ i. get_or m.map i +0 in
    let z : (i : ℕ) → T (zeroes (at i)) → T (is_zero (at i)) = λ i t. zeroes_zero (at i) t in
    let d : (i : ℕ) → T (diagonal (at i)) → T (finite (at i)) = λ i t. and_l (finite (at i)) (lt +0 (at i)) t in
    let t : (i : ℕ) → T (get_or (rest m) i true) = passed m e in
    record {
      xx = d 0 (first_passed m e);
      xy = z 1 (t 0);
      xz = z 2 (t 1);
      yx = z 3 (t 2);
      yy = d 4 (t 3);
      yz = z 5 (t 4);
      zx = z 6 (t 5);
      zy = z 7 (t 6);
      zz = d 8 (t 7);
    }

-- ---- one axis of the map. Nothing but this axis's two ends need be finite: an infinity or a NaN on the way would be seen in the end
pub index_mid : (m : Medium) → Scaled m → (l h p : Point) → Between l h p → (a : Axis) → T (finite (world_to_index m l a))
    → T (finite (world_to_index m h a)) → Mid (world_to_index m l a) (world_to_index m p a) (world_to_index m h a)
unfolding world_to_index
index_mid m s l h p b a L H =
    let t = m.translation in
    let r0 = map_at m a 0 in
    let r1 = map_at m a 1 in
    let r2 = map_at m a 2 in
    let lz = mul binary32 (sub binary32 l.z t.z) r2 in
    let hz = mul binary32 (sub binary32 h.z t.z) r2 in
    let pz = mul binary32 (sub binary32 p.z t.z) r2 in
    let ly = fma binary32 (sub binary32 l.y t.y) r1 lz in
    let hy = fma binary32 (sub binary32 h.y t.y) r1 hz in
    let py = fma binary32 (sub binary32 p.y t.y) r1 pz in
    let LY : T (finite ly) = fma_last binary32 (sub binary32 l.x t.x) r0 ly L in
    let HY : T (finite hy) = fma_last binary32 (sub binary32 h.x t.x) r0 hy H in
    let LZ : T (finite lz) = fma_last binary32 (sub binary32 l.y t.y) r1 lz LY in
    let HZ : T (finite hz) = fma_last binary32 (sub binary32 h.y t.y) r1 hz HY in
    let z : Mid lz pz hz = mid_mul binary32 (sub binary32 l.z t.z) (sub binary32 p.z t.z) (sub binary32 h.z t.z) r2
    (less z_axis (mul_left binary32 (sub binary32 l.z t.z) r2 LZ) (mul_left binary32 (sub binary32 h.z t.z) r2 HZ)) (s.factor a).2 LZ HZ in
    let y : Mid ly py hy = mid_fma binary32 (sub binary32 l.y t.y) (sub binary32 p.y t.y) (sub binary32 h.y t.y) r1 lz pz hz
    (less y_axis (fma_left binary32 (sub binary32 l.y t.y) r1 lz LY) (fma_left binary32 (sub binary32 h.y t.y) r1 hz HY)) (s.factor a).1 z LY HY in
    mid_fma binary32 (sub binary32 l.x t.x) (sub binary32 p.x t.x) (sub binary32 h.x t.x) r0 ly py hy
    (less x_axis (fma_left binary32 (sub binary32 l.x t.x) r0 ly L) (fma_left binary32 (sub binary32 h.x t.x) r0 hy H)) (s.factor a).0 y L H
  where
    less : (a : Axis) → T (finite (sub binary32 (on_point a l) (on_point a m.translation)))
        → T (finite (sub binary32 (on_point a h) (on_point a m.translation)))
        → Mid (sub binary32 (on_point a l) (on_point a m.translation)) (sub binary32 (on_point a p) (on_point a m.translation))
        (sub binary32 (on_point a h) (on_point a m.translation))
    less a x y =
        mid_sub binary32 (on_point a l) (on_point a p) (on_point a h) (on_point a m.translation)
        (mid (on_point a l) (on_point a p) (on_point a h) (sub_left binary32 (on_point a l) (on_point a m.translation) x)
        (sub_left binary32 (on_point a h) (on_point a m.translation) y) (yes (b a).0) (yes (b a).1))
        (s.moved a) x y
