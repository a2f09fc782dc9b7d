-- The operations of std are those of specs/: the definitions agree case by case. Assumes nothing.
use Rattle.std.specs.Prelude.{◌≡◌, ℕ, ◌+◌, ◌-◌, ◌*◌, ◌/◌, ◌<◌, true, false, refl, Float}
use Rattle.std.proofs.Common.{ap, arith}
use Rattle.std.specs.Float as Std
use Rattle.std.specs.Float.{nan, inf, fin, Format, binary32, float_is_finite, round_with, round_to_format, float_mul_add}
use Rattle.std.specs.Float.Ieee.{up, down, round}
use Rattle.std.specs.Float.Ieee.Fits.{down_pos}
use Rattle.std.specs.Float.Ieee.Scale.{finite}
use Rattle.float.specs.Fused.{plus, fma, narrow, trunc, floor}

pub finite_is : (x : Float) → float_is_finite x ≡ finite x
unfolding float_is_finite
finite_is nan = refl
finite_is (inf s) = refl
finite_is (fin s m e) = refl

pub narrow_is : (x : Float) → round_to_format binary32 x ≡ narrow x
unfolding round_to_format narrow
narrow_is nan = refl
narrow_is (inf s) = refl
narrow_is (fin s m e) = refl

pub fma_is : (f : Format) (x y z : Float) → float_mul_add f x y z ≡ fma f x y z
unfolding float_mul_add fma plus
fma_is f nan y z = refl
fma_is f (inf s) y z = refl
fma_is f (fin s m e) nan z = refl
fma_is f (fin s m e) (inf t) z = refl
fma_is f (fin s m e) (fin t n d) nan = refl
fma_is f (fin s m e) (fin t n d) (inf u) = refl
fma_is f (fin s m e) (fin t n d) (fin u k g) = refl

pub trunc_is : (f : Format) (x : Float) → Std.trunc f x ≡ trunc f x
unfolding round_with trunc
trunc_is f nan = refl
trunc_is f (inf s) = refl
trunc_is f (fin false m e) = refl
trunc_is f (fin true m e) = refl

pub floor_is : (f : Format) (x : Float) → Std.floor f x ≡ floor f x
unfolding round_with floor
floor_is f nan = refl
floor_is f (inf s) = refl
floor_is f (fin false m e) = refl
floor_is f (fin true m e) = ap (λ (n : ℕ). round f true (n / down e) 1) (less_one (m * up e) (down e) (down_pos e))
  where
    less_one : (a c : ℕ) → 0 < c → a + c - 1 ≡ a + (c - 1)
    less_one a c h = omega arith
