-- Products of small numbers, and floats without their sign. Assumes nothing.
use Rattle.std.proofs.Common.{◌≡◌, ℕ, ◌*◌, ◌≤◌, false, refl, mul-le-mul}
use Rattle.std.specs.Float.{float_with_sign}
use lib.Ieee.{Float, nan, inf, fin}
use Rattle.rays.specs.Open.{magnitude}

-- ---- products of numbers up to 128

pub two_small : {a b : ℕ} → a ≤ 128 → b ≤ 128 → a * b ≤ 16384
two_small p q = mul-le-mul p q

pub three_small : {a b : ℕ} → a ≤ 16512 → b ≤ 128 → a * b ≤ 2113536
three_small p q = mul-le-mul p q

-- ---- a float without its sign

-- std's `abs`
pub abs_is : (x : Float) → float_with_sign false x ≡ magnitude x
unfolding float_with_sign
abs_is nan = refl
abs_is (inf s) = refl
abs_is (fin s m e) = refl
