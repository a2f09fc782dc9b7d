-- From a pattern to its value and back.
use Rattle.std.specs.Prelude.{◌≡◌, ℕ, ◌+◌, ◌*◌, ◌/◌, ◌%◌, ◌<◌, ◌≤◌, true, false, not, T, refl, Float}
use Rattle.std.proofs.Common.{sym, ap, ◌∙◌, lt-ltb, le-ltb}
use Rattle.std.proofs.lemmas.Bool.{false≢true}
use Rattle.std.specs.Float.{nan, inf, fin, Format, binary32, binary64}
use Rattle.std.specs.Float.Ieee.{hid, ones, top, div, fits, is_nan, nan_bits, of_bits, to_bits}
use Rattle.std.specs.Float.Ieee.Bits.{of_bits-to_bits, to_bits-of_bits, nan_bits_is, nan_bits_above}
use Rattle.float.specs.Zero.{+0}
use Rattle.float.proofs.Tests.{no}

-- there is one NaN
pub is_nan_lem : (x : Float) → is_nan x ≡ true → x ≡ nan
unfolding is_nan
is_nan_lem nan e = refl
is_nan_lem (inf s) e = absurd (false≢true e)
is_nan_lem (fin s m i) e = absurd (false≢true e)

-- the pattern of a NaN that is worked out: 7fc00000, or 7ff8000000000000
pub nan_bits_lem : (f : Format) → ones f * hid f + hid f / 2 ≡ to_bits f nan
unfolding to_bits
nan_bits_lem f = refl

-- a pattern above the infinity's is a NaN's
pub read_nan : (f : Format) (b : ℕ) → ones f * hid f < b % top f → of_bits f b ≡ nan
read_nan f b h = is_nan_lem (of_bits f b) (sym (nan_bits_is f b) ∙ nan_bits_above f b ∙ lt-ltb (ones f * hid f) (b % top f) h)

-- and no other is
pub read_number : (f : Format) (b : ℕ) → b % top f ≤ ones f * hid f → T (not (nan_bits f b))
read_number f b h = no (nan_bits f b) (nan_bits_above f b ∙ le-ltb (ones f * hid f) (b % top f) h)

-- how the code makes a NaN
pub zero_by_zero : (f : Format) → div f (of_bits f 0) (of_bits f 0) ≡ nan
unfolding div of_bits
zero_by_zero binary32 = refl
zero_by_zero binary64 = refl

-- how the code's 0.0 is written
pub nought : (f : Format) → of_bits f 0 ≡ +0
unfolding of_bits
nought binary32 = refl
nought binary64 = refl

-- a value's pattern reads as the value
pub read_back : (f : Format) (r : ℕ) (v : Float) → r ≡ to_bits f v → T (fits f v) → of_bits f r ≡ v
read_back f r v e h = ap (of_bits f) e ∙ of_bits-to_bits f v h

-- and the value of a pattern that is no NaN's has that pattern
pub same_bits : (f : Format) (b : ℕ) → b < 2 * top f → nan_bits f b ≡ false → to_bits f (of_bits f b) ≡ b
same_bits f b h n = to_bits-of_bits f b h (no (is_nan (of_bits f b)) (sym (nan_bits_is f b) ∙ n))
