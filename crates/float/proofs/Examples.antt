-- Worked examples and edges, by computation.
use Rattle.std.specs.Prelude.{◌≡◌, true, false, pos, negsuc, refl}
use Rattle.std.specs.Float.{nan, fin, binary32, binary64}
use Rattle.std.specs.Float.Ieee.{of_bits, to_bits, of_int, sum, round, add, sub, mul, le, to_signed}
use Rattle.refusals.specs.Results.{ok, refused}
use Rattle.float.specs.Fused.{plus, fma, narrow, trunc, floor}
use Rattle.float.specs.Coordinate.{coordinate}
use Rattle.float.specs.Saturated.{saturated}
use Rattle.float.specs.Examples.{mul_add, narrowed, low}

-- ---- mul_add is rounded once: two roundings give 0
pub fused_once : mul_add 0x3f80_0001 0x3f80_0001 0xbf80_0002 ≡ 0x2880_0000
unfolding fma plus sum add mul of_bits to_bits
fused_once = refl

twice_rounded : to_bits binary32 (add binary32 (mul binary32 (of_bits binary32 0x3f80_0001) (of_bits binary32 0x3f80_0001)) (of_bits binary32 0xbf80_0002)) ≡ 0
unfolding add mul of_bits to_bits
twice_rounded = refl

-- a sum that cancels is +0, and two negative zeros give -0
cancelled : mul_add 0xbf80_0000 0x3f80_0000 0x3f80_0000 ≡ 0
unfolding fma plus sum add mul of_bits to_bits
cancelled = refl

both_minus : mul_add 0x8000_0000 0x3f80_0000 0x8000_0000 ≡ 0x8000_0000
unfolding fma plus sum add mul of_bits to_bits
both_minus = refl

-- infinity by zero is a NaN
no_product : mul_add 0x7f80_0000 0x8000_0000 0x3f80_0000 ≡ 0x7fc0_0000
unfolding fma add mul of_bits to_bits
no_product = refl

-- ---- narrow: 1 + 2^-24 is a tie, and goes to the even 1
pub narrow_tie : narrowed 0x3ff0_0000_1000_0000 ≡ 0x3f80_0000
unfolding narrow round of_bits to_bits
narrow_tie = refl

narrow_overflow : narrowed 0x47ef_ffff_f000_0000 ≡ 0x7f80_0000
unfolding narrow round of_bits to_bits
narrow_overflow = refl

narrow_subnormal : narrowed 0xb6a0_0000_0000_0001 ≡ 0x8000_0001
unfolding narrow round of_bits to_bits
narrow_subnormal = refl

-- ---- a smallest value widens to a normal one
widen_subnormal : to_bits binary64 (of_bits binary32 1) ≡ 0x36a0_0000_0000_0000
unfolding of_bits to_bits
widen_subnormal = refl

-- ---- trunc and floor of -0.5
trunc_half : trunc binary64 (fin true 1 (negsuc 0)) ≡ fin true 0 (pos 0)
unfolding trunc round
trunc_half = refl

floor_half : floor binary64 (fin true 1 (negsuc 0)) ≡ fin true 1 (pos 0)
unfolding floor round
floor_half = refl

-- ---- the low end of the first box: 0.5 gives 0, and -2147483648 is refused
pub low_half : low 0x3f00_0000 ≡ ok (pos 0)
unfolding coordinate trunc floor sub of_bits of_int le to_signed
low_half = refl

pub low_least : low 0xcf00_0000 ≡ refused 16
unfolding coordinate trunc floor sub of_bits of_int le to_signed
low_least = refl

-- 2^-54 less 1 rounds to -1, and the next binary32 above it does not
tiny_less_one : sub binary64 (of_bits binary32 0x2480_0000) (of_int binary64 (pos 1)) ≡ fin true 1 (pos 0)
unfolding sub of_bits of_int
tiny_less_one = refl

pub low_tiny : low 0x2480_0000 ≡ ok (negsuc 0)
unfolding coordinate trunc floor sub of_bits of_int le to_signed
low_tiny = refl

low_next : low 0x2480_0001 ≡ ok (pos 0)
unfolding coordinate trunc floor sub of_bits of_int le to_signed
low_next = refl

-- ---- the cast to an i32: toward zero, to the nearer end, and 0 for a NaN

-- -2.5 is -2
pub cast_whole : saturated (fin true 5 (negsuc 0)) ≡ negsuc 1
unfolding saturated
cast_whole = refl

-- -2^40 and 2^31 are the ends
pub cast_low : saturated (fin true 1 (pos 40)) ≡ negsuc 2147483647
unfolding saturated
cast_low = refl

pub cast_high : saturated (fin false 1 (pos 31)) ≡ pos 2147483647
unfolding saturated
cast_high = refl

pub cast_nan : saturated nan ≡ pos 0
unfolding saturated
cast_nan = refl
