-- What `lib.Ieee` lacks of IEEE 754: the fused multiply-add, a value brought to binary32, and a value without its fraction.
use Rattle.std.specs.Prelude.{ℕ, ◌+◌, ◌-◌, ◌*◌, ◌/◌, Bool, true, false, Float}
use Rattle.std.specs.Float.{nan, inf, fin, Format, binary32}
use Rattle.std.specs.Float.Ieee.{unlike, up, down, round, sum, add, mul}

-- ±a / c + z, rounded once
unfoldable pub plus : Format → Bool → ℕ → ℕ → Float → Float
plus f s a c nan = nan
plus f s a c (inf t) = inf t
plus f s a c (fin t n d) = sum f s (a * down d) t (n * up d * c) (c * down d)

-- x * y + z, rounded once. Where x or y is not finite the product is an infinity or `nan`, which nothing rounds, so it is `mul` and then `add`.
unfoldable pub fma : Format → Float → Float → Float → Float
fma f nan y z = nan
fma f (inf s) y z = add f (mul f (inf s) y) z
fma f (fin s m e) nan z = nan
fma f (fin s m e) (inf t) z = add f (mul f (fin s m e) (inf t)) z
fma f (fin s m e) (fin t n d) z = plus f (unlike s t) (m * up e * (n * up d)) (down e * down d) z

-- x at binary32, rounded once: Rust's `as f32`
unfoldable pub narrow : Float → Float
narrow nan = nan
narrow (inf s) = inf s
narrow (fin s m e) = round binary32 s (m * up e) (down e)

-- x without its fraction, and the largest whole number that is not above x. Each keeps x's sign, so a zero's too.
unfoldable pub trunc : Format → Float → Float
trunc f nan = nan
trunc f (inf s) = inf s
trunc f (fin s m e) = round f s (m * up e / down e) 1

unfoldable pub floor : Format → Float → Float
floor f nan = nan
floor f (inf s) = inf s
floor f (fin false m e) = round f false (m * up e / down e) 1
floor f (fin true m e) = round f true ((m * up e + (down e - 1)) / down e) 1
