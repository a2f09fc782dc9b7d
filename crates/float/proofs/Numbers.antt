-- What a result can be: each fits its format, and a sum of finite numbers is no NaN.
use Rattle.std.specs.Prelude.{◌≡◌, ℕ, zero, suc, ◌+◌, ◌-◌, ◌*◌, ◌/◌, ◌^◌, Bool, true, false, cond, ◌&&◌, T, ℤ, nat_lt, refl, Float}
use Rattle.std.proofs.Common.{ap, ◌∙◌}
use Rattle.std.specs.Bool.{beq}
use Rattle.std.specs.Float.{nan, inf, fin, Format, binary32}
use Rattle.std.specs.Float.Ieee.{prec, emax, low, up, down, unlike, odd, units, round, sum, add, mul, fits, is_nan}
use Rattle.std.specs.Float.Ieee.Fits.{round_is, round-fits, cond-fits, nan-fits, inf-fits, add-fits}
use Rattle.std.specs.Float.Ieee.Order.{drop, kept}
use Rattle.std.specs.Float.Ieee.Scale.{finite}
use Rattle.float.specs.Fused.{plus, fma, narrow, trunc, floor}

-- ---- no NaN
units_number : (f : Format) (s : Bool) (q k : ℕ) → is_nan (units f s q k) ≡ false
unfolding units odd is_nan
units_number f s q k = go q (nat_lt (q * 2 ^ k) (2 ^ (low f + suc (emax f))))
  where
    go : (q : ℕ) (b : Bool) → is_nan (cond b (odd (suc (prec f)) s q k (low f)) (inf s)) ≡ false
    go zero true = refl
    go (suc q) true = refl
    go zero false = refl
    go (suc q) false = refl

-- what is rounded is a number
pub round_number : (f : Format) (s : Bool) (a c : ℕ) → is_nan (round f s a c) ≡ false
round_number f s a c = ap is_nan (round_is f s a c) ∙ units_number f s (kept (prec f) (a * 2 ^ low f) c) (drop (prec f) (a * 2 ^ low f) c)

sum_number : (f : Format) (s : Bool) (a : ℕ) (t : Bool) (b c : ℕ) → is_nan (sum f s a t b c) ≡ false
unfolding sum
sum_number f s a t b c = go (beq s t) (nat_lt a b)
  where
    go : (x y : Bool) → is_nan (cond x (round f s (a + b) c) (cond y (round f t (b - a) c) (round f (s && nat_lt b a) (a - b) c))) ≡ false
    go true y = round_number f s (a + b) c
    go false true = round_number f t (b - a) c
    go false false = round_number f (s && nat_lt b a) (a - b) c

-- a sum of finite numbers
pub add_number : (f : Format) (x y : Float) → T (finite x) → T (finite y) → is_nan (add f x y) ≡ false
unfolding add
add_number f nan y p q = elim p [ ]
add_number f (inf _) y p q = elim p [ ]
add_number f (fin s m e) nan p q = elim q [ ]
add_number f (fin s m e) (inf _) p q = elim q [ ]
add_number f (fin s m e) (fin t n d) p q = sum_number f s (m * up e * down d) t (n * up d * down e) (down e * down d)

-- ---- each fits
pub trunc_fits : (f : Format) (x : Float) → T (fits f (trunc f x))
unfolding trunc
trunc_fits f nan = nan-fits f
trunc_fits f (inf s) = inf-fits f s
trunc_fits f (fin s m e) = round-fits f s (m * up e / down e) 1

pub floor_fits : (f : Format) (x : Float) → T (fits f (floor f x))
unfolding floor
floor_fits f nan = nan-fits f
floor_fits f (inf s) = inf-fits f s
floor_fits f (fin false m e) = round-fits f false (m * up e / down e) 1
floor_fits f (fin true m e) = round-fits f true ((m * up e + (down e - 1)) / down e) 1

pub narrow_fits : (x : Float) → T (fits binary32 (narrow x))
unfolding narrow
narrow_fits nan = nan-fits binary32
narrow_fits (inf s) = inf-fits binary32 s
narrow_fits (fin s m e) = round-fits binary32 s (m * up e) (down e)

sum_fits : (f : Format) (s : Bool) (a : ℕ) (t : Bool) (b c : ℕ) → T (fits f (sum f s a t b c))
unfolding sum
sum_fits f s a t b c =
    cond-fits f (beq s t) (round f s (a + b) c) (cond (nat_lt a b) (round f t (b - a) c) (round f (s && nat_lt b a) (a - b) c)) (round-fits f s (a + b) c)
    (cond-fits f (nat_lt a b) (round f t (b - a) c) (round f (s && nat_lt b a) (a - b) c) (round-fits f t (b - a) c) (round-fits f (s && nat_lt b a) (a - b) c))

pub fma_fits : (f : Format) (x y z : Float) → T (fits f (fma f x y z))
unfolding fma plus
fma_fits f nan y z = nan-fits f
fma_fits f (inf s) y z = add-fits f (mul f (inf s) y) z
fma_fits f (fin s m e) nan z = nan-fits f
fma_fits f (fin s m e) (inf t) z = add-fits f (mul f (fin s m e) (inf t)) z
fma_fits f (fin s m e) (fin t n d) nan = nan-fits f
fma_fits f (fin s m e) (fin t n d) (inf u) = inf-fits f u
fma_fits f (fin s m e) (fin t n d) (fin u k g) =
    sum_fits f (unlike s t) (m * up e * (n * up d) * down g) u (k * up g * (down e * down d)) (down e * down d * down g)

-- the sign does not matter
pub fits_plain : (f : Format) (s : Bool) (m : ℕ) (e : ℤ) → T (fits f (fin s m e)) → T (fits f (fin false m e))
unfolding fits
fits_plain f s zero e h = h
fits_plain f s (suc m) e h = h
