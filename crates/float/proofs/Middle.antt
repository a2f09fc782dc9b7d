-- What lies between two finite numbers stays between them under `sub`, `mul` and `mul_add` by a factor that is not negative.
-- And a finite result has finite operands.
use Rattle.std.specs.Prelude.{◌≡◌, ◌*◌, Bool, true, false, cond, ◌||◌, T, ◌⊎◌, ◌==◌, Float}
use Rattle.std.proofs.Common.{sym, ◌∙◌, inl, inr, mul-one, zero-mul, eqb→eq}
use Rattle.std.proofs.Math.Nat.{eq_of_mul-eq-mul_right}
use Rattle.std.specs.Bool.{beq}
use Rattle.std.proofs.lemmas.Bool.{false≢true}
use Rattle.std.specs.Float.{nan, inf, fin, Format}
use Rattle.std.specs.Float.Ieee.{up, down, unlike, neg, add, sub, mul, lt, le, eq, is_nan}
use Rattle.std.specs.Float.Ieee.Fits.{and_l, up_pos, eq→eqb}
use Rattle.std.specs.Float.Ieee.Scale.{finite}
use Rattle.float.specs.Zero.{+0}
use Rattle.float.specs.Fused.{fma, plus}
use Rattle.float.proofs.Rising.{finite_between, unsigned, sub_rises, fma_rises}
use Rattle.float.proofs.Zeros.{is_zero, zero_le_zero, mul_zero_right, mul_rises, fma_zero_rises}
use Rattle.float.proofs.Ordered.{le_same}

-- ---- a finite result has finite operands
never : (c : Bool) (s : Bool) → T (finite (cond c nan (inf s))) → ⊥
never true s h = h
never false s h = h

never' : (c : Bool) (s : Bool) → T (finite (cond c (inf s) nan)) → ⊥
never' true s h = h
never' false s h = h

pub add_left : (f : Format) (x z : Float) → T (finite (add f x z)) → T (finite x)
unfolding add
add_left f nan z h = h
add_left f (inf s) nan h = h
add_left f (inf s) (inf t) h = never' (beq s t) s h
add_left f (inf s) (fin t n d) h = h
add_left f (fin s m e) z h = tt

pub mul_left : (f : Format) (x y : Float) → T (finite (mul f x y)) → T (finite x)
unfolding mul
mul_left f nan y h = h
mul_left f (inf s) nan h = h
mul_left f (inf s) (inf t) h = h
mul_left f (inf s) (fin t n d) h = never (n == 0) (unlike s t) h
mul_left f (fin s m e) y h = tt

pub mul_right : (f : Format) (x y : Float) → T (finite (mul f x y)) → T (finite y)
unfolding mul
mul_right f nan y h = absurd h
mul_right f (inf s) nan h = h
mul_right f (inf s) (inf t) h = h
mul_right f (inf s) (fin t n d) h = tt
mul_right f (fin s m e) nan h = h
mul_right f (fin s m e) (inf t) h = never (m == 0) (unlike s t) h
mul_right f (fin s m e) (fin t n d) h = tt

pub fma_left : (f : Format) (x y z : Float) → T (finite (fma f x y z)) → T (finite x)
unfolding fma
fma_left f nan y z h = h
fma_left f (inf s) y z h = mul_left f (inf s) y (add_left f (mul f (inf s) y) z h)
fma_left f (fin s m e) y z h = tt

pub fma_last : (f : Format) (x y z : Float) → T (finite (fma f x y z)) → T (finite z)
unfolding fma plus
fma_last f nan y z h = absurd h
fma_last f (inf s) y z h = absurd (mul_left f (inf s) y (add_left f (mul f (inf s) y) z h))
fma_last f (fin s m e) nan z h = absurd h
fma_last f (fin s m e) (inf t) z h = absurd (mul_right f (fin s m e) (inf t) (add_left f (mul f (fin s m e) (inf t)) z h))
fma_last f (fin s m e) (fin t n d) nan h = h
fma_last f (fin s m e) (fin t n d) (inf u) h = h
fma_last f (fin s m e) (fin t n d) (fin u k g) h = tt

pub sub_left : (f : Format) (x y : Float) → T (finite (sub f x y)) → T (finite x)
unfolding sub
sub_left f x y h = add_left f x (neg y) h

-- ---- y from x to z, all finite
pub record Mid (x y z : Float) : Type 0 where
  pub first : T (finite x)
  pub real : T (finite y)
  pub last : T (finite z)
  pub rise : T (le x y)
  pub on : T (le y z)

-- what lies between two finite numbers is finite
pub mid : (x y z : Float) → T (finite x) → T (finite z) → T (le x y) → T (le y z) → Mid x y z
mid x y z p q h k = record { first = p; real = finite_between x y z p q h k; last = q; rise = h; on = k }

-- a factor with no minus sign, or a zero of either sign
abbrev pub Factor : Float → Type 0
Factor r = T (unsigned r) ⊎ T (is_zero r)

-- what is above 0 has no minus sign, and what equals 0 is a zero
pub positive_unsigned : (v : Float) → T (finite v) → lt +0 v ≡ true → T (unsigned v)
unfolding lt
positive_unsigned nan p h = elim p [ ]
positive_unsigned (inf _) p h = elim p [ ]
positive_unsigned (fin false m e) p h = tt
positive_unsigned (fin true m e) p h = absurd (false≢true h)

pub equals_zero : (v : Float) → T (eq v +0) → T (is_zero v)
unfolding eq
equals_zero nan h = h
equals_zero (inf s) h = h
equals_zero (fin s m e) h =
    eq→eqb (eq_of_mul-eq-mul_right (up e) (up_pos e) m 0
    (sym (mul-one (m * up e))
    ∙ eqb→eq (m * up e * 1) (0 * 1 * down e) (and_l (m * up e * 1 == 0 * 1 * down e) (beq s false || m * up e * 1 == 0) h)
    ∙ zero-mul (down e) ∙ sym (zero-mul (up e))))

pub le_self : (x : Float) → T (finite x) → T (le x x)
unfolding is_nan
le_self nan h = elim h [ ]
le_self (inf _) h = elim h [ ]
le_self (fin s m e) h = le_same (fin s m e) tt

-- one amount taken from both
pub sub_mono : (f : Format) (x y t : Float) → T (finite x) → T (finite y) → T (finite t) → T (le x y) → T (le (sub f x t) (sub f y t))
sub_mono f x y t p q r h = sub_rises f x y t t p q r r h (le_self t r)

-- the same amount taken from all three
pub mid_sub : (f : Format) (x y z t : Float) → Mid x y z → T (finite t) → T (finite (sub f x t)) → T (finite (sub f z t))
    → Mid (sub f x t) (sub f y t) (sub f z t)
mid_sub f x y z t h p a b = mid (sub f x t) (sub f y t) (sub f z t) a b
    (sub_mono f x y t h.first h.real p h.rise) (sub_mono f y z t h.real h.last p h.on)

factor_mul_rises : (f : Format) (x y r : Float) → T (finite x) → T (finite y) → Factor r → T (le x y) → T (le (mul f x r) (mul f y r))
factor_mul_rises f x y r p q (inl u) h = mul_rises f x y r p q u h
factor_mul_rises f x y r p q (inr o) h = zero_le_zero (mul f x r) (mul f y r) (mul_zero_right f x r p o) (mul_zero_right f y r q o)

-- all three by one factor
pub mid_mul : (f : Format) (x y z r : Float) → Mid x y z → Factor r → T (finite (mul f x r)) → T (finite (mul f z r)) → Mid (mul f x r) (mul f y r) (mul f z r)
mid_mul f x y z r h u a b =
    mid (mul f x r) (mul f y r) (mul f z r) a b (factor_mul_rises f x y r h.first h.real u h.rise)
    (factor_mul_rises f y z r h.real h.last u h.on)

factor_fma_rises : (f : Format) (x y r v w : Float) → T (finite x) → T (finite y) → Factor r → T (finite v) → T (finite w) → T (le x y) → T (le v w)
    → T (le (fma f x r v) (fma f y r w))
factor_fma_rises f x y r v w p q (inl u) a b h k = fma_rises f x y r v w p q u a b h k
factor_fma_rises f x y r v w p q (inr o) a b h k = fma_zero_rises f x y r r v w p q o o a b k

-- all three by one factor, with three in order added
pub mid_fma : (f : Format) (x y z r u v w : Float) → Mid x y z → Factor r → Mid u v w → T (finite (fma f x r u)) → T (finite (fma f z r w))
    → Mid (fma f x r u) (fma f y r v) (fma f z r w)
mid_fma f x y z r u v w h o k a b = mid (fma f x r u) (fma f y r v) (fma f z r w) a b
    (factor_fma_rises f x y r u v h.first h.real o k.first k.real h.rise k.rise)
    (factor_fma_rises f y z r v w h.real h.last o k.real k.last h.on k.on)
