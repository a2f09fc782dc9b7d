-- Sizes of floats in units: of what fits, and in the order of the floats that are not negative. Assumes nothing.
use Rattle.std.specs.Prelude.{◌≡◌, ℕ, ◌+◌, ◌*◌, ◌/◌, ◌^◌, ◌<◌, ◌≤◌, Bool, true, false, T, ℤ, pos, refl, Float}
use Rattle.std.proofs.Common.{sym, ap, ◌∙◌, subst, inl, inr, zero-le, le_trans, le_of_eq, mul-one, one-mul, zero-mul, mul-le-mul_right, le_of_mul-le-mul_right, mul_right_comm, le-div_iff_mul-le, mul-div_cancel, div-one, arith, lit<, pow_pos}
use Rattle.std.proofs.Math.Nat.{eq_of_mul-eq-mul_right}
use Rattle.std.specs.Float.{nan, inf, fin, Format, binary32, binary64}
use Rattle.std.specs.Float.Ieee.{low, up, down, add, sub, mul, le, fits}
use Rattle.std.specs.Float.Ieee.Fits.{down_pos, up_pos, eq→eqb}
use Rattle.std.specs.Float.Ieee.Exact.{HasValue}
use Rattle.std.specs.Float.Ieee.Nearest.{div_mono}
use Rattle.std.specs.Float.Ieee.Order.{transfer}
use Rattle.std.specs.Float.Ieee.Scale.{finite, grid, round_under, round_val}
use Rattle.float.specs.Zero.{+0}
use Rattle.float.proofs.Rising.{Sle, le→signed, add_rises, sub_rises}
use Rattle.float.proofs.Zeros.{zero_le_zero, mul_zero_right, mul_rises}
use Rattle.float.proofs.Exactly.{unit, round_back, mul_none}
use Rattle.float.proofs.Ordered.{le_through}
use Rattle.float.proofs.Numbers.{fits_plain}
use Rattle.float.proofs.Middle.{Factor, le_self}
use Rattle.float.proofs.Rounded.{Sized}
use Rattle.float.proofs.Steps.{Low}
use Rattle.float.specs.Units.{units_of}

pub sized_finite : (f : Format) (x : Float) (R : ℕ) → Sized f x R → T (finite x)
sized_finite f nan R h = h
sized_finite f (inf s) R h = h
sized_finite f (fin s m e) R h = tt

-- what fits is a whole number of units
pub sized_fits : (f : Format) (x : Float) → T (finite x) → T (fits f x) → (R : ℕ) × Sized f x R
sized_fits f nan p h = elim p [ ]
sized_fits f (inf _) p h = elim p [ ]
sized_fits f (fin s m e) p h =
    let r = round_back f false m e (fits_plain f s m e h) in
    let g = round_under f (m * up e) (down e) (subst (λ (z : Float). T (finite z)) (sym r) tt) in
    let v : HasValue (fin false m e) false (grid f (m * up e) (down e)) (2 ^ low f) =
    subst (λ (z : Float). HasValue z false (grid f (m * up e) (down e)) (2 ^ low f)) r (round_val f (m * up e) (down e) g) in
    (grid f (m * up e) (down e), v.1)

-- and `units_of` is that number
pub units_is : (x : Float) (R : ℕ) → Sized binary32 x R → units_of x ≡ R
units_is nan R h = absurd h
units_is (inf s) R h = absurd h
units_is (fin s m e) R h = ap (λ (n : ℕ). n / down e) h ∙ mul-div_cancel R (down_pos e)

-- `units_of` loses nothing of an f32
pub units_exact : (x : Float) → T (finite x) → T (fits binary32 x) → Sized binary32 x (units_of x)
units_exact x p h = let (R, v) = sized_fits binary32 x p h in subst (λ (n : ℕ). Sized binary32 x n) (sym (units_is x R v)) v

-- ---- not negative: no minus sign, or a zero
no_size : (f : Format) (m : ℕ) (e : ℤ) (s : Bool) (R : ℕ) → Sized f (fin s m e) R → m * up e ≡ 0 → R ≡ 0
no_size f m e s R h z =
    eq_of_mul-eq-mul_right (down e) (down_pos e) R 0
    (sym h ∙ ap (λ (x : ℕ). x * 2 ^ low f) z ∙ zero-mul (2 ^ low f) ∙ sym (zero-mul (down e)))

minus_none : (m : ℕ) (e : ℤ) → T (le +0 (fin true m e)) → m * up e ≡ 0
minus_none m e h = plain (m * up e) (0 * 1 * down e) (le→signed false 0 (pos 0) true m e h)
  where
    plain : (a b : ℕ) → b + a * 1 ≤ 0 + 0 → a ≡ 0
    plain a b h = omega arith

pub low_of : (f : Format) (x : Float) (R : ℕ) → Sized f x R → T (le +0 x) → Low x R
low_of f nan R v h = v
low_of f (inf s) R v h = v
low_of f (fin s m e) R v h = λ b. no_size f m e s R v (minus_none m e (subst (λ (o : Bool). T (le +0 (fin o m e))) b h))

pub factor : (x : Float) → T (finite x) → T (le +0 x) → Factor x
factor nan p h = elim p [ ]
factor (inf _) p h = elim p [ ]
factor (fin false m e) p h = inl tt
factor (fin true m e) p h = inr (eq→eqb (eq_of_mul-eq-mul_right (up e) (up_pos e) m 0 (minus_none m e h ∙ sym (zero-mul (up e)))))

-- the order of the sizes
plainly : (t : Bool) (a b : ℕ) → Sle false a t b → a ≤ b
plainly true a b h = omega arith
plainly false a b h = omega arith

pub size_le : (f : Format) (x y : Float) (X Y : ℕ) → Sized f x X → Sized f y Y → Low x X → T (le x y) → X ≤ Y
size_le f (fin true m e) (fin t n d) X Y v w l h = le_trans (le_of_eq (l refl)) zero-le
size_le f (fin false m e) (fin t n d) X Y v w l h =
    le_of_mul-le-mul_right
    (transfer X Y (2 ^ low f) (2 ^ low f) (m * up e) (n * up d) (down e) (down d) (down_pos e) (down_pos d) (sym v) (sym w)
    (plainly t (m * up e * down d) (n * up d * down e) (le→signed false m e t n d h)))
    (pow_pos (low f))
size_le f (fin s m e) nan X Y v w l h = absurd w
size_le f (fin s m e) (inf t) X Y v w l h = absurd w
size_le f nan y X Y v w l h = absurd v
size_le f (inf s) y X Y v w l h = absurd v

-- what is at most F is at most `units_of F`, also where F is no whole number of units
pub units_le : (x F : Float) (X : ℕ) → Sized binary32 x X → Low x X → T (finite F) → T (le x F) → X ≤ units_of F
units_le (fin false m e) nan X v l p h = elim p [ ]
units_le (fin false m e) (inf _) X v l p h = elim p [ ]
units_le (fin true m e) nan X v l p h = elim p [ ]
units_le (fin true m e) (inf _) X v l p h = elim p [ ]
units_le (fin true m e) (fin t n d) X v l p h = le_trans (le_of_eq (l refl)) zero-le
units_le (fin false m e) (fin t n d) X v l p h =
    let more : m * up e * down d ≤ n * up d * down e = plainly t (m * up e * down d) (n * up d * down e) (le→signed false m e t n d h) in
    let first : X * down d * down e ≡ m * up e * down d * 2 ^ 149 =
    mul_right_comm X (down d) (down e) ∙ ap (λ (x : ℕ). x * down d) (sym v) ∙ mul_right_comm (m * up e) (2 ^ 149) (down d) in
    (le-div_iff_mul-le (down_pos d)).1
    (le_of_mul-le-mul_right
    (le_trans (le_of_eq first) (le_trans (mul-le-mul_right (2 ^ 149) more) (le_of_eq (mul_right_comm (n * up d) (down e) (2 ^ 149)))))
    (down_pos e))
units_le nan F X v l p h = absurd v
units_le (inf s) F X v l p h = absurd v

under : (a c q : ℕ) → 0 < c → a * 1 ≤ q * c → a / c ≤ q
under a c q C h = le_trans (div_mono a c q 1 C (lit< tt) h) (le_of_eq (div-one q))

-- what is at most 2 ^ k is at most 2 ^ (k + 149) units
pub units_top : (k : ℕ) (F : Float) → T (finite F) → T (le +0 F) → T (le F (fin false 1 (pos k))) → units_of F ≤ 2 ^ k * 2 ^ 149
units_top k nan p o h = elim p [ ]
units_top k (inf _) p o h = elim p [ ]
units_top k (fin true m e) p o h =
    under (m * up e * 2 ^ 149) (down e) (2 ^ k * 2 ^ 149) (down_pos e)
    (le_trans (le_of_eq (mul-one (m * up e * 2 ^ 149) ∙ ap (λ (x : ℕ). x * 2 ^ 149) (minus_none m e o))) zero-le)
units_top k (fin false m e) p o h =
    let most : m * up e * 1 ≤ 2 ^ k * down e =
    subst (λ (z : ℕ). m * up e * 1 ≤ z * down e) (one-mul (2 ^ k)) (plain (m * up e * 1) (1 * 2 ^ k * down e) (le→signed false m e false 1 (pos k) h)) in
    under (m * up e * 2 ^ 149) (down e) (2 ^ k * 2 ^ 149) (down_pos e)
    (le_trans (le_of_eq (mul_right_comm (m * up e) (2 ^ 149) 1))
    (le_trans (mul-le-mul_right (2 ^ 149) most) (le_of_eq (mul_right_comm (2 ^ k) (down e) (2 ^ 149)))))
  where
    plain : (a b : ℕ) → a + 0 ≤ b + 0 → a ≤ b
    plain a b h = omega arith

-- ---- products, sums and 1 - t are not negative
pub mul_low : (f : Format) (x y : Float) → T (finite x) → T (finite y) → T (le +0 x) → T (le +0 y) → T (le +0 (mul f x y))
mul_low f x y p q h k = elim (factor y q k) [
  | inl u ↦ le_through +0 (mul f +0 y) (mul f x y) (zero_le_zero +0 (mul f +0 y) tt (mul_none f y q)) (mul_rises f +0 x y tt p u h)
  | inr o ↦ zero_le_zero +0 (mul f x y) tt (mul_zero_right f x y p o)
]

none_and_none : (f : Format) → add f +0 +0 ≡ +0
unfolding add
none_and_none binary32 = refl
none_and_none binary64 = refl

pub add_low : (f : Format) (x y : Float) → T (finite x) → T (finite y) → T (le +0 x) → T (le +0 y) → T (le +0 (add f x y))
add_low f x y p q h k = subst (λ (z : Float). T (le z (add f x y))) (none_and_none f) (add_rises f +0 x +0 y tt p tt q h k)

less_unit : (f : Format) → sub f unit unit ≡ +0
unfolding sub
less_unit binary32 = refl
less_unit binary64 = refl

pub rest_low : (f : Format) (t : Float) → T (finite t) → T (le t unit) → T (le +0 (sub f unit t))
rest_low f t p h = subst (λ (z : Float). T (le z (sub f unit t))) (less_unit f) (sub_rises f unit unit unit t tt tt tt p (le_self unit tt) h)
