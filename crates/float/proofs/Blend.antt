-- (1 - t) * low + t * high, each step rounded: a number for each t from 0 to 1, low at 0 and high at 1.
use Rattle.std.specs.Prelude.{◌≡◌, ℕ, ◌*◌, ◌^◌, ◌<◌, ◌≤◌, Bool, true, false, cond, not, T, pos, ◌==◌, refl, Float}
use Rattle.std.proofs.Common.{sym, ap, ◌∙◌, subst, zero-le, le_trans, le_of_eq, mul_comm, mul_assoc, mul_left_comm, mul-one, one-mul, zero-mul, mul-pos, lt_irrefl, eqb→eq, lit<}
use Rattle.std.specs.Float.{nan, inf, fin, Format, binary32, binary64}
use Rattle.std.specs.Float.Ieee.{prec, up, down, unlike, round, neg, add, sub, mul, div, le, of_int, fits, is_nan}
use Rattle.std.specs.Float.Ieee.Fits.{down_pos}
use Rattle.std.specs.Float.Ieee.Exact.{HasValue}
use Rattle.std.specs.Float.Ieee.Back.{round_whole}
use Rattle.std.specs.Float.Ieee.Order.{round_mono}
use Rattle.std.specs.Float.Ieee.Scale.{finite, round_same}
use Rattle.float.specs.Zero.{+0}
use Rattle.float.proofs.Tests.{yes, no}
use Rattle.float.proofs.Rising.{round_neg, finite_neg, sub_rises, finite_between}
use Rattle.float.proofs.Zeros.{is_zero, round_none, mul_rises, zero_finite}
use Rattle.float.proofs.Ordered.{le_same}
use Rattle.float.proofs.Exactly.{unit, mul_unit, mul_none, add_zero, add_comm}
use Rattle.float.proofs.Numbers.{add_number, fits_plain}

-- t of the way from l to h
abbrev pub blend : Format → Float → Float → Float → Float
blend f t l h = add f (mul f (sub f unit t) l) (mul f t h)

-- k / n
abbrev pub part : Format → ℕ → ℕ → Float
part f k n = round f false k n

-- finite, and a value of the format
abbrev pub Held : Format → Float → Type 0
Held f x = T (finite x) × T (fits f x)

div_at : (f : Format) (x y : Float) (k n : ℕ) → 0 < n → HasValue x false k 1 → HasValue y false n 1 → div f x y ≡ round f false k n
unfolding div
div_at f (fin s m e) (fin t b d) k n N v w =
    go (b == 0) refl
    ∙ ap (λ (o : Bool). round f o (m * up e * down d) (b * up d * down e)) (ap (λ (o : Bool). unlike o t) v.0 ∙ ap (unlike false) w.0)
    ∙ round_same f false (m * up e * down d) (b * up d * down e) k n
    (subst (λ (x : ℕ). 0 < x * down e) (sym (sym (mul-one (b * up d)) ∙ w.1)) (mul-pos (mul-pos N (down_pos d)) (down_pos e))) N
    (ap (λ (x : ℕ). x * down d * n) (sym (mul-one (m * up e)) ∙ v.1) ∙ turn k (down e) (down d) n
    ∙ ap (λ (x : ℕ). k * (x * down e)) (sym (sym (mul-one (b * up d)) ∙ w.1)))
  where
    turn : (k e d n : ℕ) → k * e * d * n ≡ k * (n * d * e)
    turn k e d n = simp (mul_assoc, mul_comm, mul_left_comm)

    go : (c : Bool) → (b == 0) ≡ c
        → cond c (cond (m == 0) nan (inf (unlike s t))) (round f (unlike s t) (m * up e * down d) (b * up d * down e))
        ≡ round f (unlike s t) (m * up e * down d) (b * up d * down e)
    go true e =
        absurd (lt_irrefl 0 (subst (λ (x : ℕ). 0 < x)
        (sym w.1 ∙ ap (λ (x : ℕ). x * up d * 1) (eqb→eq b 0 (yes e)) ∙ ap (λ (x : ℕ). x * 1) (zero-mul (up d)) ∙ zero-mul 1) (mul-pos N (down_pos d))))
    go false e = refl
div_at f (fin s m e) nan k n N v w = absurd w
div_at f (fin s m e) (inf t) k n N v w = absurd w
div_at f nan y k n N v w = absurd v
div_at f (inf s) y k n N v w = absurd v

one_is : (f : Format) → of_int f (pos 1) ≡ unit
unfolding of_int
one_is binary32 = refl
one_is binary64 = refl

one_part : (f : Format) → round f false 1 1 ≡ unit
unfolding round
one_part binary32 = refl
one_part binary64 = refl

less_unit : (f : Format) → sub f unit unit ≡ +0
unfolding sub
less_unit binary32 = refl
less_unit binary64 = refl

less_none : (f : Format) → sub f unit +0 ≡ unit
unfolding sub
less_none binary32 = refl
less_none binary64 = refl

-- the quotient of two whole numbers that the format holds
pub quotient : (f : Format) (n k : ℕ) → 0 < n → n ≤ 2 ^ prec f → k ≤ n → div f (of_int f (pos k)) (of_int f (pos n)) ≡ part f k n
unfolding of_int
quotient f n k N h l = div_at f (round f false k 1) (round f false n 1) k n N (round_whole f false k (le_trans l h)) (round_whole f false n h)

-- the corner k of n cells, as it is written
pub blend_at : (f : Format) (n k : ℕ) (l h : Float) → 0 < n → n ≤ 2 ^ prec f → k ≤ n
    → add f (mul f (sub f (of_int f (pos 1)) (div f (of_int f (pos k)) (of_int f (pos n)))) l) (mul f (div f (of_int f (pos k)) (of_int f (pos n))) h)
    ≡ blend f (part f k n) l h
blend_at f n k l h N b i =
    ap (λ (t : Float). add f (mul f (sub f (of_int f (pos 1)) t) l) (mul f t h)) (quotient f n k N b i)
    ∙ ap (λ (o : Float). add f (mul f (sub f o (part f k n)) l) (mul f (part f k n) h)) (one_is f)

-- ---- from 0 to 1
pub record Unit01 (t : Float) : Type 0 where
  pub real : T (finite t)
  pub low : T (le +0 t)
  pub high : T (le t unit)

-- a part lies from 0 to 1
pub part_01 : (f : Format) (n k : ℕ) → 0 < n → k ≤ n → Unit01 (part f k n)
part_01 f n k N l =
    let a : T (le +0 (part f k n)) =
    subst (λ (x : Float). T (le x (part f k n))) (round_none f false 0 1 (lit< tt) refl)
    (round_mono f 0 1 k n (lit< tt) N (le_trans (le_of_eq (zero-mul n)) zero-le)) in
    let b : T (le (part f k n) unit) =
    subst (λ (x : Float). T (le (part f k n) x)) (one_part f)
    (round_mono f k n 1 1 N (lit< tt) (le_trans (le_of_eq (mul-one k)) (le_trans l (le_of_eq (sym (one-mul n)))))) in
    record { real = finite_between +0 (part f k n) unit tt tt a b; low = a; high = b }

rest_01 : (f : Format) (t : Float) → Unit01 t → Unit01 (sub f unit t)
unfolding is_nan
rest_01 f t h =
    let a : T (le +0 (sub f unit t)) =
    subst (λ (x : Float). T (le x (sub f unit t))) (less_unit f) (sub_rises f unit unit unit t tt tt tt h.real (le_same unit tt) h.high) in
    let b : T (le (sub f unit t) unit) =
    subst (λ (x : Float). T (le (sub f unit t) x)) (less_none f) (sub_rises f unit unit t +0 tt tt h.real tt (le_same unit tt) h.low) in
    record { real = finite_between +0 (sub f unit t) unit tt tt a b; low = a; high = b }

neg_finite : (x : Float) → T (finite (neg x)) → T (finite x)
unfolding neg
neg_finite nan h = h
neg_finite (inf s) h = h
neg_finite (fin s m e) h = tt

-- whether `round` overflows does not turn on the sign
either_sign : (f : Format) (s t : Bool) (a c : ℕ) → T (finite (round f s a c)) → T (finite (round f t a c))
either_sign f true true a c h = h
either_sign f false false a c h = h
either_sign f true false a c h = neg_finite (round f false a c) (subst (λ (x : Float). T (finite x)) (round_neg f a c) h)
either_sign f false true a c h = subst (λ (x : Float). T (finite x)) (sym (round_neg f a c)) (finite_neg (round f false a c) h)

-- x by a number from 0 to 1: finite
pub shrunk : (f : Format) (t x : Float) → Unit01 t → T (finite x) → T (fits f x) → T (finite (mul f t x))
unfolding mul
shrunk f t nan h p q = elim p [ ]
shrunk f t (inf _) h p q = elim p [ ]
shrunk f t (fin s m e) h p q = go t h.real (finite_between (mul f +0 x') (mul f t x') x' (zero_finite (mul f +0 x') (mul_none f x' tt)) tt
    (mul_rises f +0 t x' tt h.real tt h.low)
    (subst (λ (y : Float). T (le (mul f t x') y)) (mul_unit f x' tt (fits_plain f s m e q)) (mul_rises f t unit x' h.real tt tt h.high)))
  where
    x' : Float
    x' = fin false m e

    go : (t : Float) → T (finite t) → T (finite (mul f t (fin false m e))) → T (finite (mul f t (fin s m e)))
    go nan p h = elim p [ ]
    go (inf _) p h = elim p [ ]
    go (fin o a j) p h = either_sign f (unlike o false) (unlike o s) (a * up j * (m * up e)) (down j * down e) h

-- ---- (1 - t) * low + t * high
pub blend_number : (f : Format) (t l h : Float) → Unit01 t → Held f l → Held f h → T (not (is_nan (blend f t l h)))
blend_number f t l h u p q =
    no (is_nan (blend f t l h))
    (add_number f (mul f (sub f unit t) l) (mul f t h) (shrunk f (sub f unit t) l (rest_01 f t u) p.0 p.1) (shrunk f t h u q.0 q.1))

-- as numbers, where zeros of either sign are equal
abbrev pub Same : Float → Float → Type 0
Same x y = T (le x y) × T (le y x)

-- t = 0 gives the low end, and t = 1 the high end
pub blend_first : (f : Format) (l h : Float) → Held f l → Held f h → Same (blend f +0 l h) l
blend_first f l h p q =
    let z = mul f +0 h in
    let e : blend f +0 l h ≡ add f l z = ap (λ (u : Float). add f (mul f u l) z) (less_none f) ∙ ap (λ (x : Float). add f x z) (mul_unit f l p.0 p.1) in
    subst (λ (x : Float). Same x l) (sym e) (add_zero f l z p.0 p.1 (mul_none f h q.0))

pub blend_last : (f : Format) (l h : Float) → Held f l → Held f h → Same (blend f unit l h) h
blend_last f l h p q =
    let z = mul f +0 l in
    let o : T (is_zero z) = mul_none f l p.0 in
    let e : blend f unit l h ≡ add f h z =
    ap (λ (u : Float). add f (mul f u l) (mul f unit h)) (less_unit f) ∙ ap (λ (x : Float). add f z x) (mul_unit f h q.0 q.1)
    ∙ add_comm f z h (zero_finite z o) q.0 in
    subst (λ (x : Float). Same x h) (sym e) (add_zero f h z q.0 q.1 o)

-- k / n is 0 for the first k, and 1 for the last
pub part_first : (f : Format) (n : ℕ) → 0 < n → part f 0 n ≡ +0
part_first f n N = round_none f false 0 n N refl

pub part_last : (f : Format) (n : ℕ) → 0 < n → part f n n ≡ unit
part_last f n N = round_same f false n n 1 1 N (lit< tt) (mul_comm n 1) ∙ one_part f
