-- Two floats that differ at most in the sign of a zero, and what does not tell them apart: a zero added to a product, a product by zero added to a
-- number, 1 added or taken away, a floor. Assumes nothing.
use Rattle.std.specs.Prelude.{◌≡◌, ℕ, zero, suc, ◌+◌, ◌-◌, ◌*◌, ◌/◌, ◌<◌, Bool, true, false, ◌&&◌, T, ◌⊎◌, ℤ, pos, refl, Float}
use Rattle.std.proofs.Common.{sym, ap, ◌∙◌, subst, inl, inr, mul_assoc, mul_comm, mul-zero, zero-mul, zero-lt-suc, mul-pos, arith, eqb→eq}
use Rattle.std.proofs.Math.Nat.{zero-div, div-eq_of_lt}
use Rattle.std.specs.Float.{nan, inf, fin, Format, binary32, binary64}
use Rattle.std.specs.Float.Ieee.{up, down, unlike, neg, round, sum, add, sub, mul, lt, le, eq, of_int, to_signed, fits}
use Rattle.std.specs.Float.Ieee.Fits.{down_pos, up_pos}
use Rattle.std.specs.Float.Ieee.Scale.{finite, round_same}
use Rattle.refusals.specs.Results.{ok}
use Rattle.float.specs.Fused.{fma, plus, narrow, floor}
use Rattle.float.specs.Coordinate.{coordinate}
use Rattle.float.proofs.Sums.{sum_comm, sum_zero, sum_zeros}
use Rattle.float.proofs.Zeros.{is_zero, round_none}
use Rattle.float.proofs.Exactly.{round_to, unit}

abbrev pub Alike : Float → Float → Type 0
Alike x y = (x ≡ y) ⊎ (T (is_zero x) × T (is_zero y))

as_zero : (x y : Float) → x ≡ y → T (is_zero x) → T (is_zero y)
as_zero x y e h = subst (λ (v : Float). T (is_zero v)) e h

pub alike_through : (x y z : Float) → Alike x y → Alike y z → Alike x z
alike_through x y z (inl p) (inl q) = inl (p ∙ q)
alike_through x y z (inl p) (inr (a, b)) = inr (as_zero y x (sym p) a, b)
alike_through x y z (inr (a, b)) (inl q) = inr (a, as_zero y z q b)
alike_through x y z (inr (a, b)) (inr (c, d)) = inr (a, d)

round_zero : (f : Format) (s : Bool) (a c : ℕ) → 0 < c → a ≡ 0 → T (is_zero (round f s a c))
round_zero f s a c C e = subst (λ (x : Float). T (is_zero x)) (sym (round_none f s a c C e)) tt

pub narrow_zero : (x : Float) → T (is_zero x) → T (is_zero (narrow x))
unfolding narrow
narrow_zero nan h = elim h [ ]
narrow_zero (inf _) h = elim h [ ]
narrow_zero (fin s m e) h = round_zero binary32 s (m * up e) (down e) (down_pos e) (ap (λ (k : ℕ). k * up e) (eqb→eq m 0 h) ∙ zero-mul (up e))

-- nothing, or something
some : (a : ℕ) → (a ≡ 0) ⊎ (0 < a)
some zero = inl refl
some (suc a) = inr (zero-lt-suc a)

-- ---- sums with a zero

-- a / c + 0
sum_nothing : (f : Format) (s t : Bool) (a b c : ℕ) → 0 < c → b ≡ 0 → Alike (sum f s a t b c) (round f s a c)
sum_nothing f s t a b c C e = elim (some a) [
  | inl z ↦ inr (
    subst (λ (x : Float). T (is_zero x))
        (sym (ap (λ (n : ℕ). sum f s a t n c) e ∙ ap (λ (n : ℕ). sum f s n t 0 c) z ∙ sum_zeros f s t c)) (round_zero f (s && t) 0 c C refl),
    round_zero f s a c C z,
  )
  | inr l ↦ inl (ap (λ (n : ℕ). sum f s a t n c) e ∙ sum_zero f s t a c l)
]

-- x * r + 0 is x * r
pub fma_plain : (f : Format) (x r z : Float) → T (finite x) → T (finite r) → T (is_zero z) → Alike (fma f x r z) (mul f x r)
unfolding fma plus mul
fma_plain f nan r z p q h = elim p [ ]
fma_plain f (inf _) r z p q h = elim p [ ]
fma_plain f (fin s m e) nan z p q h = elim q [ ]
fma_plain f (fin s m e) (inf _) z p q h = elim q [ ]
fma_plain f (fin s m e) (fin t n d) nan p q h = elim h [ ]
fma_plain f (fin s m e) (fin t n d) (inf _) p q h = elim h [ ]
fma_plain f (fin s m e) (fin t n d) (fin u k g) p q h =
    let P = m * up e * (n * up d) in
    let C = down e * down d in
    let c : 0 < C = mul-pos (down_pos e) (down_pos d) in
    let w : round f (unlike s t) (P * down g) (C * down g) ≡ round f (unlike s t) P C =
    round_same f (unlike s t) (P * down g) (C * down g) P C (mul-pos c (down_pos g)) c
    (mul_assoc P (down g) C ∙ ap (λ (x : ℕ). P * x) (mul_comm (down g) C)) in
    alike_through (sum f (unlike s t) (P * down g) u (k * up g * C) (C * down g)) (round f (unlike s t) (P * down g) (C * down g)) (round f (unlike s t) P C)
    (sum_nothing f (unlike s t) u (P * down g) (k * up g * C) (C * down g) (mul-pos c (down_pos g))
    (ap (λ (x : ℕ). x * up g * C) (eqb→eq k 0 h) ∙ ap (λ (x : ℕ). x * C) (zero-mul (up g)) ∙ zero-mul C))
    (inl w)

-- x * 0 + z is z
pub fma_none : (f : Format) (x r z : Float) → T (finite x) → T (is_zero r) → T (fits f z) → Alike (fma f x r z) z
unfolding fma plus
fma_none f nan r z p q h = elim p [ ]
fma_none f (inf _) r z p q h = elim p [ ]
fma_none f (fin s m e) nan z p q h = elim q [ ]
fma_none f (fin s m e) (inf _) z p q h = elim q [ ]
fma_none f (fin s m e) (fin t n d) nan p q h = inl refl
fma_none f (fin s m e) (fin t n d) (inf u) p q h = inl refl
fma_none f (fin s m e) (fin t n d) (fin u k g) p q h =
    let P = m * up e * (n * up d) in
    let C = down e * down d in
    let c : 0 < C = mul-pos (down_pos e) (down_pos d) in
    let w : round f u (k * up g * C) (C * down g) ≡ fin u k g =
    round_to f u (k * up g * C) (C * down g) k g h (mul-pos c (down_pos g)) (mul_assoc (k * up g) C (down g)) in
    let b : P * down g ≡ 0 =
    ap (λ (x : ℕ). m * up e * (x * up d) * down g) (eqb→eq n 0 q) ∙ ap (λ (x : ℕ). m * up e * x * down g) (zero-mul (up d))
    ∙ ap (λ (x : ℕ). x * down g) (mul-zero (m * up e)) ∙ zero-mul (down g) in
    subst (λ (x : Float). Alike x (fin u k g)) (sym (sum_comm f (unlike s t) u (P * down g) (k * up g * C) (C * down g)))
    (alike_through (sum f u (k * up g * C) (unlike s t) (P * down g) (C * down g)) (round f u (k * up g * C) (C * down g)) (fin u k g)
    (sum_nothing f u (unlike s t) (k * up g * C) (P * down g) (C * down g) (mul-pos c (down_pos g)) b) (inl w))

-- 0 + y is y, whatever the sign of the 0
pub add_nothing : (f : Format) (x : Float) (t : Bool) (n : ℕ) (d : ℤ) → T (is_zero x) → add f x (fin t (suc n) d) ≡ round f t (suc n * up d) (down d)
unfolding add
add_nothing f nan t n d h = elim h [ ]
add_nothing f (inf _) t n d h = elim h [ ]
add_nothing f (fin s m e) t n d h =
    let Y = suc n * up d in
    let C = down e * down d in
    ap (λ (k : ℕ). sum f s (k * up e * down d) t (Y * down e) C) (eqb→eq m 0 h)
    ∙ ap (λ (k : ℕ). sum f s k t (Y * down e) C) (ap (λ (k : ℕ). k * down d) (zero-mul (up e)) ∙ zero-mul (down d))
    ∙ sum_comm f s t 0 (Y * down e) C ∙ sum_zero f t s (Y * down e) C (mul-pos (mul-pos (zero-lt-suc n) (up_pos d)) (down_pos e))
    ∙ round_same f t (Y * down e) C Y (down d) (mul-pos (down_pos e) (down_pos d)) (down_pos d) (mul_assoc Y (down e) (down d))

abbrev one : Float
one = of_int binary64 (pos 1)

one_is : one ≡ unit
unfolding of_int
one_is = refl

less_is : neg one ≡ fin true 1 (pos 0)
unfolding of_int neg
less_is = refl

pub more_same : (x y : Float) → Alike x y → add binary64 x one ≡ add binary64 y one
more_same x y (inl e) = ap (λ (v : Float). add binary64 v one) e
more_same x y (inr (a, b)) =
    ap (add binary64 x) one_is ∙ add_nothing binary64 x false 0 (pos 0) a ∙ sym (add_nothing binary64 y false 0 (pos 0) b) ∙ ap (add binary64 y) (sym one_is)

pub less_same : (x y : Float) → Alike x y → sub binary64 x one ≡ sub binary64 y one
unfolding sub
less_same x y (inl e) = ap (λ (v : Float). add binary64 v (neg one)) e
less_same x y (inr (a, b)) =
    ap (add binary64 x) less_is ∙ add_nothing binary64 x true 0 (pos 0) a ∙ sym (add_nothing binary64 y true 0 (pos 0) b) ∙ ap (add binary64 y) (sym less_is)

-- ---- the floor of a zero is a zero
floor_is : (x : Float) → T (is_zero x) → (s : Bool) × (floor binary64 x ≡ fin s 0 (pos 0))
unfolding floor
floor_is nan h = elim h [ ]
floor_is (inf _) h = elim h [ ]
floor_is (fin false m e) h = (
  false,
  round_none binary64 false (m * up e / down e) 1 (zero-lt-suc 0)
      (ap (λ (k : ℕ). k * up e / down e) (eqb→eq m 0 h) ∙ ap (λ (k : ℕ). k / down e) (zero-mul (up e)) ∙ zero-div (down e)),
)
floor_is (fin true m e) h = (
  true,
  round_none binary64 true ((m * up e + (down e - 1)) / down e) 1 (zero-lt-suc 0)
      (ap (λ (k : ℕ). (k * up e + (down e - 1)) / down e) (eqb→eq m 0 h) ∙ ap (λ (k : ℕ). (k + (down e - 1)) / down e) (zero-mul (up e))
      ∙ div-eq_of_lt (short (down e) (down_pos e))),
)
  where
    short : (d : ℕ) → 0 < d → 0 + (d - 1) < d
    short d h = omega arith

floor_zero : (x : Float) → T (is_zero x) → T (is_zero (floor binary64 x))
floor_zero x h = let (s, e) = floor_is x h in as_zero (fin s 0 (pos 0)) (floor binary64 x) (sym e) tt

pub floor_same : (x y : Float) → Alike x y → Alike (floor binary64 x) (floor binary64 y)
floor_same x y (inl e) = inl (ap (floor binary64) e)
floor_same x y (inr (a, b)) = inr (floor_zero x a, floor_zero y b)

zero_coordinate : (s : Bool) → coordinate (fin s 0 (pos 0)) ≡ ok (pos 0)
unfolding coordinate le lt eq to_signed of_int
zero_coordinate true = refl
zero_coordinate false = refl

pub floor_coordinate : (x : Float) → T (is_zero x) → coordinate (floor binary64 x) ≡ ok (pos 0)
floor_coordinate x h = let (s, e) = floor_is x h in ap coordinate e ∙ zero_coordinate s
