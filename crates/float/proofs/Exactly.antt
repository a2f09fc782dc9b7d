-- A value that fits is what `round` makes of its own fraction, and the whole part of one fits; a product with 1 and a sum with a zero change nothing.
use Rattle.std.specs.Prelude.{◌≡◌, ℕ, zero, suc, ◌+◌, ◌-◌, ◌*◌, ◌/◌, ◌%◌, ◌^◌, ◌<◌, ◌≤◌, Bool, true, false, cond, ◌&&◌, T, ℤ, pos, negsuc, ◌==◌, from_bits, nat_le, nat_lt, refl, Float}
use Rattle.std.proofs.Common.{sym, ap, ◌∙◌, subst, zero-le, le_trans, le_of_eq, le_of_lt, lt_of_lt_of_le, div-one, div-le_self, mul_comm, mul_assoc, mul-one, one-mul, zero-mul, mul_right_comm, mul-pos, mul-lt-mul_of_pos_right, lt_irrefl, lt_of_le_of_lt, zero-lt-suc, arith, ltb→lt, nltb→le, leb→le, eqb→eq, pow-add, pow_pos, pow_mono, shl_lt}
use Rattle.std.proofs.Math.Nat.{zero-div}
use Rattle.std.proofs.Math.Pow.{pow-lt}
use Rattle.std.specs.Float.{nan, inf, fin, Format}
use Rattle.std.specs.Float.Ieee.{prec, emax, low, up, down, top, hid, size, unlike, round, sum, add, mul, le, fits, to_bits, is_nan}
use Rattle.std.specs.Float.Ieee.Fits.{round-fits, and_l, and_r, up_pos, down_pos, reach}
use Rattle.std.specs.Float.Ieee.Exact.{HasValue, round_exact}
use Rattle.std.specs.Float.Ieee.Nearest.{div_same}
use Rattle.std.specs.Float.Ieee.Back.{round_whole}
use Rattle.std.specs.Float.Ieee.Scale.{finite, round_same}
use Rattle.std.specs.Float.Ieee.Bits.{of_bits-to_bits}
use Rattle.float.specs.Zero.{+0}
use Rattle.float.proofs.Sums.{sum_zero, sum_zeros, sum_comm}
use Rattle.float.proofs.Tests.{yes, no}
use Rattle.float.proofs.Zeros.{is_zero, zero_le_zero, round_none}
use Rattle.float.proofs.Ordered.{le_same}

-- ---- one value, one float
-- the pattern of a / c
pub bits_at : (f : Format) (x : Float) (s : Bool) (a c : ℕ) → 0 < c → HasValue x s a c
    → to_bits f x ≡ cond s (top f) 0 + (size (a * 2 ^ low f / c) - prec f) * hid f + a * 2 ^ low f / c / 2 ^ (size (a * 2 ^ low f / c) - prec f)
unfolding to_bits
bits_at f (fin t m e) s a c C v =
    let w = m * up e * 2 ^ low f / down e in
    ap (λ (b : Bool). cond b (top f) 0 + (size w - prec f) * hid f + w / 2 ^ (size w - prec f)) v.0
    ∙ ap (λ (n : ℕ). cond s (top f) 0 + (size n - prec f) * hid f + n / 2 ^ (size n - prec f))
    (div_same (m * up e * 2 ^ low f) (down e) (a * 2 ^ low f) c (down_pos e) C
    (mul_right_comm (m * up e) (2 ^ low f) c ∙ ap (λ (x : ℕ). x * 2 ^ low f) v.1 ∙ mul_right_comm a (down e) (2 ^ low f)))
bits_at f nan s a c C v = absurd v
bits_at f (inf t) s a c C v = absurd v

-- of one format, two floats of one value are the same
pub unique : (f : Format) (x y : Float) (s : Bool) (a c : ℕ) → 0 < c → T (fits f x) → T (fits f y) → HasValue x s a c → HasValue y s a c → x ≡ y
unique f x y s a c C p q v w = sym (of_bits-to_bits f x p) ∙ ap (from_bits f) (bits_at f x s a c C v ∙ sym (bits_at f y s a c C w)) ∙ of_bits-to_bits f y q

-- ---- `round` at a value that fits
-- a value that fits has no more digits than the format keeps
pub small : (f : Format) (s : Bool) (m : ℕ) (e : ℤ) → T (fits f (fin s (suc m) e)) → suc m < 2 ^ prec f
unfolding fits
small f s m e t =
    ltb→lt (suc m) (2 ^ prec f)
    (and_r (suc m % 2 == 1) (nat_lt (suc m) (2 ^ prec f))
    (and_l (suc m % 2 == 1 && nat_lt (suc m) (2 ^ prec f)) (nat_le (down e) (2 ^ low f))
    (and_l (suc m % 2 == 1 && nat_lt (suc m) (2 ^ prec f) && nat_le (down e) (2 ^ low f)) (nat_lt (suc m * up e) (2 ^ suc (emax f) * down e)) t)))

bound : (f : Format) (s : Bool) (m : ℕ) (e : ℤ) → T (fits f (fin s (suc m) e)) → suc m * up e < 2 ^ suc (emax f) * down e
unfolding fits
bound f s m e t =
    ltb→lt (suc m * up e) (2 ^ suc (emax f) * down e)
    (and_r (suc m % 2 == 1 && nat_lt (suc m) (2 ^ prec f) && nat_le (down e) (2 ^ low f)) (nat_lt (suc m * up e) (2 ^ suc (emax f) * down e)) t)

fine : (f : Format) (s : Bool) (m : ℕ) (e : ℤ) → T (fits f (fin s (suc m) e)) → down e ≤ 2 ^ low f
unfolding fits
fine f s m e t =
    leb→le (down e) (2 ^ low f)
    (and_r (suc m % 2 == 1 && nat_lt (suc m) (2 ^ prec f)) (nat_le (down e) (2 ^ low f))
    (and_l (suc m % 2 == 1 && nat_lt (suc m) (2 ^ prec f) && nat_le (down e) (2 ^ low f)) (nat_lt (suc m * up e) (2 ^ suc (emax f) * down e)) t))

-- what fits is not rounded
pub exact : (f : Format) (s : Bool) (m : ℕ) (e : ℤ) → T (fits f (fin s m e)) → HasValue (round f s (m * up e) (down e)) s (m * up e) (down e)
exact f s zero e h =
    round_exact f s (0 * up e) (down e) 0 0 (down_pos e) (pow_pos (prec f)) (lt_of_le_of_lt (le_of_eq (zero-mul (2 ^ 0))) (pow_pos (low f + suc (emax f))))
    (ap (λ (x : ℕ). x * 2 ^ low f) (zero-mul (up e)) ∙ zero-mul (2 ^ low f) ∙ sym (zero-mul (down e)) ∙ ap (λ (x : ℕ). x * down e) (sym (zero-mul (2 ^ 0))))
exact f s (suc m) (pos a) h =
    let j : suc m * 2 ^ a * 2 ^ low f ≡ suc m * 2 ^ (a + low f) =
    mul_assoc (suc m) (2 ^ a) (2 ^ low f) ∙ ap (λ (x : ℕ). suc m * x) (sym (pow-add 2 a (low f))) in
    round_exact f s (suc m * 2 ^ a) 1 (suc m) (a + low f) (zero-lt-suc 0) (small f s m (pos a) h)
    (subst (λ (x : ℕ). x < 2 ^ (low f + suc (emax f))) j
    (lt_of_lt_of_le (mul-lt-mul_of_pos_right (bound f s m (pos a) h) (pow_pos (low f)))
    (le_of_eq (ap (λ (x : ℕ). x * 2 ^ low f) (mul-one (2 ^ suc (emax f))) ∙ mul_comm (2 ^ suc (emax f)) (2 ^ low f)
    ∙ sym (pow-add 2 (low f) (suc (emax f)))))))
    (j ∙ sym (mul-one (suc m * 2 ^ (a + low f))))
exact f s (suc m) (negsuc a) h =
    let j = low f - suc a in
    let l : j + suc a ≡ low f = join (low f) (suc a) (order (suc a) (low f) (fine f s m (negsuc a) h)) in
    round_exact f s (suc m * 1) (2 ^ suc a) (suc m) j (pow_pos (suc a)) (small f s m (negsuc a) h)
    (lt_of_lt_of_le (shl_lt (prec f) j (small f s m (negsuc a) h)) (pow_mono (room (prec f) (low f) (suc a) (suc (emax f)) (reach f))))
    (ap (λ (x : ℕ). suc m * 1 * 2 ^ x) (sym l) ∙ ap (λ (x : ℕ). x * 2 ^ (j + suc a)) (mul-one (suc m))
    ∙ ap (λ (x : ℕ). suc m * x) (pow-add 2 j (suc a)) ∙ sym (mul_assoc (suc m) (2 ^ j) (2 ^ suc a)))
  where
    join : (l a : ℕ) → a ≤ l → l - a + a ≡ l
    join l a h = omega arith

    room : (p l a e : ℕ) → p ≤ e → p + (l - a) ≤ l + e
    room p l a e h = omega arith

    order : (a l : ℕ) → 2 ^ a ≤ 2 ^ l → a ≤ l
    order a l h = go (nat_lt l a) refl
      where
        go : (b : Bool) → nat_lt l a ≡ b → a ≤ l
        go true e = absurd (lt_irrefl (2 ^ l) (lt_of_lt_of_le (pow-lt (ltb→lt l a (yes e))) h))
        go false e = nltb→le l a (no (nat_lt l a) e)

-- a value that fits is what `round` makes of it
pub round_back : (f : Format) (s : Bool) (m : ℕ) (e : ℤ) → T (fits f (fin s m e)) → round f s (m * up e) (down e) ≡ fin s m e
round_back f s m e h =
    unique f (round f s (m * up e) (down e)) (fin s m e) s (m * up e) (down e) (down_pos e) (round-fits f s (m * up e) (down e)) h (exact f s m e h)
    (refl, refl)

-- what `trunc` makes has the whole part for its value
pub whole_value : (f : Format) (s : Bool) (m : ℕ) (e : ℤ) → T (fits f (fin s m e)) → HasValue (round f s (m * up e / down e) 1) s (m * up e / down e) 1
whole_value f s zero e h =
    subst (λ (n : ℕ). HasValue (round f s n 1) s n 1) (sym (ap (λ (x : ℕ). x / down e) (zero-mul (up e)) ∙ zero-div (down e))) (round_whole f s 0 zero-le)
whole_value f s (suc m) (negsuc a) h =
    round_whole f s (suc m * 1 / 2 ^ suc a)
    (le_trans (div-le_self (suc m * 1) (2 ^ suc a)) (le_trans (le_of_eq (mul-one (suc m))) (le_of_lt (small f s m (negsuc a) h))))
whole_value f s (suc m) (pos a) h = subst (λ (n : ℕ). HasValue (round f s n 1) s n 1) (sym (div-one (suc m * 2 ^ a))) (exact f s (suc m) (pos a) h)

-- a fraction of the same value
pub round_to : (f : Format) (s : Bool) (a c : ℕ) (m : ℕ) (e : ℤ) → T (fits f (fin s m e)) → 0 < c → a * down e ≡ m * up e * c → round f s a c ≡ fin s m e
round_to f s a c m e h C p = round_same f s a c (m * up e) (down e) C (down_pos e) p ∙ round_back f s m e h

-- 1
abbrev pub unit : Float
unit = fin false 1 (pos 0)

-- 1 * x is x, and 0 * x is a zero
pub mul_unit : (f : Format) (x : Float) → T (finite x) → T (fits f x) → mul f unit x ≡ x
unfolding mul
mul_unit f nan p h = elim p [ ]
mul_unit f (inf _) p h = elim p [ ]
mul_unit f (fin s m e) p h =
    ap (λ (b : Bool). round f b (1 * 1 * (m * up e)) (1 * down e)) (left s)
    ∙ round_to f s (1 * 1 * (m * up e)) (1 * down e) m e h (mul-pos (zero-lt-suc 0) (down_pos e))
    (ap (λ (x : ℕ). x * down e) (one-mul (m * up e)) ∙ ap (λ (x : ℕ). m * up e * x) (sym (one-mul (down e))))
  where
    left : (s : Bool) → unlike false s ≡ s
    left true = refl
    left false = refl

pub mul_none : (f : Format) (x : Float) → T (finite x) → T (is_zero (mul f +0 x))
unfolding mul
mul_none f nan p = elim p [ ]
mul_none f (inf _) p = elim p [ ]
mul_none f (fin s m e) p =
    subst (λ (x : Float). T (is_zero x))
    (sym (round_none f (unlike false s) (0 * 1 * (m * up e)) (1 * down e) (mul-pos (zero-lt-suc 0) (down_pos e)) (zero-mul (m * up e)))) tt

-- x + 0 and 0 + x are x, as numbers
pub add_zero : (f : Format) (x z : Float) → T (finite x) → T (fits f x) → T (is_zero z) → T (le (add f x z) x) × T (le x (add f x z))
unfolding add is_nan
add_zero f nan _ p h z = elim p [ ]
add_zero f (inf _) _ p h z = elim p [ ]
add_zero f (fin s zero e) nan p h z = elim z [ ]
add_zero f (fin s zero e) (inf _) p h z = elim z [ ]
add_zero f (fin s (suc m) e) nan p h z = elim z [ ]
add_zero f (fin s (suc m) e) (inf _) p h z = elim z [ ]
add_zero f (fin s zero e) (fin t n d) p h z =
    let c = down e * down d in
    let r : add f (fin s 0 e) (fin t n d) ≡ round f (s && t) 0 c = ap (λ (x : ℕ). sum f s (0 * up e * down d) t (x * up d * down e) c) (eqb→eq n 0 z)
    ∙ ap (λ (x : ℕ). sum f s x t (0 * up d * down e) c) (ap (λ (x : ℕ). x * down d) (zero-mul (up e)) ∙ zero-mul (down d))
    ∙ ap (λ (x : ℕ). sum f s 0 t x c) (ap (λ (x : ℕ). x * down e) (zero-mul (up d)) ∙ zero-mul (down e)) ∙ sum_zeros f s t c in
    let o : T (is_zero (add f (fin s 0 e) (fin t n d))) =
    subst (λ (x : Float). T (is_zero x)) (sym (r ∙ round_none f (s && t) 0 c (mul-pos (down_pos e) (down_pos d)) refl)) tt in
    (zero_le_zero (add f (fin s 0 e) (fin t n d)) (fin s 0 e) o tt, zero_le_zero (fin s 0 e) (add f (fin s 0 e) (fin t n d)) tt o)
add_zero f (fin s (suc m) e) (fin t n d) p h z =
    let c = down e * down d in
    let A = suc m * up e * down d in
    let r : add f (fin s (suc m) e) (fin t n d) ≡ fin s (suc m) e =
    ap (λ (x : ℕ). sum f s A t (x * up d * down e) c) (eqb→eq n 0 z)
    ∙ ap (λ (x : ℕ). sum f s A t x c) (ap (λ (x : ℕ). x * down e) (zero-mul (up d)) ∙ zero-mul (down e))
    ∙ sum_zero f s t A c (mul-pos (mul-pos (zero-lt-suc m) (up_pos e)) (down_pos d))
    ∙ round_to f s A c (suc m) e h (mul-pos (down_pos e) (down_pos d))
    (mul_assoc (suc m * up e) (down d) (down e) ∙ ap (λ (x : ℕ). suc m * up e * x) (mul_comm (down d) (down e))) in (
      subst (λ (x : Float). T (le x (fin s (suc m) e))) (sym r) (le_same (fin s (suc m) e) tt),
      subst (λ (x : Float). T (le (fin s (suc m) e) x)) (sym r) (le_same (fin s (suc m) e) tt),
    )

-- a sum does not turn on the order
pub add_comm : (f : Format) (x z : Float) → T (finite x) → T (finite z) → add f x z ≡ add f z x
unfolding add
add_comm f nan z p q = elim p [ ]
add_comm f (inf _) z p q = elim p [ ]
add_comm f (fin s m e) nan p q = elim q [ ]
add_comm f (fin s m e) (inf _) p q = elim q [ ]
add_comm f (fin s m e) (fin t n d) p q =
    sum_comm f s t (m * up e * down d) (n * up d * down e) (down e * down d)
    ∙ ap (λ (c : ℕ). sum f t (n * up d * down e) s (m * up e * down d) c) (mul_comm (down e) (down d))
