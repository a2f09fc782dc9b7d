-- A float from -2 ^ 31 to 2 ^ 31 - 1, as an integer of 64 bits and of 32.
use Rattle.std.proofs.Common.{◌≡◌, ℕ, ◌+◌, ◌-◌, ◌*◌, ◌/◌, ◌^◌, ◌<◌, ◌≤◌, min, Bool, true, false, ◌&&◌, ◌||◌, T, eqb, ltb, ℤ, pos, neg_ℤ, sym, refl, ap, subst, true≢false, le_of_suc-le-suc, lt_of_le_of_lt, suc-mul, div-lt_iff_lt-mul, arith, lt→ltb}
use lib.Ieee.{Float, nan, inf, fin, up, down, le, lt, eq, of_int, to_signed}
use lib.Ieee.Fits.{down_pos}
use lib.Ieee.Bits.{is_true}
use lib.Ieee.Scale.{finite}
use Rattle.refusals.specs.Results.{ok, refused, need}
use Rattle.float.specs.Coordinate.{coordinate}
use Rattle.float.proofs.Tests.{yes, or_l}
use Rattle.float.proofs.Rising.{le→signed, finite_between}

-- a / c is at most k
quotient_le : (a c k : ℕ) → 0 < c → a ≤ k * c → a / c ≤ k
quotient_le a c k C h = le_of_suc-le-suc ((div-lt_iff_lt-mul C).1 (lt_of_le_of_lt h (subst (λ (x : ℕ). k * c < x) (sym (suc-mul k c)) (more (k * c) c C))))
  where
    more : (x c : ℕ) → 0 < c → x < x + c
    more x c h = omega arith

pos_range : (m : ℕ) (e : ℤ) → T (le (fin false m e) (fin false 2147483647 (pos 0))) → m * up e ≤ 2147483647 * down e
pos_range m e h = plain (m * up e) (down e) (le→signed false m e false 2147483647 (pos 0) h)
  where
    plain : (X d : ℕ) → X * 1 + 0 ≤ 2147483647 * 1 * d + 0 → X ≤ 2147483647 * d
    plain X d h = omega arith

neg_range : (m : ℕ) (e : ℤ) → T (le (fin true 1 (pos 31)) (fin true m e)) → m * up e ≤ 2147483648 * down e
neg_range m e h = plain (m * up e) (down e) (le→signed true 1 (pos 31) true m e h)
  where
    plain : (X d : ℕ) → 0 + X * 1 ≤ 0 + 1 * 2147483648 * d → X ≤ 2147483648 * d
    plain X d h = omega arith

wide : (X d : ℕ) → 0 < d → X ≤ 2147483648 * d → X * 1 < 1 * 9223372036854775808 * d
wide X d p h = omega arith

some : (x d : ℕ) → 0 < d → 0 < 1 * 9223372036854775808 * d + x
some x d h = omega arith

some_r : (x d : ℕ) → 0 < d → 0 < x + 1 * 9223372036854775808 * d
some_r x d h = omega arith

below_max : (X d : ℕ) → X ≤ 2147483647 * d → X ≤ 2147483648 * d
below_max X d h = omega arith

pub in_64 : (v : Float) → T (le (fin true 1 (pos 31)) v) → T (le v (fin false 2147483647 (pos 0)))
    → T (le (fin true 1 (pos 63)) v) × T (lt v (fin false 1 (pos 63)))
unfolding le lt eq
in_64 nan h k = absurd h
in_64 (inf true) h k = absurd h
in_64 (inf false) h k = absurd k
in_64 (fin false m e) h k = (
  or_l (ltb 0 (1 * 9223372036854775808 * down e + m * up e * 1))
      (eqb (1 * 9223372036854775808 * down e) (m * up e * 1) && (false || eqb (1 * 9223372036854775808 * down e) 0))
      (lt→ltb 0 (1 * 9223372036854775808 * down e + m * up e * 1) (some (m * up e * 1) (down e) (down_pos e))),
  lt→ltb (m * up e * 1) (1 * 9223372036854775808 * down e) (wide (m * up e) (down e) (down_pos e) (below_max (m * up e) (down e) (pos_range m e k))),
)
in_64 (fin true m e) h k = (
  or_l (ltb (m * up e * 1) (1 * 9223372036854775808 * down e)) (eqb (1 * 9223372036854775808 * down e) (m * up e * 1) && true)
      (lt→ltb (m * up e * 1) (1 * 9223372036854775808 * down e) (wide (m * up e) (down e) (down_pos e) (neg_range m e h))),
  lt→ltb 0 (m * up e * 1 + 1 * 9223372036854775808 * down e) (some_r (m * up e * 1) (down e) (down_pos e)),
)

pub same_signed : (v : Float) → T (le (fin true 1 (pos 31)) v) → T (le v (fin false 2147483647 (pos 0))) → to_signed 63 v ≡ to_signed 31 v
unfolding le lt eq to_signed
same_signed nan h k = absurd h
same_signed (inf true) h k = absurd h
same_signed (inf false) h k = absurd k
same_signed (fin false m e) h k = ap pos (cap (m * up e / down e) (quotient_le (m * up e) (down e) 2147483647 (down_pos e) (pos_range m e k)))
  where
    cap : (n : ℕ) → n ≤ 2147483647 → min n (2 ^ 63 - 1) ≡ min n (2 ^ 31 - 1)
    cap n h = omega arith
same_signed (fin true m e) h k =
    ap (λ (n : ℕ). neg_ℤ (pos n)) (cap (m * up e / down e) (quotient_le (m * up e) (down e) 2147483648 (down_pos e) (neg_range m e h)))
  where
    cap : (n : ℕ) → n ≤ 2147483648 → min n (2 ^ 63) ≡ min n (2 ^ 31)
    cap n h = omega arith

-- ---- by the tests of `coordinate`
abbrev bottom : Float
bottom = fin true 1 (pos 31)

abbrev ceiling : Float
ceiling = fin false 2147483647 (pos 0)

taken : (v : Float) (b : Bool) → (finite v && le bottom v && le v ceiling) ≡ b → coordinate v ≡ need b 16 (ok (to_signed 31 v))
unfolding coordinate of_int
taken v b e = ap (λ (t : Bool). need t 16 (ok (to_signed 31 v))) e

pub inside : (v : Float) → le bottom v ≡ true → le v ceiling ≡ true → coordinate v ≡ ok (to_signed 31 v)
inside v h k = taken v true (all (finite v) (le bottom v) (le v ceiling) (is_true (finite v) (finite_between bottom v ceiling tt tt (yes h) (yes k))) h k)
  where
    all : (a b c : Bool) → a ≡ true → b ≡ true → c ≡ true → (a && b && c) ≡ true
    all a b c p q r = cc

pub under : (v : Float) → le bottom v ≡ false → coordinate v ≡ refused 16
under v h = taken v false (second (finite v) (le bottom v) (le v ceiling) h)
  where
    second : (a b c : Bool) → b ≡ false → (a && b && c) ≡ false
    second true true c e = absurd (true≢false e)
    second true false c e = refl
    second false b c e = refl

pub over : (v : Float) → le v ceiling ≡ false → coordinate v ≡ refused 16
over v h = taken v false (third (finite v) (le bottom v) (le v ceiling) h)
  where
    third : (a b c : Bool) → c ≡ false → (a && b && c) ≡ false
    third true true c e = e
    third true false c e = refl
    third false b c e = refl
