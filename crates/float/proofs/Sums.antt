-- `sum` by its cases: the signs alike, or one magnitude larger than the other, or neither.
use Rattle.std.specs.Prelude.{◌≡◌, ℕ, ◌+◌, ◌-◌, ◌*◌, ◌<◌, ◌≤◌, Bool, true, false, cond, ◌&&◌, ◌⊎◌, nat_lt, refl}
use Rattle.std.proofs.Common.{sym, ap, ◌∙◌, subst, inl, inr, add_comm, add-mul, mul_comm, eq-or-lt_of_le, mul-lt-mul_of_pos_right, lt_of_mul-lt-mul_right, zero-mul, add-zero, arith, ltb→lt, nltb→le, lt-ltb, le-ltb}
use Rattle.std.proofs.Math.Nat.{mul-sub, sub_self, eq_of_mul-eq-mul_right}
use Rattle.std.specs.Bool.{beq}
use Rattle.std.specs.Float.{Format}
use Rattle.std.specs.Float.Ieee.{round, sum}
use Rattle.std.specs.Float.Ieee.Scale.{round_same}
use Rattle.float.proofs.Tests.{yes_or_no}

le_of : (a b : ℕ) → a < b → a ≤ b
le_of a b h = omega arith

eq_le : (a b : ℕ) → a ≡ b → b ≤ a
eq_le a b h = omega arith

and_true : (s : Bool) → (s && true) ≡ s
and_true true = refl
and_true false = refl

and_false : (s : Bool) → (s && false) ≡ false
and_false true = refl
and_false false = refl

-- the signs alike
pub sum_alike : (f : Format) (s t : Bool) (a b c : ℕ) → beq s t ≡ true → sum f s a t b c ≡ round f s (a + b) c
unfolding sum
sum_alike f s t a b c e = ap (λ (x : Bool). cond x (round f s (a + b) c) (cond (nat_lt a b) (round f t (b - a) c) (round f (s && nat_lt b a) (a - b) c))) e

-- unlike, and b the larger
pub sum_below : (f : Format) (s t : Bool) (a b c : ℕ) → beq s t ≡ false → a < b → sum f s a t b c ≡ round f t (b - a) c
unfolding sum
sum_below f s t a b c e h =
    ap (λ (x : Bool). cond x (round f s (a + b) c) (cond (nat_lt a b) (round f t (b - a) c) (round f (s && nat_lt b a) (a - b) c))) e
    ∙ ap (λ (x : Bool). cond x (round f t (b - a) c) (round f (s && nat_lt b a) (a - b) c)) (lt-ltb a b h)

-- unlike, and a the larger
pub sum_above : (f : Format) (s t : Bool) (a b c : ℕ) → beq s t ≡ false → b < a → sum f s a t b c ≡ round f s (a - b) c
unfolding sum
sum_above f s t a b c e h =
    ap (λ (x : Bool). cond x (round f s (a + b) c) (cond (nat_lt a b) (round f t (b - a) c) (round f (s && nat_lt b a) (a - b) c))) e
    ∙ ap (λ (x : Bool). cond x (round f t (b - a) c) (round f (s && nat_lt b a) (a - b) c)) (le-ltb a b (le_of b a h))
    ∙ ap (λ (x : Bool). round f (s && x) (a - b) c) (lt-ltb b a h)
    ∙ ap (λ (x : Bool). round f x (a - b) c) (and_true s)

-- unlike, and neither is larger: +0
pub sum_level : (f : Format) (s t : Bool) (a b c : ℕ) → beq s t ≡ false → a ≡ b → sum f s a t b c ≡ round f false 0 c
unfolding sum
sum_level f s t a b c e h =
    ap (λ (x : Bool). cond x (round f s (a + b) c) (cond (nat_lt a b) (round f t (b - a) c) (round f (s && nat_lt b a) (a - b) c))) e
    ∙ ap (λ (x : Bool). cond x (round f t (b - a) c) (round f (s && nat_lt b a) (a - b) c)) (le-ltb a b (eq_le a b h))
    ∙ ap (λ (x : Bool). round f (s && x) (a - b) c) (le-ltb b a (eq_le b a (sym h)))
    ∙ ap (λ (x : Bool). round f x (a - b) c) (and_false s)
    ∙ ap (λ (x : ℕ). round f false x c) (ap (λ (x : ℕ). x - b) h ∙ sub_self b)

-- how two numbers compare
pub data Order (a b : ℕ) : Type 0 where
  below : a < b → Order a b
  level : a ≡ b → Order a b
  above : b < a → Order a b

pub order : (a b : ℕ) → Order a b
order a b = elim (yes_or_no (nat_lt a b)) [
  | inl t ↦ below (ltb→lt a b t)
  | inr t ↦ elim (eq-or-lt_of_le (nltb→le a b t)) [ inl e ↦ level (sym e) | inr l ↦ above l ]
]

flip : (s t : Bool) → beq s t ≡ false → beq t s ≡ false
flip true true e = e
flip true false e = refl
flip false true e = refl
flip false false e = e

alike : (s t : Bool) → beq s t ≡ true → s ≡ t
alike true true e = refl
alike true false e = sym e
alike false true e = e
alike false false e = refl

flip_alike : (s t : Bool) → beq s t ≡ true → beq t s ≡ true
flip_alike true true e = e
flip_alike true false e = e
flip_alike false true e = e
flip_alike false false e = e

split : (s t : Bool) → (beq s t ≡ true) ⊎ (beq s t ≡ false)
split true true = inl refl
split true false = inr refl
split false true = inr refl
split false false = inl refl

-- a sum does not turn on the order
pub sum_comm : (f : Format) (s t : Bool) (a b c : ℕ) → sum f s a t b c ≡ sum f t b s a c
sum_comm f s t a b c = elim (split s t) [
  | inl e ↦ sum_alike f s t a b c e ∙ ap (λ (x : ℕ). round f s x c) (add_comm a b) ∙ ap (λ (x : Bool). round f x (b + a) c) (alike s t e)
      ∙ sym (sum_alike f t s b a c (flip_alike s t e))
  | inr e ↦ elim (order a b) [
    | below l ↦ sum_below f s t a b c e l ∙ sym (sum_above f t s b a c (flip s t e) l)
    | level l ↦ sum_level f s t a b c e l ∙ sym (sum_level f t s b a c (flip s t e) (sym l))
    | above l ↦ sum_above f s t a b c e l ∙ sym (sum_below f t s b a c (flip s t e) l)
  ]
]

pub sub_mul : (A W E : ℕ) → A * E - W * E ≡ (A - W) * E
sub_mul A W E = ap (λ (x : ℕ). x - W * E) (mul_comm A E) ∙ ap (λ (x : ℕ). E * A - x) (mul_comm W E) ∙ sym (mul-sub E A W) ∙ mul_comm E (A - W)

-- the fractions a / c and b / c, written anew as a' / c' and b' / c'
pub sum_same : (f : Format) (s t : Bool) (a b c a' b' c' : ℕ) → 0 < c → 0 < c' → a * c' ≡ a' * c → b * c' ≡ b' * c → sum f s a t b c ≡ sum f s a' t b' c'
sum_same f s t a b c a' b' c' C C' p q = elim (split s t) [
  | inl e ↦ sum_alike f s t a b c e
      ∙ round_same f s (a + b) c (a' + b') c' C C'
      (add-mul a b c' ∙ ap (λ (x : ℕ). x + b * c') p ∙ ap (λ (x : ℕ). a' * c + x) q ∙ sym (add-mul a' b' c)) ∙ sym (sum_alike f s t a' b' c' e)
  | inr e ↦ elim (order a b) [
    | below l ↦ sum_below f s t a b c e l ∙ round_same f t (b - a) c (b' - a') c' C C' (diff b a b' a' q p)
        ∙ sym (sum_below f s t a' b' c' e (carry a b a' b' p q l))
    | level l ↦ sum_level f s t a b c e l ∙ round_same f false 0 c 0 c' C C' (zero-mul c' ∙ sym (zero-mul c))
        ∙ sym (sum_level f s t a' b' c' e (eq_of_mul-eq-mul_right c C a' b' (sym p ∙ ap (λ (x : ℕ). x * c') l ∙ q)))
    | above l ↦ sum_above f s t a b c e l ∙ round_same f s (a - b) c (a' - b') c' C C' (diff a b a' b' p q)
        ∙ sym (sum_above f s t a' b' c' e (carry b a b' a' q p l))
  ]
]
  where
    diff : (a b a' b' : ℕ) → a * c' ≡ a' * c → b * c' ≡ b' * c → (a - b) * c' ≡ (a' - b') * c
    diff a b a' b' p q = sym (sub_mul a b c') ∙ ap (λ (x : ℕ). x - b * c') p ∙ ap (λ (x : ℕ). a' * c - x) q ∙ sub_mul a' b' c

    carry : (a b a' b' : ℕ) → a * c' ≡ a' * c → b * c' ≡ b' * c → a < b → a' < b'
    carry a b a' b' p q l = lt_of_mul-lt-mul_right c (subst (λ (x : ℕ). x < b' * c) p (subst (λ (x : ℕ). a * c' < x) q (mul-lt-mul_of_pos_right l C')))

-- ---- zeros
pub sum_zeros : (f : Format) (s t : Bool) (c : ℕ) → sum f s 0 t 0 c ≡ round f (s && t) 0 c
unfolding sum
sum_zeros f true true c = refl
sum_zeros f true false c = refl
sum_zeros f false true c = refl
sum_zeros f false false c = refl

-- a zero changes nothing
pub sum_zero : (f : Format) (s t : Bool) (a c : ℕ) → 0 < a → sum f s a t 0 c ≡ round f s a c
sum_zero f s t a c h = elim (split s t) [
  | inl e ↦ sum_alike f s t a 0 c e ∙ ap (λ (x : ℕ). round f s x c) (add-zero a)
  | inr e ↦ sum_above f s t a 0 c e h ∙ ap (λ (x : ℕ). round f s x c) (none a)
]
  where
    none : (a : ℕ) → a - 0 ≡ a
    none a = omega arith
