-- The order of the floats, with signs: `le` is transitive, total where there is no NaN, and what `lt` says where it fails.
use Rattle.std.specs.Prelude.{◌≡◌, ℕ, zero, suc, ◌+◌, ◌*◌, ◌<◌, ◌≤◌, Bool, true, false, not, ◌&&◌, ◌||◌, T, ◌==◌, nat_lt, refl}
use Rattle.std.proofs.Common.{sym, ap, ◌∙◌, subst, inl, inr, zero-le, mul_right_comm, add-mul, zero-mul, le_of_mul-le-mul_right, le_trans, le_of_eq, eq-or-lt_of_le, arith, ltb→lt, lt→ltb, nltb→le, lit<}
use Rattle.std.proofs.Math.Nat.{le-suc}
use Rattle.std.proofs.lemmas.Bool.{false≢true}
use lib.Ieee.{Float, nan, inf, fin, up, down, below, level, lt, eq, le, is_nan}
use Rattle.std.specs.Float.Ieee.Fits.{down_pos, and_i, eq→eqb}
use Rattle.float.proofs.Tests.{neither_l, yes, yes_or_no, no, is_false, clash, or_l, or_r}
use Rattle.float.proofs.Rising.{over, under, Sle, le→signed, sle_scale}

-- ---- numbers with signs, over one denominator

sle→le : (s : Bool) (A : ℕ) (t : Bool) (B : ℕ) → Sle s A t B → T (below s A t B || level s A t B)
sle→le false A false B h = elim (eq-or-lt_of_le (plain A B h)) [
  | inl p ↦ or_r (nat_lt A B) (A == B && true) (and_i (A == B) true (eq→eqb p) tt)
  | inr q ↦ or_l (nat_lt A B) (A == B && true) (lt→ltb A B q)
]
  where
    plain : (a b : ℕ) → a + 0 ≤ b + 0 → a ≤ b
    plain a b h = omega arith
sle→le false A true B h = and_i (A == B) (false || A == 0) (eq→eqb (same A B h)) (eq→eqb (none A B h))
  where
    same : (a b : ℕ) → a + b ≤ 0 + 0 → a ≡ b
    same a b h = omega arith

    none : (a b : ℕ) → a + b ≤ 0 + 0 → a ≡ 0
    none a b h = omega arith
sle→le true A false B h = apart A B
  where
    apart : (X Y : ℕ) → T (nat_lt 0 (X + Y) || (X == Y && (false || X == 0)))
    apart zero zero = tt
    apart zero (suc Y) = or_l (nat_lt 0 (0 + suc Y)) (0 == suc Y && (false || 0 == 0)) (lt→ltb 0 (0 + suc Y) (omega arith))
    apart (suc X) Y = or_l (nat_lt 0 (suc X + Y)) (suc X == Y && (false || suc X == 0)) (lt→ltb 0 (suc X + Y) (omega arith))
sle→le true A true B h = elim (eq-or-lt_of_le (plain A B h)) [
  | inl p ↦ or_r (nat_lt B A) (A == B && true) (and_i (A == B) true (eq→eqb (sym p)) tt)
  | inr q ↦ or_l (nat_lt B A) (A == B && true) (lt→ltb B A q)
]
  where
    plain : (a b : ℕ) → 0 + b ≤ 0 + a → b ≤ a
    plain a b h = omega arith

not_below→sle : (s : Bool) (A : ℕ) (t : Bool) (B : ℕ) → below s A t B ≡ false → Sle t B s A
not_below→sle false A false B h = omega (arith, nltb→le A B (no (nat_lt A B) h))
not_below→sle false A true B h = zero-le
not_below→sle true A false B h = omega (arith, nltb→le 0 (A + B) (no (nat_lt 0 (A + B)) h))
not_below→sle true A true B h = omega (arith, nltb→le B A (no (nat_lt B A) h))

sle→not_below : (s : Bool) (A : ℕ) (t : Bool) (B : ℕ) → Sle t B s A → below s A t B ≡ false
sle→not_below false A false B h = is_false (nat_lt A B) (λ t. omega (arith, ltb→lt A B t))
sle→not_below false A true B h = refl
sle→not_below true A false B h = is_false (nat_lt 0 (A + B)) (λ t. omega (arith, ltb→lt 0 (A + B) t))
sle→not_below true A true B h = is_false (nat_lt B A) (λ t. omega (arith, ltb→lt B A t))

sle_unscale : (s : Bool) (a : ℕ) (t : Bool) (b k : ℕ) → 0 < k → Sle s (a * k) t (b * k) → Sle s a t b
sle_unscale false a false b k K h =
    le_of_mul-le-mul_right (le_trans (le_of_eq (add-mul a 0 k ∙ ap (λ (x : ℕ). a * k + x) (zero-mul k)))
    (le_trans h (le_of_eq (sym (add-mul b 0 k ∙ ap (λ (x : ℕ). b * k + x) (zero-mul k)))))) K
sle_unscale false a true b k K h = le_of_mul-le-mul_right (le_trans (le_of_eq (add-mul a b k)) (le_trans h zero-le)) K
sle_unscale true a false b k K h = zero-le
sle_unscale true a true b k K h =
    le_of_mul-le-mul_right (le_trans (le_of_eq (add-mul 0 b k ∙ ap (λ (x : ℕ). x + b * k) (zero-mul k)))
    (le_trans h (le_of_eq (sym (add-mul 0 a k ∙ ap (λ (x : ℕ). x + a * k) (zero-mul k)))))) K

sle_trans : (s : Bool) (a : ℕ) (t : Bool) (b : ℕ) (u : Bool) (c : ℕ) → Sle s a t b → Sle t b u c → Sle s a u c
sle_trans s a t b u c h k = through (over s a) (under s a) (over t b) (under t b) (over u c) (under u c) h k
  where
    through : (a a' b b' c c' : ℕ) → a + b' ≤ b + a' → b + c' ≤ c + b' → a + c' ≤ c + a'
    through a a' b b' c c' h k = omega arith

-- ---- floats

-- `le` is transitive
pub le_through : (x y z : Float) → T (le x y) → T (le y z) → T (le x z)
unfolding le lt eq
le_through nan y z h k = absurd h
le_through (inf s) nan z h k = absurd h
le_through (fin s m e) nan z h k = absurd h
le_through (inf s) (inf t) nan h k = absurd k
le_through (inf s) (fin t n d) nan h k = absurd k
le_through (fin s m e) (inf t) nan h k = absurd k
le_through (fin s m e) (fin t n d) nan h k = absurd k
le_through (inf true) (inf true) (inf u) h k = k
le_through (inf true) (inf false) (inf u) h k = bottom u
  where
    bottom : (u : Bool) → T (le (inf true) (inf u))
    bottom true = tt
    bottom false = tt
le_through (inf false) (inf true) (inf u) h k = absurd h
le_through (inf false) (inf false) (inf u) h k = k
le_through (inf true) (inf t) (fin u l g) h k = tt
le_through (inf false) (inf true) (fin u l g) h k = absurd h
le_through (inf false) (inf false) (fin u l g) h k = absurd k
le_through (inf true) (fin t n d) (inf true) h k = tt
le_through (inf true) (fin t n d) (inf false) h k = tt
le_through (inf false) (fin t n d) (inf u) h k = absurd h
le_through (inf true) (fin t n d) (fin u l g) h k = tt
le_through (inf false) (fin t n d) (fin u l g) h k = absurd h
le_through (fin s m e) (inf true) (inf u) h k = absurd h
le_through (fin s m e) (inf false) (inf true) h k = absurd k
le_through (fin s m e) (inf false) (inf false) h k = tt
le_through (fin s m e) (inf true) (fin u l g) h k = absurd h
le_through (fin s m e) (inf false) (fin u l g) h k = absurd k
le_through (fin s m e) (fin t n d) (inf true) h k = absurd k
le_through (fin s m e) (fin t n d) (inf false) h k = tt
le_through (fin s m e) (fin t n d) (fin u l g) h k =
    sle→le s (m * up e * down g) u (l * up g * down e) (sle_unscale s (m * up e * down g) u (l * up g * down e) (down d) (down_pos d)
    (sle_trans s (m * up e * down g * down d) t (n * up d * down e * down g) u (l * up g * down e * down d)
    (subst (λ (x : ℕ). Sle s x t (n * up d * down e * down g)) (turn (m * up e) (down d) (down g))
    (sle_scale s (m * up e * down d) t (n * up d * down e) (down g) (le→signed s m e t n d h)))
    (subst (λ (x : ℕ). Sle t x u (l * up g * down e * down d)) (turn (n * up d) (down g) (down e))
    (subst (λ (x : ℕ). Sle t (n * up d * down g * down e) u x) (turn (l * up g) (down d) (down e))
    (sle_scale t (n * up d * down g) u (l * up g * down d) (down e) (le→signed t n d u l g k))))))
  where
    turn : (X a b : ℕ) → X * a * b ≡ X * b * a
    turn X a b = mul_right_comm X a b

-- both sides of a `le` that passes are numbers
pub number_l : (x y : Float) → T (le x y) → T (not (is_nan x))
unfolding le lt eq is_nan
number_l nan y h = absurd h
number_l (inf s) y h = tt
number_l (fin s m e) y h = tt

pub number_r : (x y : Float) → T (le x y) → T (not (is_nan y))
unfolding le lt eq is_nan
number_r nan nan h = absurd h
number_r (inf s) nan h = absurd h
number_r (fin s m e) nan h = absurd h
number_r x (inf s) h = tt
number_r x (fin s m e) h = tt

-- where neither is a NaN, `lt` fails exactly where `le` passes the other way
pub not_lt→le : (x y : Float) → T (not (is_nan x)) → T (not (is_nan y)) → lt x y ≡ false → T (le y x)
unfolding le lt eq is_nan
not_lt→le nan y p q h = absurd p
not_lt→le (inf s) nan p q h = absurd q
not_lt→le (fin s m e) nan p q h = absurd q
not_lt→le (inf true) (inf true) p q h = tt
not_lt→le (inf true) (inf false) p q h = absurd (clash true h tt)
not_lt→le (inf false) (inf true) p q h = tt
not_lt→le (inf false) (inf false) p q h = tt
not_lt→le (inf true) (fin t n d) p q h = absurd (clash true h tt)
not_lt→le (inf false) (fin t n d) p q h = tt
not_lt→le (fin s m e) (inf true) p q h = tt
not_lt→le (fin s m e) (inf false) p q h = absurd (clash true h tt)
not_lt→le (fin s m e) (fin t n d) p q h = sle→le t (n * up d * down e) s (m * up e * down d) (not_below→sle s (m * up e * down d) t (n * up d * down e) h)

pub le→not_lt : (x y : Float) → T (le y x) → lt x y ≡ false
unfolding le lt eq
le→not_lt nan y h = refl
le→not_lt (inf s) nan h = refl
le→not_lt (fin s m e) nan h = refl
le→not_lt (inf true) (inf true) h = refl
le→not_lt (inf true) (inf false) h = absurd h
le→not_lt (inf false) (inf true) h = refl
le→not_lt (inf false) (inf false) h = refl
le→not_lt (inf true) (fin t n d) h = absurd h
le→not_lt (inf false) (fin t n d) h = refl
le→not_lt (fin s m e) (inf true) h = refl
le→not_lt (fin s m e) (inf false) h = absurd h
le→not_lt (fin s m e) (fin t n d) h = sle→not_below s (m * up e * down d) t (n * up d * down e) (le→signed t n d s m e h)

-- `le` is total where there is no NaN
pub not_le→le : (x y : Float) → T (not (is_nan x)) → T (not (is_nan y)) → le x y ≡ false → T (le y x)
unfolding le
not_le→le x y p q h = not_lt→le x y p q (neither_l (lt x y) (eq x y) h)

pub le_same : (x : Float) → T (not (is_nan x)) → T (le x x)
unfolding le
le_same x p = elim (yes_or_no (lt x x)) [ inl t ↦ or_l (lt x x) (eq x x) t | inr e ↦ not_lt→le x x p p (lib.Ieee.Bits.is_false (lt x x) e) ]

-- a NaN is below nothing
pub nan_l : (x z : Float) → is_nan x ≡ true → lt x z ≡ false
unfolding lt is_nan
nan_l nan z e = refl
nan_l (inf s) z e = absurd (false≢true e)
nan_l (fin s m i) z e = absurd (false≢true e)

nan_r : (x z : Float) → is_nan z ≡ true → lt x z ≡ false
unfolding lt is_nan
nan_r nan nan e = refl
nan_r (inf s) nan e = refl
nan_r (fin s m i) nan e = refl
nan_r x (inf t) e = absurd (false≢true e)
nan_r x (fin t n d) e = absurd (false≢true e)

-- lt x y and lt y z both fail: so does lt x z
pub not_lt_through : (x y z : Float) → T (not (is_nan y)) → lt x y ≡ false → lt y z ≡ false → lt x z ≡ false
not_lt_through x y z p h k = go (is_nan x) (is_nan z) refl refl
  where
    go : (a b : Bool) → is_nan x ≡ a → is_nan z ≡ b → lt x z ≡ false
    go true b p q = nan_l x z p
    go false true p q = nan_r x z q
    go false false q r = le→not_lt x z (le_through z y x (not_lt→le y z p (no (is_nan z) r) k) (not_lt→le x y (no (is_nan x) q) p h))

-- ---- where `lt` passes
pub lt_le : (x y : Float) → lt x y ≡ true → T (le x y)
unfolding le
lt_le x y e = or_l (lt x y) (eq x y) (yes e)

pub lt_number : (x y : Float) → lt x y ≡ true → T (not (is_nan y))
lt_number x y e = number_r x y (lt_le x y e)

pub lt_turned : (x y : Float) → lt x y ≡ true → lt y x ≡ false
lt_turned x y e = le→not_lt y x (lt_le x y e)

pub same_not_lt : (x : Float) → lt x x ≡ false
same_not_lt x = go (is_nan x) refl
  where
    go : (b : Bool) → is_nan x ≡ b → lt x x ≡ false
    go true e = nan_l x x e
    go false e = le→not_lt x x (le_same x (no (is_nan x) e))

pub lt_through : (x y z : Float) → lt x y ≡ true → lt y z ≡ true → lt x z ≡ true
lt_through x y z h k = go (lt x z) refl
  where
    go : (c : Bool) → lt x z ≡ c → c ≡ true
    go true e = refl
    go false e = sym (not_lt_through y x z (number_l x y (lt_le x y h)) (lt_turned x y h) e) ∙ k

-- ---- v lies between the first and the last of a row of numbers, and so between two that stand side by side
pub found : (f : ℕ → Float) (v : Float) (n : ℕ) → T (not (is_nan v)) → ((k : ℕ) → k ≤ suc n → T (not (is_nan (f k)))) → T (le (f 0) v)
    → T (le v (f (suc n))) → (k : ℕ) × (k < suc n) × T (le (f k) v) × T (le v (f (suc k)))
found f v zero p q h k = (0, lit< tt, h, k)
found f v (suc n) p q h k = go (le (f (suc n)) v) refl (found f v n p (λ i l. q i (more i (suc n) l)) h)
  where
    more : (i n : ℕ) → i ≤ n → i ≤ suc n
    more i n h = omega arith

    last : (n : ℕ) → suc n < suc (suc n)
    last n = omega arith

    grown : (i n : ℕ) → i < suc n → i < suc (suc n)
    grown i n h = omega arith

    go : (b : Bool) → le (f (suc n)) v ≡ b → (T (le v (f (suc n))) → (k : ℕ) × (k < suc n) × T (le (f k) v) × T (le v (f (suc k))))
        → (k : ℕ) × (k < suc (suc n)) × T (le (f k) v) × T (le v (f (suc k)))
    go true e r = (suc n, last n, yes e, k)
    go false e r =
        let (i, l, a, b) = r (not_le→le (f (suc n)) v (q (suc n) (le-suc (suc n))) p e) in
        (i, grown i n l, a, b)
