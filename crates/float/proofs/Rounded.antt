-- The law of rounding error, over whole numbers and in either format. In units of the format's smallest value a fraction is n / c,
-- and `grid` is what it rounds to: at most n / c * (1 + 2 ^ -prec) + 1 / 2. Half a unit is the error below the normal range, and half
-- of the last kept digit above it. Assumes nothing.
use Rattle.std.specs.Prelude.{◌≡◌, ℕ, zero, suc, ◌+◌, ◌-◌, ◌*◌, ◌/◌, ◌%◌, ◌^◌, ◌<◌, ◌≤◌, Bool, not, T, refl, Float}
use Rattle.std.proofs.Common.{sym, ap, ◌∙◌, subst, le_trans, le_of_eq, lt_of_le_of_lt, mul-one, mul_comm, mul_assoc, mul_left_comm, mul_right_comm, mul-le-mul_right, le_of_mul-le-mul_right, lt_of_mul-lt-mul_right, mul-add, add-mul, suc-mul, div-add-mod', le-div_iff_mul-le, arith, eqb→eq, pow-add}
use Prim.Native.Nat.{compare, Ordering}
use Rattle.std.proofs.Math.Dec.{is_le, compare_is_eq, nleb→lt}
use Rattle.std.specs.Float.{nan, inf, fin, Format, binary32, binary64}
use Rattle.std.specs.Float.Ieee.{prec, low, size, nearest, round}
use Rattle.std.specs.Float.Ieee.Digits.{Equals, size_reaches}
use Rattle.std.specs.Float.Ieee.Fits.{two, two-le_pos, round_is}
use Rattle.std.specs.Float.Ieee.Exact.{HasValue, units_val}
use Rattle.std.specs.Float.Ieee.Nearest.{closest}
use Rattle.std.specs.Float.Ieee.Order.{drop, kept}
use Rattle.std.specs.Float.Ieee.Scale.{grid, overflow}

-- ---- the nearest whole number is at most a half more
-- n = q * u + r; o says how 2 * r compares with u
half_up : (q r u n : ℕ) (o : Ordering) → q * u + r ≡ n → (T (not (is_le o)) → u < r * 2) → (T (compare_is_eq o) → r * 2 ≡ u)
    → nearest q o * u * 2 ≤ n * 2 + u
half_up q r u n Ordering.lt e k i = omega arith
half_up q r u n Ordering.eq e k i = le_trans (mul-le-mul_right 2 (mul-le-mul_right u (tie q))) (omega (arith, suc-mul q u, i tt))
  where
    tie : (q : ℕ) → q + q % 2 ≤ suc q
    tie q = omega arith
half_up q r u n Ordering.gt e k i = omega (arith, suc-mul q u, k tt)

pub closest_up : (n u : ℕ) → closest n u * u * 2 ≤ n * 2 + u
closest_up n u = half_up (n / u) (n % u) u n (compare (n % u * 2) u) (div-add-mod' n u) (nleb→lt (n % u * 2) u) (eqb→eq (n % u * 2) u)

-- ---- `kept * 2 ^ drop`, for a format of p digits; H is 2 ^ (p - 1)
-- K * u is at most n / H more than n, or c / 2 more
scaled_up : (K u n H c : ℕ) → K * u * 2 ≤ n * 2 + u → H * u ≤ n + H * c → K * u * (H * 2) ≤ n * (H * 2 + 1) + H * c
scaled_up K u n H c a b =
    let x : K * u * (H * 2) ≤ n * (H * 2) + H * u = le_trans (le_of_eq (turn (K * u) H 2))
    (le_trans (mul-le-mul_right H a) (le_of_eq (add-mul (n * 2) u H ∙ both'))) in
    let y : n * (H * 2 + 1) ≡ n * (H * 2) + n * 1 = mul-add n (H * 2) 1 in
    omega arith
  where
    turn : (a H k : ℕ) → a * (H * k) ≡ a * k * H
    turn a H k = simp (mul_assoc, mul_comm)

    both' : n * 2 * H + u * H ≡ n * (H * 2) + H * u
    both' = simp (mul_assoc, mul_comm, mul_left_comm)

all_in_use : (z p k : ℕ) → 0 < p → z - p ≡ suc k → p - 1 + suc k < z
all_in_use z p k P h = omega arith

pub kept_up : (p n c : ℕ) → 0 < p → 0 < c
    → kept p n c * 2 ^ drop p n c * c * (2 ^ (p - 1) * 2) ≤ n * (2 ^ (p - 1) * 2 + 1) + 2 ^ (p - 1) * c
kept_up p n c P C =
    let k = drop p n c in
    let H = 2 ^ (p - 1) in
    subst (λ (x : ℕ). x * (H * 2) ≤ n * (H * 2 + 1) + H * c) (turn (kept p n c) c (2 ^ k))
    (scaled_up (kept p n c) (c * 2 ^ k) n H c (closest_up n (c * 2 ^ k)) (go k refl))
  where
    turn : (a c k : ℕ) → a * (c * k) ≡ a * k * c
    turn a c k = simp (mul_assoc, mul_comm)

    more : (a n : ℕ) → a ≤ n + a
    more a n = omega arith

    go : (k : ℕ) → drop p n c ≡ k → 2 ^ (p - 1) * (c * 2 ^ k) ≤ n + 2 ^ (p - 1) * c
    go zero e = le_trans (le_of_eq (ap (λ (x : ℕ). 2 ^ (p - 1) * x) (mul-one c))) (more (2 ^ (p - 1) * c) n)
    go (suc k) e =
        let a : 2 ^ (p - 1 + suc k) * c ≤ n =
        (le-div_iff_mul-le C).0 (size_reaches (n / c) (p - 1 + suc k) (all_in_use (size (n / c)) p k P e)) in
        le_trans (le_of_eq (turn (2 ^ (p - 1)) c (2 ^ suc k) ∙ ap (λ (x : ℕ). x * c) (sym (pow-add 2 (p - 1) (suc k)))))
        (le_trans a (le_add n (2 ^ (p - 1) * c)))
      where
        le_add : (n a : ℕ) → n ≤ n + a
        le_add n a = omega arith

-- ---- the two formats
half : (f : Format) → 2 ^ (prec f - 1) * 2 ≡ 2 ^ prec f
half binary32 = refl
half binary64 = refl

-- grid ≤ n / c * (1 + 1 / 2 ^ prec) + 1 / 2
pub grid_up : (f : Format) (a c : ℕ) → 0 < c → grid f a c * c * 2 ^ prec f ≤ a * 2 ^ low f * (2 ^ prec f + 1) + 2 ^ (prec f - 1) * c
grid_up f a c C =
    subst (λ (p : ℕ). grid f a c * c * p ≤ a * 2 ^ low f * (p + 1) + 2 ^ (prec f - 1) * c) (half f)
    (kept_up (prec f) (a * 2 ^ low f) c (two-le_pos (prec f) (two f)) C)

-- R is at most n / d * (1 + 1 / 2 ^ prec) + 1 / 2
abbrev pub Near : Format → ℕ → ℕ → ℕ → Type 0
Near f R n d = R * d * 2 ^ prec f ≤ n * (2 ^ prec f + 1) + 2 ^ (prec f - 1) * d

-- x is finite, and is R units in size, where a unit is the format's smallest value
abbrev pub Sized : Format → Float → ℕ → Type 0
Sized f x R = Equals x R (2 ^ low f)

-- the same of any fraction n / d that a / c is in units
near : (f : Format) (a c n d : ℕ) → 0 < c → a * 2 ^ low f * d ≡ n * c → Near f (grid f a c) n d
near f a c n d C e =
    let P = 2 ^ prec f in
    let H = 2 ^ (prec f - 1) in
    go (grid f a c) (a * 2 ^ low f) P H e (grid_up f a c C)
  where
    go : (g A P H : ℕ) → A * d ≡ n * c → g * c * P ≤ A * (P + 1) + H * c → g * d * P ≤ n * (P + 1) + H * d
    go g A P H e h =
        let l : g * d * P * c ≡ g * c * P * d = simp (mul_assoc, mul_comm, mul_left_comm) in
        let r : (A * (P + 1) + H * c) * d ≡ (n * (P + 1) + H * d) * c =
        add-mul (A * (P + 1)) (H * c) d
        ∙ ap (λ (x : ℕ). x + H * c * d) (mul_right_comm A (P + 1) d ∙ ap (λ (x : ℕ). x * (P + 1)) e ∙ mul_right_comm n c (P + 1))
        ∙ ap (λ (x : ℕ). n * (P + 1) * c + x) (mul_right_comm H c d) ∙ sym (add-mul (n * (P + 1)) (H * d) c) in
        le_of_mul-le-mul_right (le_trans (le_of_eq l) (le_trans (mul-le-mul_right d h) (le_of_eq r))) C

value_size : (x : Float) (s : Bool) (a c : ℕ) → HasValue x s a c → Equals x a c
value_size nan s a c h = h
value_size (inf t) s a c h = h
value_size (fin t m e) s a c h = h.1

-- what rounds to less than the overflow is finite, of either sign
pub round_sized : (f : Format) (s : Bool) (a c n d : ℕ) → 0 < c → 0 < d → a * 2 ^ low f * d ≡ n * c
    → n * (2 ^ prec f + 1) + 2 ^ (prec f - 1) * d < overflow f * d * 2 ^ prec f → (R : ℕ) × Sized f (round f s a c) R × Near f R n d
round_sized f s a c n d C D e h =
    let k = near f a c n d C e in
    let o : grid f a c < overflow f = lt_of_mul-lt-mul_right d (lt_of_mul-lt-mul_right (2 ^ prec f) (lt_of_le_of_lt k h)) in
    let at : HasValue (round f s a c) s (grid f a c) (2 ^ low f) =
    subst (λ (z : Float). HasValue z s (grid f a c) (2 ^ low f)) (sym (round_is f s a c))
    (units_val f s (kept (prec f) (a * 2 ^ low f) c) (drop (prec f) (a * 2 ^ low f) c) o) in
    (grid f a c, value_size (round f s a c) s (grid f a c) (2 ^ low f) at, k)
