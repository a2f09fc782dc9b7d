-- Rounding, sums, `sub` and `mul_add` keep the order, with signs: of two finite values the larger gives a result that is no smaller.
-- Zeros of either sign are equal.
use Rattle.std.specs.Int.Count.{count_trailing_zeros}
use Rattle.std.specs.Prelude.{◌≡◌, ℕ, zero, suc, ◌+◌, ◌-◌, ◌*◌, ◌/◌, ◌^◌, ◌<◌, ◌≤◌, Bool, true, false, cond, not, ◌&&◌, ◌||◌, T, ◌⊎◌, ℤ, pos, ◌==◌, nat_lt, refl, Float}
use Rattle.std.proofs.Common.{sym, ap, ◌∙◌, subst, inl, inr, zero-le, le_trans, le_of_eq, eq-or-lt_of_le, mul_comm, mul_assoc, mul_left_comm, mul-le-mul_right, mul-pos, add-mul, zero-mul, le_of_lt, zero-lt-suc, arith, ltb→lt, lt→ltb, eqb→eq}
use Rattle.std.proofs.Math.Dec.{eqb_refl}
use Rattle.std.specs.Float.{nan, inf, fin, Format, binary32, binary64}
use Rattle.std.specs.Float.Ieee.{prec, emax, low, up, down, odd, units, round, sum, neg, add, sub, lt, eq, le, unlike, minus}
use Rattle.std.specs.Float.Ieee.Fits.{round_is, down_pos, and_i, and_l, and_r}
use Rattle.std.specs.Float.Ieee.Order.{round_mono, drop, kept}
use Rattle.std.specs.Float.Ieee.Scale.{finite, round_same}
use Rattle.float.proofs.Tests.{or_l, or_r, or_split}
use Rattle.float.specs.Fused.{plus, fma}
use Rattle.float.proofs.Sums.{sum_alike, sum_above, sum_below, sum_level, sum_same, order, below, level, above}

-- ---- the sign of what `round` makes

odd_neg : (d q k l : ℕ) → odd d true q k l ≡ neg (odd d false q k l)
unfolding odd neg
odd_neg d zero k l = refl
odd_neg d (suc q) k l = refl

units_neg : (f : Format) (q k : ℕ) → units f true q k ≡ neg (units f false q k)
unfolding units neg
units_neg f q k = go (nat_lt (q * 2 ^ k) (2 ^ (low f + suc (emax f))))
  where
    go : (b : Bool) → cond b (odd (suc (prec f)) true q k (low f)) (inf true) ≡ neg (cond b (odd (suc (prec f)) false q k (low f)) (inf false))
    go true = odd_neg (suc (prec f)) q k (low f)
    go false = refl

pub round_neg : (f : Format) (a c : ℕ) → round f true a c ≡ neg (round f false a c)
round_neg f a c = round_is f true a c ∙ units_neg f (kept (prec f) (a * 2 ^ low f) c) (drop (prec f) (a * 2 ^ low f) c) ∙ sym (ap neg (round_is f false a c))

-- ---- `le` under a change of sign

-- a number with a sign, as a difference
abbrev pub over : Bool → ℕ → ℕ
over false a = a
over true a = 0

abbrev pub under : Bool → ℕ → ℕ
under false a = 0
under true a = a

-- a with the sign s is at most b with the sign t
abbrev pub Sle : Bool → ℕ → Bool → ℕ → Type 0
Sle s a t b = over s a + under t b ≤ over t b + under s a

le_of : (a b : ℕ) → T (nat_lt a b || (a == b && true)) → a ≤ b
le_of a b t = elim (or_split (nat_lt a b) (a == b && true) t) [ inl x ↦ le_of_lt (ltb→lt a b x) | inr x ↦ le_of_eq (eqb→eq a b (and_l (a == b) true x)) ]

of_le : (a b : ℕ) → a ≤ b → T (nat_lt a b || (a == b && true))
of_le a b h =
    elim (eq-or-lt_of_le h) [
      | inl p ↦ or_r (nat_lt a b) (a == b && true)
          (and_i (a == b) true (subst (λ (x : ℕ). T (a == x)) p (eqb_refl a)) tt)
      | inr q ↦ or_l (nat_lt a b) (a == b && true) (lt→ltb a b q)
    ]

-- `le` of two finite values
pub le→signed : (s : Bool) (m : ℕ) (e : ℤ) (t : Bool) (n : ℕ) (d : ℤ) → T (le (fin s m e) (fin t n d)) → Sle s (m * up e * down d) t (n * up d * down e)
unfolding le lt eq
le→signed false m e false n d h =
    le_trans (le_of_eq (zero_r (m * up e * down d))) (le_trans (le_of (m * up e * down d) (n * up d * down e) h) (le_of_eq (sym (zero_r (n * up d * down e)))))
  where
    zero_r : (a : ℕ) → a + 0 ≡ a
    zero_r a = omega arith
le→signed false m e true n d h =
    let X = m * up e * down d in
    let Y = n * up d * down e in
    let x0 : X ≡ 0 = eqb→eq X 0 (and_r (X == Y) (false || X == 0) h) in
    let xy : X ≡ Y = eqb→eq X Y (and_l (X == Y) (false || X == 0) h) in
    both X Y x0 xy
  where
    both : (X Y : ℕ) → X ≡ 0 → X ≡ Y → X + Y ≤ 0 + 0
    both X Y a b = omega arith
le→signed true m e false n d h = zero-le
le→signed true m e true n d h =
    flip (m * up e * down d) (n * up d * down e)
    (or_split (nat_lt (n * up d * down e) (m * up e * down d)) (m * up e * down d == n * up d * down e && true) h)
  where
    flip : (X Y : ℕ) → T (nat_lt Y X) ⊎ T (X == Y && true) → 0 + Y ≤ 0 + X
    flip X Y (inl t) = omega (arith, ltb→lt Y X t)
    flip X Y (inr t) = omega (arith, eqb→eq X Y (and_l (X == Y) true t))

-- a change of both signs turns the order
pub le_neg : (x y : Float) → T (le x y) → T (le (neg y) (neg x))
unfolding le lt eq neg
le_neg nan y h = absurd h
le_neg (inf s) nan h = absurd h
le_neg (inf true) (inf true) h = tt
le_neg (inf true) (inf false) h = tt
le_neg (inf false) (inf true) h = absurd h
le_neg (inf false) (inf false) h = tt
le_neg (inf true) (fin t n d) h = tt
le_neg (inf false) (fin t n d) h = absurd h
le_neg (fin s m e) nan h = absurd h
le_neg (fin s m e) (inf true) h = absurd h
le_neg (fin s m e) (inf false) h = tt
le_neg (fin false m e) (fin false n d) h = of_neg (m * up e * down d) (n * up d * down e) (le_of (m * up e * down d) (n * up d * down e) h)
  where
    of_neg : (X Y : ℕ) → X ≤ Y → T (nat_lt X Y || (Y == X && true))
    of_neg X Y h =
        elim (eq-or-lt_of_le h) [
          | inl p ↦ or_r (nat_lt X Y) (Y == X && true)
              (and_i (Y == X) true (subst (λ (x : ℕ). T (Y == x)) (sym p) (eqb_refl Y)) tt)
          | inr q ↦ or_l (nat_lt X Y) (Y == X && true) (lt→ltb X Y q)
        ]
le_neg (fin false m e) (fin true n d) h = zeros (m * up e * down d) (n * up d * down e) (le→signed false m e true n d h)
  where
    zeros : (X Y : ℕ) → X + Y ≤ 0 + 0 → T (false || (Y == X && (false || Y == 0)))
    zeros X Y h =
        let x : X ≡ 0 = omega arith in
        let y : Y ≡ 0 = omega arith in
        subst (λ (z : ℕ). T (z == X && (false || z == 0))) (sym y) (subst (λ (z : ℕ). T (0 == z && true)) (sym x) tt)
le_neg (fin true m e) (fin false n d) h = apart (m * up e * down d) (n * up d * down e)
  where
    apart : (X Y : ℕ) → T (nat_lt 0 (Y + X) || (Y == X && (false || Y == 0)))
    apart zero zero = tt
    apart zero (suc Y) = or_l (nat_lt 0 (suc Y + 0)) (suc Y == 0 && (false || suc Y == 0)) (lt→ltb 0 (suc Y + 0) (omega arith))
    apart (suc X) Y = or_l (nat_lt 0 (Y + suc X)) (Y == suc X && (false || Y == 0)) (lt→ltb 0 (Y + suc X) (omega arith))
le_neg (fin true m e) (fin true n d) h = of_pos (m * up e * down d) (n * up d * down e) (le→signed true m e true n d h)
  where
    of_pos : (X Y : ℕ) → 0 + Y ≤ 0 + X → T (nat_lt Y X || (Y == X && true))
    of_pos X Y h = of_le Y X (omega arith)

-- ---- `round`, with signs

-- what `round f false` makes is not negative, and what `round f true` makes is not positive
negative_le : (f : Format) (q j r k : ℕ) → T (le (neg (units f false q j)) (units f false r k))
unfolding units odd neg le lt eq
negative_le f q j r k = go q r (nat_lt (q * 2 ^ j) (2 ^ (low f + suc (emax f)))) (nat_lt (r * 2 ^ k) (2 ^ (low f + suc (emax f))))
  where
    apart : (X Y : ℕ) → T (nat_lt 0 (X + Y) || (X == Y && (false || X == 0)))
    apart zero zero = tt
    apart zero (suc Y) = or_l (nat_lt 0 (0 + suc Y)) (0 == suc Y && (false || 0 == 0)) (lt→ltb 0 (0 + suc Y) (omega arith))
    apart (suc X) Y = or_l (nat_lt 0 (suc X + Y)) (suc X == Y && (false || suc X == 0)) (lt→ltb 0 (suc X + Y) (omega arith))

    fins : (m : ℕ) (e : ℤ) (n : ℕ) (d : ℤ) → T (le (fin true m e) (fin false n d))
    fins m e n d = apart (m * up e * down d) (n * up d * down e)

    go : (q r : ℕ) (a b : Bool)
        → T (le (neg (cond a (odd (suc (prec f)) false q j (low f)) (inf false))) (cond b (odd (suc (prec f)) false r k (low f)) (inf false)))
    go zero zero true true = tt
    go zero (suc r) true true =
        fins 0 (pos 0) (suc r / 2 ^ count_trailing_zeros (suc (prec f)) (suc r)) (minus (k + count_trailing_zeros (suc (prec f)) (suc r)) (low f))
    go (suc q) zero true true =
        fins (suc q / 2 ^ count_trailing_zeros (suc (prec f)) (suc q)) (minus (j + count_trailing_zeros (suc (prec f)) (suc q)) (low f)) 0 (pos 0)
    go (suc q) (suc r) true true =
        fins (suc q / 2 ^ count_trailing_zeros (suc (prec f)) (suc q)) (minus (j + count_trailing_zeros (suc (prec f)) (suc q)) (low f))
        (suc r / 2 ^ count_trailing_zeros (suc (prec f)) (suc r)) (minus (k + count_trailing_zeros (suc (prec f)) (suc r)) (low f))
    go zero r true false = tt
    go (suc q) r true false = tt
    go q zero false true = tt
    go q (suc r) false true = tt
    go q r false false = tt

round_across : (f : Format) (a c b d : ℕ) → T (le (round f true a c) (round f false b d))
round_across f a c b d =
    subst (λ (x : Float). T (le x (round f false b d))) (sym (round_neg f a c ∙ ap neg (round_is f false a c)))
    (subst (λ (x : Float). T (le (neg (units f false (kept (prec f) (a * 2 ^ low f) c) (drop (prec f) (a * 2 ^ low f) c))) x)) (sym (round_is f false b d))
    (negative_le f (kept (prec f) (a * 2 ^ low f) c) (drop (prec f) (a * 2 ^ low f) c) (kept (prec f) (b * 2 ^ low f) d) (drop (prec f) (b * 2 ^ low f) d)))

-- +0 is not above -0
round_zeros : (f : Format) (c d : ℕ) → 0 < c → 0 < d → T (le (round f false 0 c) (round f true 0 d))
unfolding round le lt eq
round_zeros f c d C D =
    subst (λ (x : Float). T (le x (round f true 0 d))) (round_same f false 0 1 0 c (zero-lt-suc 0) C (zero-mul c ∙ sym (zero-mul 1)))
    (subst (λ (x : Float). T (le (round f false 0 1) x)) (round_same f true 0 1 0 d (zero-lt-suc 0) D (zero-mul d ∙ sym (zero-mul 1))) (at_one f))
  where
    at_one : (f : Format) → T (le (round f false 0 1) (round f true 0 1))
    at_one binary32 = tt
    at_one binary64 = tt

-- rounding keeps the order of numbers with signs
pub round_rises : (f : Format) (s : Bool) (a : ℕ) (t : Bool) (b c : ℕ) → 0 < c → Sle s a t b → T (le (round f s a c) (round f t b c))
round_rises f false a false b c C h = round_mono f a c b c C C (mul-le-mul_right c (plain a b h))
  where
    plain : (a b : ℕ) → a + 0 ≤ b + 0 → a ≤ b
    plain a b h = omega arith
round_rises f false a true b c C h =
    let x : a ≡ 0 = omega arith in
    let y : b ≡ 0 = omega arith in
    subst (λ (z : ℕ). T (le (round f false z c) (round f true b c))) (sym x)
    (subst (λ (z : ℕ). T (le (round f false 0 c) (round f true z c))) (sym y) (round_zeros f c c C C))
round_rises f true a false b c C h = round_across f a c b c
round_rises f true a true b c C h =
    subst (λ (x : Float). T (le x (round f true b c))) (sym (round_neg f a c))
    (subst (λ (x : Float). T (le (neg (round f false a c)) x)) (sym (round_neg f b c))
    (le_neg (round f false b c) (round f false a c) (round_mono f b c a c C C (mul-le-mul_right c (plain a b h)))))
  where
    plain : (a b : ℕ) → 0 + b ≤ 0 + a → b ≤ a
    plain a b h = omega arith

-- ---- `sum` is `round` of a number with a sign: P - N
abbrev Net : Format → Float → ℕ → ℕ → ℕ → Type 0
Net f x P N c = (μ : ℕ) × (((x ≡ round f false μ c) × (P ≡ N + μ)) ⊎ ((x ≡ round f true μ c) × (N ≡ P + μ)))

net : (f : Format) (s : Bool) (a : ℕ) (t : Bool) (b c : ℕ) → Net f (sum f s a t b c) (over s a + over t b) (under s a + under t b) c
net f false a false b c = (a + b, inl (sum_alike f false false a b c refl, omega arith))
net f true a true b c = (a + b, inr (sum_alike f true true a b c refl, omega arith))
net f false a true b c = elim (order a b) [
  | below l ↦ (b - a, inr (sum_below f false true a b c refl l, omega arith))
  | level l ↦ (0, inl (sum_level f false true a b c refl l, omega arith))
  | above l ↦ (a - b, inl (sum_above f false true a b c refl l, omega arith))
]
net f true a false b c = elim (order a b) [
  | below l ↦ (b - a, inl (sum_below f true false a b c refl l, omega arith))
  | level l ↦ (0, inl (sum_level f true false a b c refl l, omega arith))
  | above l ↦ (a - b, inr (sum_above f true false a b c refl l, omega arith))
]

net_rises : (f : Format) (x y : Float) (P N P' N' c : ℕ) → 0 < c → Net f x P N c → Net f y P' N' c → P + N' ≤ P' + N → T (le x y)
net_rises f x y P N P' N' c C (μ, inl p) (ν, inl q) h =
    subst (λ (z : Float). T (le z y)) (sym p.0)
    (subst (λ (z : Float). T (le (round f false μ c) z)) (sym q.0) (round_rises f false μ false ν c C (omega arith)))
net_rises f x y P N P' N' c C (μ, inl p) (ν, inr q) h =
    subst (λ (z : Float). T (le z y)) (sym p.0)
    (subst (λ (z : Float). T (le (round f false μ c) z)) (sym q.0) (round_rises f false μ true ν c C (omega arith)))
net_rises f x y P N P' N' c C (μ, inr p) (ν, inl q) h =
    subst (λ (z : Float). T (le z y)) (sym p.0)
    (subst (λ (z : Float). T (le (round f true μ c) z)) (sym q.0) (round_rises f true μ false ν c C (omega arith)))
net_rises f x y P N P' N' c C (μ, inr p) (ν, inr q) h =
    subst (λ (z : Float). T (le z y)) (sym p.0)
    (subst (λ (z : Float). T (le (round f true μ c) z)) (sym q.0) (round_rises f true μ true ν c C (omega arith)))

-- and so does a sum of two of them
pub sum_rises : (f : Format) (s s' t t' : Bool) (a a' b b' c : ℕ) → 0 < c → Sle s a s' a' → Sle t b t' b' → T (le (sum f s a t b c) (sum f s' a' t' b' c))
sum_rises f s s' t t' a a' b b' c C h k =
    net_rises f (sum f s a t b c) (sum f s' a' t' b' c) (over s a + over t b) (under s a + under t b) (over s' a' + over t' b')
    (under s' a' + under t' b') c C (net f s a t b c) (net f s' a' t' b' c)
    (shift (over s a) (under s' a') (over s' a') (under s a) (over t b) (under t' b') (over t' b') (under t b) h k)
  where
    shift : (p n p' n' x y x' y' : ℕ) → p + n ≤ p' + n' → x + y ≤ x' + y' → p + x + (n + y) ≤ p' + x' + (n' + y')
    shift p n p' n' x y x' y' h k = omega arith

-- ---- the operations

pub sle_scale : (s : Bool) (a : ℕ) (t : Bool) (b k : ℕ) → Sle s a t b → Sle s (a * k) t (b * k)
sle_scale s a t b k h =
    le_trans
    (le_of_eq (ap (λ (x : ℕ). x + under t (b * k)) (over_mul s a k) ∙ ap (λ (x : ℕ). over s a * k + x) (under_mul t b k)
    ∙ sym (add-mul (over s a) (under t b) k)))
    (le_trans (mul-le-mul_right k h)
    (le_of_eq (add-mul (over t b) (under s a) k
    ∙ sym (ap (λ (x : ℕ). x + under s (a * k)) (over_mul t b k) ∙ ap (λ (x : ℕ). over t b * k + x) (under_mul s a k)))))
  where
    over_mul : (s : Bool) (a k : ℕ) → over s (a * k) ≡ over s a * k
    over_mul false a k = refl
    over_mul true a k = sym (zero-mul k)

    under_mul : (s : Bool) (a k : ℕ) → under s (a * k) ≡ under s a * k
    under_mul false a k = sym (zero-mul k)
    under_mul true a k = refl

-- x and y over e and d, z and w over g and i: x + z and y + w over one denominator
pub plus_rises : (f : Format) (s s' t t' : Bool) (X e Y d Z g W i : ℕ) → 0 < e → 0 < d → 0 < g → 0 < i → Sle s (X * d) s' (Y * e) → Sle t (Z * i) t' (W * g)
    → T (le (sum f s (X * g) t (Z * e) (e * g)) (sum f s' (Y * i) t' (W * d) (d * i)))
plus_rises f s s' t t' X e Y d Z g W i E D G I h k =
    let c = e * d * (g * i) in
    let C : 0 < c = mul-pos (mul-pos E D) (mul-pos G I) in
    subst (λ (v : Float). T (le v (sum f s' (Y * i) t' (W * d) (d * i))))
    (sum_same f s t (X * d * (g * i)) (Z * i * (e * d)) c (X * g) (Z * e) (e * g) C (mul-pos E G) (simp (mul_assoc, mul_comm, mul_left_comm))
    (simp (mul_assoc, mul_comm, mul_left_comm)))
    (subst (λ (v : Float). T (le (sum f s (X * d * (g * i)) t (Z * i * (e * d)) c) v))
    (sum_same f s' t' (Y * e * (g * i)) (W * g * (e * d)) c (Y * i) (W * d) (d * i) C (mul-pos D I) (simp (mul_assoc, mul_comm, mul_left_comm))
    (simp (mul_assoc, mul_comm, mul_left_comm)))
    (sum_rises f s s' t t' (X * d * (g * i)) (Y * e * (g * i)) (Z * i * (e * d)) (W * g * (e * d)) c C (sle_scale s (X * d) s' (Y * e) (g * i) h)
    (sle_scale t (Z * i) t' (W * g) (e * d) k)))

-- a larger x and a larger z
pub add_rises : (f : Format) (x y z w : Float) → T (finite x) → T (finite y) → T (finite z) → T (finite w) → T (le x y) → T (le z w)
    → T (le (add f x z) (add f y w))
unfolding add
add_rises f nan y z w p q r o h b = elim p [ ]
add_rises f (inf _) y z w p q r o h b = elim p [ ]
add_rises f (fin s m e) nan z w p q r o h b = elim q [ ]
add_rises f (fin s m e) (inf _) z w p q r o h b = elim q [ ]
add_rises f (fin s m e) (fin t n d) nan w p q r o h b = elim r [ ]
add_rises f (fin s m e) (fin t n d) (inf _) w p q r o h b = elim r [ ]
add_rises f (fin s m e) (fin t n d) (fin u k g) nan p q r o h b = elim o [ ]
add_rises f (fin s m e) (fin t n d) (fin u k g) (inf _) p q r o h b = elim o [ ]
add_rises f (fin s m e) (fin t n d) (fin u k g) (fin v l i) p q r o h b =
    plus_rises f s t u v (m * up e) (down e) (n * up d) (down d) (k * up g) (down g) (l * up i) (down i) (down_pos e) (down_pos d) (down_pos g)
    (down_pos i) (le→signed s m e t n d h) (le→signed u k g v l i b)

pub finite_neg : (x : Float) → T (finite x) → T (finite (neg x))
unfolding neg
finite_neg nan h = elim h [ ]
finite_neg (inf _) h = elim h [ ]
finite_neg (fin s m e) h = tt

-- a larger x and a smaller z
pub sub_rises : (f : Format) (x y z w : Float) → T (finite x) → T (finite y) → T (finite z) → T (finite w) → T (le x y) → T (le w z)
    → T (le (sub f x z) (sub f y w))
unfolding sub
sub_rises f x y z w p q r o h b = add_rises f x y (neg z) (neg w) p q (finite_neg z r) (finite_neg w o) h (le_neg w z b)

-- finite, with no minus sign
abbrev pub unsigned : Float → Bool
unsigned nan = false
unsigned (inf s) = false
unsigned (fin s m e) = not s

pub keep : (s : Bool) → unlike s false ≡ s
keep true = refl
keep false = refl

-- a larger x, by one factor, and a larger z
pub fma_rises : (f : Format) (x y r z w : Float) → T (finite x) → T (finite y) → T (unsigned r) → T (finite z) → T (finite w) → T (le x y)
    → T (le z w) → T (le (fma f x r z) (fma f y r w))
unfolding fma plus
fma_rises f nan y _ _ _ p q r z w h b = elim p [ ]
fma_rises f (inf _) y _ _ _ p q r z w h b = elim p [ ]
fma_rises f (fin s m e) nan _ _ _ p q r z w h b = elim q [ ]
fma_rises f (fin s m e) (inf _) _ _ _ p q r z w h b = elim q [ ]
fma_rises f (fin s m e) (fin t n d) nan _ _ p q r z w h b = elim r [ ]
fma_rises f (fin s m e) (fin t n d) (inf _) _ _ p q r z w h b = elim r [ ]
fma_rises f (fin s m e) (fin t n d) (fin false a j) nan _ p q r z w h b = elim z [ ]
fma_rises f (fin s m e) (fin t n d) (fin false a j) (inf _) _ p q r z w h b = elim z [ ]
fma_rises f (fin s m e) (fin t n d) (fin false a j) (fin u k g) nan p q r z w h b = elim w [ ]
fma_rises f (fin s m e) (fin t n d) (fin false a j) (fin u k g) (inf _) p q r z w h b = elim w [ ]
fma_rises f (fin s m e) (fin t n d) (fin true a j) _ _ p q r z w h b = elim r [ ]
fma_rises f (fin s m e) (fin t n d) (fin false a j) (fin u k g) (fin v l i) p q r z w h b =
    subst (λ (o : Bool). T (le (sum f o (m * up e * (a * up j) * down g) u (k * up g * (down e * down j)) (down e * down j * down g))
    (sum f (unlike t false) (n * up d * (a * up j) * down i) v (l * up i * (down d * down j)) (down d * down j * down i)))) (sym (keep s))
    (subst (λ (o : Bool). T (le (sum f s (m * up e * (a * up j) * down g) u (k * up g * (down e * down j)) (down e * down j * down g))
    (sum f o (n * up d * (a * up j) * down i) v (l * up i * (down d * down j)) (down d * down j * down i)))) (sym (keep t))
    (plus_rises f s t u v (m * up e * (a * up j)) (down e * down j) (n * up d * (a * up j)) (down d * down j) (k * up g) (down g) (l * up i) (down i)
    (mul-pos (down_pos e) (down_pos j)) (mul-pos (down_pos d) (down_pos j)) (down_pos g) (down_pos i)
    (subst (λ (o : ℕ). Sle s o t (n * up d * (a * up j) * (down e * down j))) (regroup (m * up e) (down d) (a * up j) (down j))
    (subst (λ (o : ℕ). Sle s (m * up e * down d * (a * up j * down j)) t o) (regroup (n * up d) (down e) (a * up j) (down j))
    (sle_scale s (m * up e * down d) t (n * up d * down e) (a * up j * down j) (le→signed s m e t n d h))))
    (le→signed u k g v l i b)))
  where
    regroup : (X D W I : ℕ) → X * D * (W * I) ≡ X * W * (D * I)
    regroup X D W I = simp (mul_assoc, mul_left_comm)

-- what lies between two finite values is finite
pub finite_between : (x y z : Float) → T (finite x) → T (finite z) → T (le x y) → T (le y z) → T (finite y)
unfolding le lt eq
finite_between nan y z p q h k = elim p [ ]
finite_between (inf _) y z p q h k = elim p [ ]
finite_between (fin s m e) (inf false) nan p q h k = elim q [ ]
finite_between (fin s m e) (inf false) (inf _) p q h k = elim q [ ]
finite_between (fin s m e) nan z p q h k = absurd h
finite_between (fin s m e) (inf true) z p q h k = absurd h
finite_between (fin s m e) (inf false) (fin t n d) p q h k = absurd k
finite_between (fin s m e) (fin u a i) z p q h k = tt
