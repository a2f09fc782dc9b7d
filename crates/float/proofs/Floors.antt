-- `floor` as a float and as an integer: it keeps the order, and a coordinate of it, or of one more, is that integer.
use Rattle.std.specs.Prelude.{◌≡◌, ℕ, zero, suc, ◌+◌, ◌-◌, ◌*◌, ◌/◌, ◌%◌, ◌^◌, ◌<◌, ◌≤◌, min, Bool, true, false, cond, ◌&&◌, T, ℤ, pos, negsuc, neg_ℤ, int_le, refl, Float}
use Rattle.std.proofs.Common.{sym, ap, ◌∙◌, subst, inl, inr, zero-le, le_trans, le_of_eq, le_of_lt, mul-one, one-mul, zero-mul, mul-pos, mul_right_comm, mul-le-mul_left, mul-le-mul_right, le_of_mul-le-mul_right, le_of_suc-le-suc, not-suc-le-zero, suc-mul, div-lt_iff_lt-mul, div-add-mod', div-le_self, mod-lt, mul-div_cancel, add-one, arith, pow_pos, leb→le, le→leb, lit<, lit≤}
use Rattle.std.proofs.Math.Nat.{eq_of_mul-eq-mul_right}
use Rattle.std.proofs.Math.IntN.{suc_ℤ}
use Rattle.std.specs.Int.Signed.{mag}
use Rattle.std.specs.Float.{nan, inf, fin, Format, binary64}
use Rattle.std.specs.Float.Ieee.{up, down, round, sum, add, le, of_int, to_signed, fits}
use Rattle.std.specs.Float.Ieee.Fits.{and_l, and_r, down_pos}
use Rattle.std.specs.Float.Ieee.Exact.{HasValue}
use Rattle.std.specs.Float.Ieee.Back.{round_whole}
use Rattle.std.specs.Float.Ieee.Nearest.{div_mono}
use Rattle.std.specs.Float.Ieee.Order.{round_mono}
use Rattle.std.specs.Float.Ieee.Scale.{finite}
use Rattle.refusals.specs.Results.{Result, ok, need}
use Rattle.float.specs.Fused.{floor}
use Rattle.float.specs.Coordinate.{coordinate}
use Rattle.float.specs.Integer.{floor_z}
use Rattle.float.proofs.Tests.{decide}
use Rattle.float.proofs.Sums.{sum_same, sum_alike, sum_below, sum_level, sum_above}
use Rattle.float.proofs.Rising.{Sle, le→signed, round_rises, add_rises}
use Rattle.float.proofs.Ordered.{le_through}
use Rattle.float.proofs.Exactly.{unit, small, whole_value}
use Rattle.float.proofs.Middle.{add_left}

-- a / c, rounded up
abbrev pub ceil : ℕ → ℕ → ℕ
ceil a c = (a + (c - 1)) / c

ceil_le : (a c k : ℕ) → 0 < c → a ≤ k * c → ceil a c ≤ k
ceil_le a c k C h = le_of_suc-le-suc ((div-lt_iff_lt-mul C).1 (subst (λ (x : ℕ). a + (c - 1) < x) (sym (suc-mul k c)) (more a c (k * c) C h)))
  where
    more : (a c p : ℕ) → 0 < c → a ≤ p → a + (c - 1) < p + c
    more a c p C h = omega arith

le_ceil : (a c : ℕ) → 0 < c → a ≤ ceil a c * c
le_ceil a c C = back a c (ceil a c * c) ((a + (c - 1)) % c) (div-add-mod' (a + (c - 1)) c) (mod-lt (a + (c - 1)) C)
  where
    back : (a c p r : ℕ) → p + r ≡ a + (c - 1) → r < c → a ≤ p
    back a c p r e h = omega arith

ceil_mono : (b d a c : ℕ) → 0 < d → 0 < c → b * c ≤ a * d → ceil b d ≤ ceil a c
ceil_mono b d a c D C h =
    ceil_le b d (ceil a c) D (le_of_mul-le-mul_right (le_trans h (le_trans (mul-le-mul_right d (le_ceil a c C)) (le_of_eq (mul_right_comm (ceil a c) c d)))) C)

-- the magnitude of the floor of a / c with the sign s
abbrev pub whole_of : Bool → ℕ → ℕ → ℕ
whole_of false a c = a / c
whole_of true a c = ceil a c

floor_is : (f : Format) (s : Bool) (m : ℕ) (e : ℤ) → floor f (fin s m e) ≡ round f s (whole_of s (m * up e) (down e)) 1
unfolding floor
floor_is f false m e = refl
floor_is f true m e = refl

-- ---- the order
floor_sle : (s : Bool) (m : ℕ) (e : ℤ) (t : Bool) (n : ℕ) (d : ℤ) → T (le (fin s m e) (fin t n d))
    → Sle s (whole_of s (m * up e) (down e)) t (whole_of t (n * up d) (down d))
floor_sle false m e false n d h =
    more (m * up e / down e) (n * up d / down d)
    (div_mono (m * up e) (down e) (n * up d) (down d) (down_pos e) (down_pos d)
    (plain (m * up e * down d) (n * up d * down e) (le→signed false m e false n d h)))
  where
    plain : (a b : ℕ) → a + 0 ≤ b + 0 → a ≤ b
    plain a b h = omega arith

    more : (a b : ℕ) → a ≤ b → a + 0 ≤ b + 0
    more a b h = omega arith
floor_sle false m e true n d h =
    let l = le→signed false m e true n d h in
    let x : m * up e ≡ 0 = factor (m * up e) (down d) (down_pos d) (first (m * up e * down d) (n * up d * down e) l) in
    let y : n * up d ≡ 0 = factor (n * up d) (down e) (down_pos e) (second (m * up e * down d) (n * up d * down e) l) in
    none (m * up e / down e) (ceil (n * up d) (down d)) (le_trans (div-le_self (m * up e) (down e)) (le_of_eq x))
    (ceil_le (n * up d) (down d) 0 (down_pos d) (le_trans (le_of_eq y) zero-le))
  where
    factor : (a d : ℕ) → 0 < d → a * d ≡ 0 → a ≡ 0
    factor a d D e = eq_of_mul-eq-mul_right d D a 0 (e ∙ sym (zero-mul d))

    first : (a b : ℕ) → a + b ≤ 0 + 0 → a ≡ 0
    first a b h = omega arith

    second : (a b : ℕ) → a + b ≤ 0 + 0 → b ≡ 0
    second a b h = omega arith

    none : (a b : ℕ) → a ≤ 0 → b ≤ 0 → a + b ≤ 0 + 0
    none a b h k = omega arith
floor_sle true m e false n d h = zero-le
floor_sle true m e true n d h =
    more (ceil (n * up d) (down d)) (ceil (m * up e) (down e))
    (ceil_mono (n * up d) (down d) (m * up e) (down e) (down_pos d) (down_pos e)
    (plain (m * up e * down d) (n * up d * down e) (le→signed true m e true n d h)))
  where
    plain : (a b : ℕ) → 0 + b ≤ 0 + a → b ≤ a
    plain a b h = omega arith

    more : (a b : ℕ) → a ≤ b → 0 + a ≤ 0 + b
    more a b h = omega arith

-- `floor` keeps the order
pub floor_rises : (f : Format) (x y : Float) → T (finite x) → T (finite y) → T (le x y) → T (le (floor f x) (floor f y))
floor_rises f nan y p q h = elim p [ ]
floor_rises f (inf _) y p q h = elim p [ ]
floor_rises f (fin s m e) nan p q h = elim q [ ]
floor_rises f (fin s m e) (inf _) p q h = elim q [ ]
floor_rises f (fin s m e) (fin t n d) p q h =
    subst (λ (v : Float). T (le v (floor f (fin t n d)))) (sym (floor_is f s m e))
    (subst (λ (v : Float). T (le (round f s (whole_of s (m * up e) (down e)) 1) v)) (sym (floor_is f t n d))
    (round_rises f s (whole_of s (m * up e) (down e)) t (whole_of t (n * up d) (down d)) 1 (lit< tt) (floor_sle s m e t n d h)))

-- the same of the integers
abbrev pub signed_of : Bool → ℕ → ℤ
signed_of s a = cond s (neg_ℤ (pos a)) (pos a)

neg_mono : (a b : ℕ) → a ≤ b → T (int_le (neg_ℤ (pos b)) (neg_ℤ (pos a)))
neg_mono zero zero h = tt
neg_mono zero (suc b) h = tt
neg_mono (suc a) zero h = absurd (not-suc-le-zero h)
neg_mono (suc a) (suc b) h = le→leb a b (le_of_suc-le-suc h)

below_pos : (a b : ℕ) → T (int_le (neg_ℤ (pos a)) (pos b))
below_pos zero b = le→leb 0 b zero-le
below_pos (suc a) b = tt

sle→le_z : (s : Bool) (a : ℕ) (t : Bool) (b : ℕ) → Sle s a t b → T (int_le (signed_of s a) (signed_of t b))
sle→le_z false a false b h = le→leb a b (omega arith)
sle→le_z false zero true zero h = tt
sle→le_z false zero true (suc b) h = absurd (omega arith)
sle→le_z false (suc a) true b h = absurd (omega arith)
sle→le_z true a false b h = below_pos a b
sle→le_z true a true b h = neg_mono b a (omega arith)

floor_z_is : (s : Bool) (m : ℕ) (e : ℤ) → floor_z (fin s m e) ≡ signed_of s (whole_of s (m * up e) (down e))
floor_z_is false m e = refl
floor_z_is true m e = refl

-- and so does the integer
pub floor_z_rises : (x y : Float) → T (finite x) → T (finite y) → T (le x y) → T (int_le (floor_z x) (floor_z y))
floor_z_rises nan y p q h = elim p [ ]
floor_z_rises (inf _) y p q h = elim p [ ]
floor_z_rises (fin s m e) nan p q h = elim q [ ]
floor_z_rises (fin s m e) (inf _) p q h = elim q [ ]
floor_z_rises (fin s m e) (fin t n d) p q h =
    subst (λ (z : ℤ). T (int_le z (floor_z (fin t n d)))) (sym (floor_z_is s m e))
    (subst (λ (z : ℤ). T (int_le (signed_of s (whole_of s (m * up e) (down e))) z)) (sym (floor_z_is t n d))
    (sle→le_z s (whole_of s (m * up e) (down e)) t (whole_of t (n * up d) (down d)) (floor_sle s m e t n d h)))

-- ---- the magnitude of `floor`'s result, as a value
pub ceil_value : (f : Format) (s : Bool) (m : ℕ) (e : ℤ) → T (fits f (fin s m e))
    → HasValue (round f s (ceil (m * up e) (down e)) 1) s (ceil (m * up e) (down e)) 1
ceil_value f s m (pos a) h = subst (λ (n : ℕ). HasValue (round f s n 1) s n 1) (ap (λ (x : ℕ). x / 1) (sym (plain (m * 2 ^ a)))) (whole_value f s m (pos a) h)
  where
    plain : (x : ℕ) → x + (1 - 1) ≡ x
    plain x = omega arith
ceil_value f s zero (negsuc a) h = round_whole f s (ceil (0 * 1) (2 ^ suc a)) (le_trans (ceil_le (0 * 1) (2 ^ suc a) 0 (pow_pos (suc a)) zero-le) zero-le)
ceil_value f s (suc m) (negsuc a) h =
    round_whole f s (ceil (suc m * 1) (2 ^ suc a))
    (le_trans (ceil_le (suc m * 1) (2 ^ suc a) (suc m) (pow_pos (suc a)) (mul-le-mul_left (suc m) (pow_pos (suc a)))) (le_of_lt (small f s m (negsuc a) h)))

-- ---- read as an integer, where it is not past the end
pub signed_of_lem : (h : ℕ) (x : Float) (s : Bool) (n : ℕ) → HasValue x s n 1 → n < 2 ^ h → to_signed h x ≡ cond s (neg_ℤ (pos n)) (pos n)
unfolding to_signed
signed_of_lem h nan s n v l = elim v [ ]
signed_of_lem h (inf _) s n v l = elim v [ ]
signed_of_lem h (fin true m e) s n v l =
    ap (λ (k : ℕ). neg_ℤ (pos (min k (2 ^ h)))) (ap (λ (k : ℕ). k / down e) (sym (mul-one (m * up e)) ∙ v.1) ∙ mul-div_cancel n (down_pos e))
    ∙ ap (λ (k : ℕ). neg_ℤ (pos k)) (cap n (2 ^ h) l) ∙ ap (λ (b : Bool). cond b (neg_ℤ (pos n)) (pos n)) v.0
  where
    cap : (n c : ℕ) → n < c → min n c ≡ n
    cap n c h = omega arith
signed_of_lem h (fin false m e) s n v l =
    ap (λ (k : ℕ). pos (min k (2 ^ h - 1))) (ap (λ (k : ℕ). k / down e) (sym (mul-one (m * up e)) ∙ v.1) ∙ mul-div_cancel n (down_pos e))
    ∙ ap pos (cap n (2 ^ h) l) ∙ ap (λ (b : Bool). cond b (neg_ℤ (pos n)) (pos n)) v.0
  where
    cap : (n c : ℕ) → n < c → min n (c - 1) ≡ n
    cap n c h = omega arith

-- ---- what `coordinate` took
differ : ◌≡◌ {A = ℕ} 0 1 → ⊥
differ z = omega arith

need_ok : {A : Type 0} (c : Bool) (n : ℕ) (r : Result A) (a : A) → need c n r ≡ ok a → T c × (r ≡ ok a)
need_ok true n r a e = (tt, e)
need_ok false n r a e = let z : ◌≡◌ {A = ℕ} 0 1 = cc in absurd (differ z)

same_ok : {A : Type 0} (a b : A) → ◌≡◌ {A = Result A} (ok a) (ok b) → a ≡ b
same_ok a b e = cc

abbrev bottom : Float
bottom = fin true 1 (pos 31)

abbrev ceiling : Float
ceiling = fin false 2147483647 (pos 0)

-- v is finite and in the range of an i32, and z is its whole part
pub record Taken (v : Float) (z : ℤ) : Type 0 where
  pub real : T (finite v)
  pub low : T (le bottom v)
  pub high : T (le v ceiling)
  pub is : z ≡ to_signed 31 v

pub taken : (v : Float) (z : ℤ) → coordinate v ≡ ok z → Taken v z
unfolding coordinate of_int
taken v z e =
    let q = need_ok (finite v && le bottom v && le v ceiling) 16 (ok (to_signed 31 v)) z e in
    let p = and_l (finite v && le bottom v) (le v ceiling) q.0 in
    record {
      real = and_l (finite v) (le bottom v) p;
      low = and_r (finite v) (le bottom v) p;
      high = and_r (finite v && le bottom v) (le v ceiling) q.0;
      is = sym (same_ok (to_signed 31 v) z q.1);
    }

-- ---- whole numbers with signs
abbrev Whole : Bool → ℕ → Type 0
Whole s a = (to_signed 31 (round binary64 s a 1) ≡ signed_of s a) × (mag (signed_of s a) < 2 ^ 31)

too_high : T (le (round binary64 false 2147483648 1) ceiling) → ⊥
unfolding round le
too_high h = h

too_low : T (le bottom (round binary64 true 2147483649 1)) → ⊥
unfolding round le
too_low h = h

least : to_signed 31 (round binary64 true 2147483648 1) ≡ negsuc 2147483647
unfolding to_signed round
least = refl

signed_whole : (s : Bool) (a : ℕ) → T (le bottom (round binary64 s a 1)) → T (le (round binary64 s a 1) ceiling) → Whole s a
signed_whole false a l h = elim (decide a 2147483648) [
  | inl k ↦ (signed_of_lem 31 (round binary64 false a 1) false a (round_whole binary64 false a (big a k)) k, k)
  | inr k ↦ absurd (too_high
      (le_through (round binary64 false 2147483648 1) (round binary64 false a 1) ceiling
      (round_mono binary64 2147483648 1 a 1 (lit< tt) (lit< tt) (mul-le-mul_right 1 k)) h))
]
  where
    big : (a : ℕ) → a < 2147483648 → a ≤ 2 ^ 53
    big a h = omega arith
signed_whole true a l h = elim (decide a 2147483648) [
  | inl k ↦ (signed_of_lem 31 (round binary64 true a 1) true a (round_whole binary64 true a (big a k)) k, small a k)
  | inr k ↦ elim (decide a 2147483649) [
    | inl j ↦ subst (λ (n : ℕ). Whole true n) (same a k j) (least, lit< tt)
    | inr j ↦ absurd (too_low
        (le_through bottom (round binary64 true a 1) (round binary64 true 2147483649 1) l
        (round_rises binary64 true a true 2147483649 1 (lit< tt) (omega arith))))
  ]
]
  where
    big : (a : ℕ) → a < 2147483648 → a ≤ 2 ^ 53
    big a h = omega arith

    same : (a : ℕ) → 2147483648 ≤ a → a < 2147483649 → 2147483648 ≡ a
    same a h k = omega arith

    small : (a : ℕ) → a < 2147483648 → mag (neg_ℤ (pos a)) < 2 ^ 31
    small zero h = lit< tt
    small (suc a) h = omega arith

-- ---- one more
add_unit : (f : Format) (x : Float) (s : Bool) (n : ℕ) → HasValue x s n 1 → add f x unit ≡ sum f s n false 1 1
unfolding add
add_unit f (fin t k g) s n v =
    ap (λ (o : Bool). sum f o (k * up g * 1) false (1 * 1 * down g) (down g * 1)) v.0
    ∙ sum_same f s false (k * up g * 1) (1 * 1 * down g) (down g * 1) n 1 1 (mul-pos (down_pos g) (lit< tt)) (lit< tt)
    (mul-one (k * up g * 1) ∙ v.1 ∙ ap (λ (x : ℕ). n * x) (sym (mul-one (down g))))
    (mul-one (1 * 1 * down g) ∙ one-mul (down g) ∙ sym (mul-one (down g)) ∙ sym (one-mul (down g * 1)))
add_unit f nan s n v = absurd v
add_unit f (inf t) s n v = absurd v

abbrev Next : Format → Bool → ℕ → Type 0
Next f s n = (t : Bool) × (k : ℕ) × (sum f s n false 1 1 ≡ round f t k 1) × (signed_of t k ≡ suc_ℤ (signed_of s n))

next : (f : Format) (s : Bool) (n : ℕ) → Next f s n
next f false n = (false, n + 1, sum_alike f false false n 1 1 refl, ap pos (add-one n))
next f true zero = (false, 1, sum_below f true false 0 1 1 refl (lit< tt), refl)
next f true (suc zero) = (false, 0, sum_level f true false 1 1 1 refl refl, refl)
next f true (suc (suc n)) = (true, suc n, sum_above f true false (suc (suc n)) 1 1 refl (omega arith) ∙ ap (λ (k : ℕ). round f true k 1) (less n), refl)
  where
    less : (n : ℕ) → suc (suc n) - 1 ≡ suc n
    less n = omega arith

far_high : T (le (add binary64 (round binary64 false 4294967296 1) unit) ceiling) → ⊥
unfolding round le add
far_high h = h

far_low : T (le bottom (add binary64 (round binary64 true 4294967296 1) unit)) → ⊥
unfolding round le add
far_low h = h

far_real : (s : Bool) → T (finite (round binary64 s 4294967296 1))
unfolding round
far_real true = tt
far_real false = tt

unit_le : T (le unit unit)
unfolding le
unit_le = tt

-- floor + 1 is in range: floor is small enough for the sum to be exact
near : (s : Bool) (n : ℕ) → T (finite (round binary64 s n 1)) → T (le bottom (add binary64 (round binary64 s n 1) unit))
    → T (le (add binary64 (round binary64 s n 1) unit) ceiling) → n ≤ 2 ^ 53
near s n p l h = elim (decide 4294967296 n) [ inl k ↦ absurd (go s p l h k) | inr k ↦ le_trans k (lit≤ tt) ]
  where
    go : (s : Bool) → T (finite (round binary64 s n 1)) → T (le bottom (add binary64 (round binary64 s n 1) unit))
        → T (le (add binary64 (round binary64 s n 1) unit) ceiling) → 4294967296 < n → ⊥
    go false p l h k = far_high (le_through (add binary64 (round binary64 false 4294967296 1) unit) (add binary64 (round binary64 false n 1) unit) ceiling
        (add_rises binary64 (round binary64 false 4294967296 1) (round binary64 false n 1) unit unit (far_real false) p tt tt
        (round_rises binary64 false 4294967296 false n 1 (lit< tt) (omega arith)) unit_le) h)
    go true p l h k = far_low (le_through bottom (add binary64 (round binary64 true n 1) unit) (add binary64 (round binary64 true 4294967296 1) unit) l
        (add_rises binary64 (round binary64 true n 1) (round binary64 true 4294967296 1) unit unit p (far_real true) tt tt
        (round_rises binary64 true n true 4294967296 1 (lit< tt) (omega arith)) unit_le))

signed_next : (s : Bool) (n : ℕ) (z : ℤ) → Taken (add binary64 (round binary64 s n 1) unit) z → (z ≡ suc_ℤ (signed_of s n)) × (mag z < 2 ^ 31)
signed_next s n z h =
    let x = round binary64 s n 1 in
    let v = round_whole binary64 s n (near s n (add_left binary64 x unit h.real) h.low h.high) in
    let (t, k, e, i) = next binary64 s n in
    let r : add binary64 x unit ≡ round binary64 t k 1 = add_unit binary64 x s n v ∙ e in
    let w = signed_whole t k (subst (λ (y : Float). T (le bottom y)) r h.low) (subst (λ (y : Float). T (le y ceiling)) r h.high) in
    let is : z ≡ signed_of t k = h.is ∙ ap (to_signed 31) r ∙ w.0 in
    (is ∙ i, subst (λ (y : ℤ). mag y < 2 ^ 31) (sym is) w.1)

-- ---- the two ends of the second box: coordinates of floor and of floor + 1
abbrev pub End : Float → ℤ → ℤ → Type 0
End w z y = T (finite w) × (z ≡ y) × (mag z < 2 ^ 31)

plain : (s : Bool) (n : ℕ) (z : ℤ) → Taken (round binary64 s n 1) z → (z ≡ signed_of s n) × (mag z < 2 ^ 31)
plain s n z h =
    let w = signed_whole s n h.low h.high in
    let is : z ≡ signed_of s n = h.is ∙ w.0 in
    (is, subst (λ (y : ℤ). mag y < 2 ^ 31) (sym is) w.1)

low_taken : (w : Float) (z : ℤ) → Taken (floor binary64 w) z → End w z (floor_z w)
unfolding floor
low_taken nan z h = absurd h.real
low_taken (inf s) z h = absurd h.real
low_taken (fin false m e) z h = let p = plain false (m * up e / down e) z h in (tt, p.0, p.1)
low_taken (fin true m e) z h = let p = plain true (ceil (m * up e) (down e)) z h in (tt, p.0, p.1)

high_taken : (w : Float) (z : ℤ) → Taken (add binary64 (floor binary64 w) unit) z → End w z (suc_ℤ (floor_z w))
unfolding floor
high_taken nan z h = absurd (add_left binary64 nan unit h.real)
high_taken (inf s) z h = absurd (add_left binary64 (inf s) unit h.real)
high_taken (fin false m e) z h = let p = signed_next false (m * up e / down e) z h in (tt, p.0, p.1)
high_taken (fin true m e) z h = let p = signed_next true (ceil (m * up e) (down e)) z h in (tt, p.0, p.1)

-- floor
pub low_end : (w : Float) (z : ℤ) → coordinate (floor binary64 w) ≡ ok z → End w z (floor_z w)
low_end w z e = low_taken w z (taken (floor binary64 w) z e)

one_is : of_int binary64 (pos 1) ≡ unit
unfolding of_int
one_is = refl

-- floor + 1
pub high_end : (w : Float) (z : ℤ) → coordinate (add binary64 (floor binary64 w) (of_int binary64 (pos 1))) ≡ ok z → End w z (suc_ℤ (floor_z w))
high_end w z e =
    high_taken w z (taken (add binary64 (floor binary64 w) unit) z (ap (λ (o : Float). coordinate (add binary64 (floor binary64 w) o)) (sym one_is) ∙ e))

-- a whole number between two of 32 bits has 32 bits
pub mag_between : (l z h : ℤ) (H : ℕ) → T (int_le l z) → T (int_le z h) → mag l < H → mag h < H → mag z < H
mag_between l (pos a) (pos b) H p q x y = omega (arith, leb→le a b q)
mag_between l (pos a) (negsuc b) H p q x y = absurd q
mag_between (pos b) (negsuc a) h H p q x y = absurd p
mag_between (negsuc b) (negsuc a) h H p q x y = omega (arith, leb→le a b p)
