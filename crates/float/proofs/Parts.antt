-- A number less its floor lies from 0 to 1: it is k / d rounded, for a k of at most d. A small negative number gives 1. Assumes nothing.
use Rattle.std.specs.Prelude.{◌≡◌, ℕ, ◌+◌, ◌-◌, ◌*◌, ◌/◌, ◌%◌, ◌<◌, ◌≤◌, Bool, true, false, not, T, ℤ, refl, Float}
use Rattle.std.proofs.Common.{sym, ap, ◌∙◌, subst, zero-le, mul-one, mul_comm, mul_assoc, mul_left_comm, mul-pos, div-add-mod', mod-lt, arith, lit<}
use Rattle.std.specs.Float.{nan, inf, fin, Format, binary32, binary64}
use Rattle.std.specs.Float.Ieee.{up, down, round, sum, neg, add, sub, fits}
use Rattle.std.specs.Float.Ieee.Fits.{down_pos, fits_widens}
use Rattle.std.specs.Float.Ieee.Exact.{HasValue}
use Rattle.std.specs.Float.Ieee.Scale.{finite, round_same}
use Rattle.float.specs.Fused.{floor, narrow}
use Rattle.float.proofs.Exactly.{whole_value}
use Rattle.float.proofs.Floors.{ceil, ceil_value}
use Rattle.float.proofs.Sums.{sum_same, sum_above, sum_below, sum_level, order, below, level, above}
use Rattle.float.proofs.Blend.{Unit01, part_01}

-- a number less a whole number of its sign
sub_whole : (f : Format) (s : Bool) (m : ℕ) (e : ℤ) (y : Float) (q : ℕ) → HasValue y s q 1
    → sub f (fin s m e) y ≡ sum f s (m * up e) (not s) (q * down e) (down e)
unfolding sub add neg
sub_whole f s m e (fin t n d) q v =
    ap (λ (o : Bool). sum f s (m * up e * down d) (not o) (n * up d * down e) (down e * down d)) v.0
    ∙ sum_same f s (not s) (m * up e * down d) (n * up d * down e) (down e * down d) (m * up e) (q * down e) (down e)
    (mul-pos (down_pos e) (down_pos d)) (down_pos e)
    (mul_assoc (m * up e) (down d) (down e) ∙ ap (λ (x : ℕ). m * up e * x) (mul_comm (down d) (down e)))
    (ap (λ (x : ℕ). x * down e * down e) (sym (mul-one (n * up d)) ∙ v.1) ∙ turn q (down d) (down e))
  where
    turn : (q d e : ℕ) → q * d * e * e ≡ q * e * (e * d)
    turn q d e = simp (mul_assoc, mul_comm, mul_left_comm)
sub_whole f s m e nan q v = absurd v
sub_whole f s m e (inf t) q v = absurd v

-- k / d, rounded, for a k of at most d
abbrev Portion : Format → Float → Type 0
Portion f x = (k : ℕ) × (d : ℕ) × (0 < d) × (k ≤ d) × (x ≡ round f false k d)

above_floor : (f : Format) (a d : ℕ) → 0 < d → Portion f (sum f false a true (a / d * d) d)
above_floor f a d D =
    let q = a / d * d in
    let e : q + a % d ≡ a = div-add-mod' a d in
    let r : a % d < d = mod-lt a D in
    elim (order a q) [
      | below l ↦ absurd (omega arith)
      | level l ↦ (0, d, D, zero-le, sum_level f false true a q d refl l)
      | above l ↦ (a - q, d, D, omega arith, sum_above f false true a q d refl l)
    ]

below_ceil : (f : Format) (a d : ℕ) → 0 < d → Portion f (sum f true a false (ceil a d * d) d)
below_ceil f a d D =
    let q = ceil a d * d in
    let e : q + (a + (d - 1)) % d ≡ a + (d - 1) = div-add-mod' (a + (d - 1)) d in
    let r : (a + (d - 1)) % d < d = mod-lt (a + (d - 1)) D in
    elim (order a q) [
      | below l ↦ (q - a, d, D, omega arith, sum_below f true false a q d refl l)
      | level l ↦ (0, d, D, zero-le, sum_level f true false a q d refl l)
      | above l ↦ absurd (omega arith)
    ]

portion : (f : Format) (p : Float) → T (finite p) → T (fits f p) → Portion f (sub f p (floor f p))
unfolding floor
portion f nan p h = elim p [ ]
portion f (inf _) p h = elim p [ ]
portion f (fin false m e) p h =
    let q = m * up e / down e in
    subst (λ (x : Float). Portion f x) (sym (sub_whole f false m e (round f false q 1) q (whole_value f false m e h)))
    (above_floor f (m * up e) (down e) (down_pos e))
portion f (fin true m e) p h =
    let q = ceil (m * up e) (down e) in
    subst (λ (x : Float). Portion f x) (sym (sub_whole f true m e (round f true q 1) q (ceil_value f true m e h)))
    (below_ceil f (m * up e) (down e) (down_pos e))

-- ---- the floor by way of binary64, as code has it
narrow_value : (y : Float) (s : Bool) (a c : ℕ) → 0 < c → HasValue y s a c → narrow y ≡ round binary32 s a c
unfolding narrow
narrow_value (fin t n d) s a c C v =
    ap (λ (o : Bool). round binary32 o (n * up d) (down d)) v.0
    ∙ round_same binary32 s (n * up d) (down d) a c (down_pos d) C v.1
narrow_value nan s a c C v = absurd v
narrow_value (inf t) s a c C v = absurd v

pub floor_by_64 : (p : Float) → T (fits binary32 p) → narrow (floor binary64 p) ≡ floor binary32 p
unfolding floor narrow
floor_by_64 nan h = refl
floor_by_64 (inf s) h = refl
floor_by_64 (fin false m e) h =
    let q = m * up e / down e in
    narrow_value (round binary64 false q 1) false q 1 (lit< tt) (whole_value binary64 false m e (fits_widens (fin false m e) h))
floor_by_64 (fin true m e) h =
    let q = ceil (m * up e) (down e) in
    narrow_value (round binary64 true q 1) true q 1 (lit< tt) (ceil_value binary64 true m e (fits_widens (fin true m e) h))

-- in either format
pub less_floor_01 : (f : Format) (p : Float) → T (finite p) → T (fits f p) → Unit01 (sub f p (floor f p))
less_floor_01 f p r h =
    let (k, d, D, l, e) = portion f p r h in
    subst (λ (x : Float). Unit01 x) (sym e) (part_01 f d k D l)
