-- Floats that are +0 or above: of two that are not below each other, both have the same bits; and where they fit a format, both are the same.
use Rattle.std.specs.Prelude.{◌≡◌, ℕ, ◌+◌, ◌-◌, ◌*◌, ◌/◌, ◌^◌, ◌<◌, true, false, not, T, ◌⊎◌, ℤ, pos, refl, Float}
use Rattle.std.proofs.Common.{le_antisymm, zero-mul, mul_comm, mul_assoc, arith, sym, ap, ◌∙◌, subst, inl, inr, true≢false, ltb-false, le-ltb}
use Rattle.std.proofs.Math.Nat.{mul-div-mul_right}
use Rattle.std.proofs.lemmas.Bool.{false≢true}
use Rattle.std.specs.Float.{nan, inf, fin, Format}
use Rattle.std.specs.Float.Ieee.{prec, low, hid, size, up, down, lt, fits, is_nan, to_bits}
use Rattle.std.specs.Float.Ieee.Fits.{down_pos}
use Rattle.float.specs.Zero.{+0}
use Rattle.float.proofs.Exactly.{unique}

-- +0 or above
abbrev pub Up : Float → Type 0
Up r = (r ≡ +0) ⊎ (lt +0 r ≡ true)

-- no NaN, and no sign
pub data Plain : Float → Type 0 where
  top : Plain (inf false)
  at : (m : ℕ) (e : ℤ) → Plain (fin false m e)

pub plain_number : {r : Float} → Plain r → T (not (is_nan r))
unfolding is_nan
plain_number top = tt
plain_number (at m e) = tt

-- what is above +0 is plain
pub above_plain : (r : Float) → lt +0 r ≡ true → Plain r
unfolding lt
above_plain nan h = absurd (false≢true h)
above_plain (inf true) h = absurd (false≢true h)
above_plain (inf false) h = top
above_plain (fin true m e) h = absurd (false≢true h)
above_plain (fin false m e) h = at m e

pub up_plain : (r : Float) → Up r → Plain r
up_plain r (inl e) = subst (λ (x : Float). Plain x) (sym e) (at 0 (pos 0))
up_plain r (inr h) = above_plain r h

-- and is not below +0
pub not_below_zero : {r : Float} → Plain r → lt r +0 ≡ false
unfolding lt
not_below_zero top = refl
not_below_zero (at m e) = le-ltb (m * up e * 1) (0 * 1 * down e) (omega (arith, zero-mul (down e)))

-- what fits has one float for each value
pub alike : (f : Format) {r s : Float} → Plain r → Plain s → T (fits f r) → T (fits f s) → lt r s ≡ false → lt s r ≡ false → r ≡ s
unfolding lt
alike f top top u v h k = refl
alike f top (at m e) u v h k = absurd (true≢false k)
alike f (at m e) top u v h k = absurd (true≢false h)
alike f (at m e) (at n d) u v h k =
    unique f (fin false m e) (fin false n d) false (m * up e) (down e) (down_pos e) u v (refl, refl)
    (refl, le_antisymm (ltb-false (m * up e * down d) (n * up d * down e) h) (ltb-false (n * up d * down e) (m * up e * down d) k))

-- ---- bits

-- a / e and n / d are one number: so are their multiples, rounded down
same_quotient : (a e n d l : ℕ) → 0 < e → 0 < d → a * d ≡ n * e → a * l / e ≡ n * l / d
same_quotient a e n d l E D h =
    sym (mul-div-mul_right (a * l) e D) ∙ ap (λ (k : ℕ). k / (e * d)) above ∙ ap (λ (k : ℕ). n * l * e / k) (mul_comm e d) ∙ mul-div-mul_right (n * l) d E
  where
    swap : (x y z : ℕ) → x * y * z ≡ x * z * y
    swap x y z = mul_assoc x y z ∙ ap (λ (k : ℕ). x * k) (mul_comm y z) ∙ sym (mul_assoc x z y)

    above : a * l * d ≡ n * l * e
    above = swap a l d ∙ ap (λ (k : ℕ). k * l) h ∙ swap n e l

-- bits are made of the number alone, however it is written, so this needs no `fits`
pub same_bits : (f : Format) {r s : Float} → Plain r → Plain s → lt r s ≡ false → lt s r ≡ false → to_bits f r ≡ to_bits f s
unfolding lt to_bits
same_bits f top top h k = refl
same_bits f top (at m e) h k = absurd (true≢false k)
same_bits f (at m e) top h k = absurd (true≢false h)
same_bits f (at m e) (at n d) h k =
    let same = le_antisymm (ltb-false (n * up d * down e) (m * up e * down d) k) (ltb-false (m * up e * down d) (n * up d * down e) h) in
    ap (λ (a : ℕ). 0 + (size a - prec f) * hid f + a / 2 ^ (size a - prec f))
    (same_quotient (m * up e) (down e) (n * up d) (down d) (2 ^ low f) (down_pos e) (down_pos d) same)
