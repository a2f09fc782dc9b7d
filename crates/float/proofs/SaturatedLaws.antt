-- The saturating cast is the one of lib.Ieee, `to_signed` with 31 bits and a sign, which is its account of Rust's `as i32`. Assumes nothing.
use Rattle.std.specs.Prelude.{◌≡◌, ℕ, zero, suc, ◌-◌, ◌*◌, ◌/◌, ◌^◌, ◌<◌, ◌≤◌, min, Bool, true, false, cond, pos, negsuc, neg_ℤ, refl, Float}
use Rattle.std.proofs.Common.{sym, ap, ◌∙◌, inl, inr, le_of_suc-le-suc, eq-or-lt_of_le, arith, lt-ltb, le-ltb}
use Rattle.std.specs.Float.{nan, inf, fin}
use Rattle.std.specs.Float.Ieee.{up, down, to_signed}
use Rattle.float.proofs.Tests.{decide}
use Rattle.float.specs.Saturated.{least, greatest, clamp_z, saturated}

-- ---- the clamp of a whole part

clamp_pos : (q : ℕ) → q < 2147483648 → clamp_z least greatest (pos q) ≡ pos q
clamp_pos q h = ap (λ (b : Bool). cond b greatest (pos q)) (le-ltb 2147483647 q (omega arith))

clamp_over : (q : ℕ) → 2147483648 ≤ q → clamp_z least greatest (pos q) ≡ greatest
clamp_over q h = ap (λ (b : Bool). cond b greatest (pos q)) (lt-ltb 2147483647 q (omega arith))

clamp_neg : (q : ℕ) → q ≤ 2147483648 → clamp_z least greatest (neg_ℤ (pos q)) ≡ neg_ℤ (pos q)
clamp_neg zero h = refl
clamp_neg (suc k) h = ap (λ (b : Bool). cond b least (negsuc k)) (le-ltb 2147483647 k (omega arith))

clamp_under : (q : ℕ) → 2147483648 ≤ q → clamp_z least greatest (neg_ℤ (pos q)) ≡ least
clamp_under zero h = absurd (omega arith)
clamp_under (suc k) h = elim (eq-or-lt_of_le (le_of_suc-le-suc h)) [
  | inl e ↦ ap (λ (n : ℕ). clamp_z least greatest (negsuc n)) (sym e)
  | inr l ↦ ap (λ (b : Bool). cond b least (negsuc k)) (lt-ltb 2147483647 k l)
]

-- ---- the two casts

pub saturated_is : (v : Float) → saturated v ≡ to_signed 31 v
unfolding saturated to_signed
saturated_is nan = refl
saturated_is (inf false) = refl
saturated_is (inf true) = refl
saturated_is (fin false m e) = up_to (m * up e / down e)
  where
    up_to : (q : ℕ) → clamp_z least greatest (pos q) ≡ pos (min q (2 ^ 31 - 1))
    up_to q = elim (decide q 2147483648) [
      | inl l ↦ clamp_pos q l ∙ ap pos (omega arith)
      | inr l ↦ clamp_over q l ∙ ap pos (omega arith)
    ]
saturated_is (fin true m e) = down_to (m * up e / down e)
  where
    whole : (q : ℕ) → 2147483648 ≤ q → 2147483648 ≡ min q 2147483648
    whole q l = omega arith

    same : (q : ℕ) → q < 2147483648 → q ≡ min q 2147483648
    same q l = omega arith

    down_to : (q : ℕ) → clamp_z least greatest (neg_ℤ (pos q)) ≡ neg_ℤ (pos (min q (2 ^ 31)))
    down_to q = elim (decide q 2147483648) [
      | inl l ↦ clamp_neg q (omega arith) ∙ ap (λ (n : ℕ). neg_ℤ (pos n)) (same q l)
      | inr l ↦ clamp_under q l ∙ ap (λ (n : ℕ). neg_ℤ (pos n)) (whole q l)
    ]
