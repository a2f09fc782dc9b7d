-- How long the text of a number is. Assumes nothing.
use Rattle.std.specs.Prelude.{◌≡◌, refl, Bool, true, false, cond, [], ◌∷◌, ◌++◌, ℕ, zero, suc, ◌*◌, ◌/◌, ◌%◌, ◌^◌, ◌≤◌, ◌<◌, ℤ, pos, negsuc, ltb, length}
use Rattle.std.proofs.Common.{sym, subst, pow-suc, arith, length-append, lt-ltb}
use Rattle.std.specs.Int.Signed.{mag}
use Rattle.text.specs.Numerals.{digit, tens, decimal, signed_text, sixteens}

tenth : (n k : ℕ) → n < k * 10 → n / 10 < k
tenth n k h = omega arith

tens_length : (j k n : ℕ) → n < 10 ^ suc j → length (tens k n) ≤ suc j
unfolding tens
tens_length j zero n h = omega arith
tens_length zero (suc k) n h =
    subst (λ (t : Bool). length (cond t (digit n ∷ []) (tens k (n / 10) ++ (digit (n % 10) ∷ []))) ≤ 1) (sym (lt-ltb n 10 h)) (omega arith)
tens_length (suc j) (suc k) n h =
    by_test (tens_length j k (n / 10) (tenth n (10 ^ suc j) (subst (λ (m : ℕ). n < m) (pow-suc 10 (suc j)) h))) (ltb n 10)
  where
    by_test : length (tens k (n / 10)) ≤ suc j → (t : Bool) → length (cond t (digit n ∷ []) (tens k (n / 10) ++ (digit (n % 10) ∷ []))) ≤ suc (suc j)
    by_test r true = omega arith
    by_test r false = omega (arith, length-append (tens k (n / 10)) (digit (n % 10) ∷ []))

-- below ten to the k: at most k digits
pub decimal_length : (k n : ℕ) → 0 < k → n < 10 ^ k → length (decimal n) ≤ k
unfolding decimal
decimal_length zero n p h = absurd (omega arith)
decimal_length (suc j) n p h = tens_length j n n h

pub signed_length : (k : ℕ) (z : ℤ) → 0 < k → suc (mag z) < 10 ^ k → length (signed_text z) ≤ suc k
unfolding signed_text
signed_length k (pos n) p h = omega (arith, decimal_length k n p (omega arith))
signed_length k (negsuc n) p h = omega (arith, decimal_length k (suc n) p h)

pub sixteens_length : (k n : ℕ) → length (sixteens k n) ≡ k
unfolding sixteens
sixteens_length zero n = refl
sixteens_length (suc k) n = omega (arith, sixteens_length k (n / 16), length-append (sixteens k (n / 16)) (digit (n % 16) ∷ []))
