-- The digits of a number in base ten: those of its tenth, and the last. Assumes nothing.
use Rattle.std.specs.Prelude.{◌≡◌, refl, Bool, cond, List, [], ◌∷◌, ◌++◌, ℕ, zero, suc, ◌/◌, ◌%◌, ◌≤◌, ◌<◌, ltb}
use Rattle.std.proofs.Common.{sym, ap, ◌∙◌, arith, lt-ltb, le-ltb}
use Rattle.text.specs.Numerals.{digit, tens, decimal}

-- as many digits as n needs, however many are allowed
tens_enough : (k j n : ℕ) → n ≤ k → n ≤ j → tens k n ≡ tens j n
unfolding tens
tens_enough zero zero n a b = refl
tens_enough zero (suc j) n a b = ap (λ (t : Bool). cond t (digit n ∷ []) (tens j (n / 10) ++ (digit (n % 10) ∷ []))) (sym (lt-ltb n 10 (omega arith)))
tens_enough (suc k) zero n a b = ap (λ (t : Bool). cond t (digit n ∷ []) (tens k (n / 10) ++ (digit (n % 10) ∷ []))) (lt-ltb n 10 (omega arith))
tens_enough (suc k) (suc j) n a b =
    ap (λ (l : List ℕ). cond (ltb n 10) (digit n ∷ []) (l ++ (digit (n % 10) ∷ []))) (tens_enough k j (n / 10) (omega arith) (omega arith))

pub decimal_small : (n : ℕ) → n < 10 → decimal n ≡ digit n ∷ []
unfolding decimal
decimal_small zero h = refl
decimal_small (suc m) h = ap (λ (t : Bool). cond t (digit (suc m) ∷ []) (tens m (suc m / 10) ++ (digit (suc m % 10) ∷ []))) (lt-ltb (suc m) 10 h)

pub decimal_more : (n : ℕ) → 10 ≤ n → decimal n ≡ decimal (n / 10) ++ (digit (n % 10) ∷ [])
unfolding decimal
decimal_more zero h = absurd (omega arith)
decimal_more (suc m) h =
    ap (λ (t : Bool). cond t (digit (suc m) ∷ []) (tens m (suc m / 10) ++ (digit (suc m % 10) ∷ []))) (le-ltb (suc m) 10 h)
    ∙ ap (λ (l : List ℕ). l ++ (digit (suc m % 10) ∷ [])) (tens_enough m (suc m / 10) (suc m / 10) (omega arith) (omega arith))
