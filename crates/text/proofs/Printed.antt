-- What std and `itoa` print of a number is its text. Assumes nothing.
use Rattle.std.specs.Prelude.{◌≡◌, List, ◌∷◌, ◌++◌, [], ℕ, ◌%◌, ◌^◌, ◌+◌, ◌<◌, Bool, cond, ℤ, pos, negsuc, suc}
use Rattle.std.proofs.Common.{sym, ap, ◌∙◌, arith, lt-ltb, FitsSigned, w32}
use Rattle.std.specs.Fmt as Std
use Rattle.std.proofs.lemmas.Fmt.{decimal_by_steps}
use Rattle.text.specs.Numerals.{digit, decimal, signed_text}
use Rattle.text.proofs.NumeralLaws.{decimal_small, decimal_more}

digit_below : (d : ℕ) → d < 10 → digit d ≡ 48 + d
digit_below d h = ap (λ (t : Bool). cond t (48 + d) (87 + d)) (lt-ltb d 10 h)

pub decimal_is : (n : ℕ) → n < 2 ^ 64 → Std.decimal n ≡ decimal n
decimal_is n small =
    decimal_by_steps (λ (m : ℕ) (ds : List ℕ). ds ≡ decimal m)
    (λ m l. ap (λ (d : ℕ). d ∷ []) (sym (digit_below m l)) ∙ sym (decimal_small m l))
    (λ m ds l h. (λ i. h i ++ (sym (digit_below (m % 10) (omega arith)) i ∷ [])) ∙ sym (decimal_more m l))
    n small

pub signed_is : (z : ℤ) → FitsSigned w32 z → Std.signed_decimal z ≡ signed_text z
unfolding signed_text
signed_is (pos n) s = decimal_is n (omega (arith, s))
signed_is (negsuc n) s = ap (λ (l : List ℕ). 45 ∷ l) (decimal_is (suc n) (omega (arith, s)))
