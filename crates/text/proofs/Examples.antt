-- Worked examples of numbers as text, and of a page. Each is computed.
use Rattle.std.specs.Prelude.{◌≡◌, refl, List, [], ◌∷◌, ◌++◌, ℕ, suc, pos, negsuc}
use Rattle.std.proofs.Common.{ap, ◌∙◌, arith}
use Rattle.text.specs.Numerals.{decimal, signed_text, hex8, sixteens}
use Rattle.text.proofs.NumeralLaws.{decimal_more}
use Rattle.text.specs.Page.{page, puts}

-- `0`
zero_text : decimal 0 ≡ 48 ∷ []
unfolding decimal
zero_text = refl

-- `10`
ten_text : decimal 10 ≡ 49 ∷ 48 ∷ []
unfolding decimal
ten_text = refl

-- `32768`
bytes_text : decimal 32768 ≡ 51 ∷ 50 ∷ 55 ∷ 54 ∷ 56 ∷ []
unfolding decimal
bytes_text = refl

-- `-1`
minus_one_text : signed_text (negsuc 0) ≡ 45 ∷ 49 ∷ []
unfolding signed_text
minus_one_text = refl

minus_text : (n : ℕ) → signed_text (negsuc n) ≡ 45 ∷ decimal (suc n)
unfolding signed_text
minus_text n = refl

front_text : decimal 524 ≡ 53 ∷ 50 ∷ 52 ∷ []
unfolding decimal
front_text = refl

-- `-524288`, whose last three digits are split off one by one
lowest_block_text : signed_text (negsuc 524287) ≡ 45 ∷ 53 ∷ 50 ∷ 52 ∷ 50 ∷ 56 ∷ 56 ∷ []
lowest_block_text =
    minus_text 524287
    ∙ ap (λ (l : List ℕ). 45 ∷ l) (
    decimal_more 524288 (omega arith)
    ∙ ap (λ (l : List ℕ). l ++ (56 ∷ [])) (
    decimal_more 52428 (omega arith)
    ∙ ap (λ (l : List ℕ). l ++ (56 ∷ [])) (decimal_more 5242 (omega arith) ∙ ap (λ (l : List ℕ). l ++ (50 ∷ [])) front_text)))

-- `7`
seven_text : signed_text (pos 7) ≡ 55 ∷ []
unfolding signed_text
seven_text = refl

-- `3f000000`, the bits of 0.5
half_text : hex8 0x3f000000 ≡ 51 ∷ 102 ∷ 48 ∷ 48 ∷ 48 ∷ 48 ∷ 48 ∷ 48 ∷ []
unfolding sixteens
half_text = refl

-- three bytes from place 1 of a slice of three: the last has no room
page_full : puts (page (0 ∷ 0 ∷ 0 ∷ []) 1) (97 ∷ 98 ∷ 99 ∷ []) ≡ page (0 ∷ 97 ∷ 98 ∷ []) 3
unfolding puts
page_full = refl
