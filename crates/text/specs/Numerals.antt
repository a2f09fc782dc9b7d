-- Numbers as text. Text is a list of ASCII codes.
use Rattle.std.specs.Prelude.{ℕ, zero, suc, ◌+◌, ◌/◌, ◌%◌, cond, List, [], ◌∷◌, ◌++◌, ltb, ℤ, pos, negsuc}

-- a digit below 16: `0` to `9`, then `a` to `f`
abbrev pub digit : ℕ → ℕ
digit d = cond (ltb d 10) (48 + d) (87 + d)

-- n in base ten, which takes at most k + 1 digits
unfoldable pub tens : ℕ → ℕ → List ℕ
tens zero n = digit n ∷ []
tens (suc k) n = cond (ltb n 10) (digit n ∷ []) (tens k (n / 10) ++ (digit (n % 10) ∷ []))

-- n in base ten, with no zeros in front; 0 is `0`
unfoldable pub decimal : ℕ → List ℕ
unfolding tens
decimal n = tens n n

-- a minus in front of what is below zero
unfoldable pub signed_text : ℤ → List ℕ
unfolding decimal
signed_text (pos n) = decimal n
signed_text (negsuc n) = 45 ∷ decimal (suc n)

-- the last k digits of n in base sixteen, zeros in front
unfoldable pub sixteens : ℕ → ℕ → List ℕ
sixteens zero n = []
sixteens (suc k) n = sixteens k (n / 16) ++ (digit (n % 16) ∷ [])

-- the eight digits of a u32
abbrev pub hex8 : ℕ → List ℕ
hex8 n = sixteens 8 n
