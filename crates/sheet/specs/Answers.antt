-- What the code answers of a sheet: how long its text is.
use Rattle.std.specs.Prelude.{ℕ, List, length}
use Rattle.refusals.specs.Results.{Result, ok, bind}

-- the length of the text, or the number of its refusal
abbrev pub length_of : Result (List ℕ) → Result ℕ
length_of r = bind r (λ t. ok (length t))
