-- The reads that refuse: a field, or 5 where it does not lie wholly inside the bytes.
use Rattle.std.specs.Prelude.{ℕ, ◌+◌, List, length, leb}
use Rattle.refusals.specs.Results.{Result, ok, need}

-- `field`, which takes `width` bytes, at a place
unfoldable pub read_field : {A : Type 0} → (List ℕ → ℕ → A) → ℕ → List ℕ → ℕ → Result A
read_field field width b at = need (leb (at + width) (length b)) 5 (ok (field b at))
