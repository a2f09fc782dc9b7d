-- A lent table whose used part stands first, with zeros past it to its end.
use Rattle.std.specs.Prelude.{ℕ, ◌-◌, List, ◌++◌, length, replicate}

-- l in a table of n places, with z past it
unfoldable pub padded : {A : Type 0} → ℕ → A → List A → List A
padded n z l = l ++ replicate (n - length l) z
