-- Where a coordinate's slot of a node stands in the table of its level.
use Rattle.std.specs.Prelude.{◌≡◌, ℕ, ◌+◌, ◌*◌, ◌⊎◌, nat_le}
use Rattle.refusals.specs.Results.{Result, ok, need}
use Rattle.layout.specs.Coordinates.{Coord, slot}

-- nodes of n slots a side, of d coordinates each: leaves, lower and upper nodes
abbrev pub IsLevel : ℕ → ℕ → Type 0
IsLevel n d = ((n ≡ 8) × (d ≡ 1)) ⊎ ((n ≡ 16) × (d ≡ 8)) ⊎ ((n ≡ 32) × (d ≡ 128))

-- the index of node k's slot in a table of `length` entries: 11 where the whole node is not in it
abbrev pub index_in : ℕ → ℕ → ℕ → ℕ → Coord → Result ℕ
index_in n d length k c = need (nat_le (n * n * n * (k + 1)) length) 11 (ok (n * n * n * k + slot n d c))
