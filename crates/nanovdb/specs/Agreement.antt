-- What it means that a lookup of tables reads what the walk of the bytes reads.
use Rattle.std.specs.Prelude.{◌≡◌, List, ℕ}
use Rattle.std.specs.Float.{binary32}
use Rattle.std.specs.Float.Ieee.{to_bits}
use Rattle.layout.specs.Coordinates.{Coord}
use Rattle.layout.specs.Walk.{walk}
use Rattle.sparse_grid.specs.Lookup.{Found, value, refused}

-- the walk's 32 bits, at the walk's level
abbrev pub ReadsAs : List ℕ → Coord → Found → Type 0
ReadsAs b c (value v l) = (to_bits binary32 v ≡ (walk b c).bits) × (l ≡ (walk b c).level)
ReadsAs b c (refused n) = ⊥
