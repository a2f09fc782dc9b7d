-- What a lookup answers: its value, and the level that spoke; and the coordinate that three numbers are.
use Rattle.std.specs.Prelude.{ℕ, ℤ, Float}
use Rattle.refusals.specs.Results.{Result, ok, refused}
use Rattle.float.specs.Zero.{+0}
use Rattle.layout.specs.Coordinates.{Coord}
use Rattle.layout.specs.Walk.{Level, of_leaf, of_lower, of_upper, of_root, of_background}
use Rattle.sparse_grid.specs.declared.Level as Code
use Rattle.sparse_grid.specs.declared.Level.TheVariants.{Background, RootTile, UpperTile, LowerTile, Leaf}
use Rattle.sparse_grid.specs.Lookup as lookup
use Rattle.sparse_grid.specs.Lookup.{Found}

-- what a lookup reads, without its level
abbrev pub value_only : Found → Result Float
value_only (lookup.value v l) = ok v
value_only (lookup.refused n) = refused n

-- what a lookup reads: the value, and the level that spoke
pub record Spoken : Type 0 where
  pub value : Float
  pub level : Level

-- what a refused lookup says: +0, and background
abbrev pub unspoken : Spoken
unspoken = record { value = +0; level = of_background }

abbrev pub spoken : Found → Result Spoken
spoken (lookup.value v l) = ok (record { value = v; level = l })
spoken (lookup.refused n) = refused n

-- the level of the code's enum, and its number as C has it
abbrev pub level_of : Code.Level → Level
level_of Background = of_background
level_of RootTile = of_root
level_of UpperTile = of_upper
level_of LowerTile = of_lower
level_of Leaf = of_leaf

abbrev pub level_number : Level → ℕ
level_number of_background = 0
level_number of_root = 1
level_number of_upper = 2
level_number of_lower = 3
level_number of_leaf = 4

abbrev pub at : ℤ → ℤ → ℤ → Coord
at x y z = record { x = x; y = y; z = z }
