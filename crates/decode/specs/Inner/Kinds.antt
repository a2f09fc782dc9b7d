-- The level of a kind of nodes.
use Rattle.std.specs.Prelude.{ℕ}
use Rattle.decode.specs.declared.kinds.Kind.{Kind}
use Rattle.decode.specs.declared.kinds.Kind.TheVariants.{Leaf, Lower, Upper}

abbrev pub level_of : Kind → ℕ
level_of Leaf = 0
level_of Lower = 1
level_of Upper = 2
