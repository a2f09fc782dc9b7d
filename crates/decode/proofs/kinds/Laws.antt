-- There are three levels. Assumes nothing.
use Rattle.std.specs.Prelude.{◌<◌}
use Rattle.std.proofs.Common.{arith}
use Rattle.decode.specs.Inner.Kinds.{level_of}
use Rattle.decode.specs.declared.kinds.Kind.{Kind}
use Rattle.decode.specs.declared.kinds.Kind.TheVariants.{Leaf, Lower, Upper}

pub three : (k : Kind) → level_of k < 3
three Leaf = omega arith
three Lower = omega arith
three Upper = omega arith
