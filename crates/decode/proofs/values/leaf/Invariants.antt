-- The first i values are stored.
use Rattle.decode.specs.Inner.Stored.{leaf_value, Stored}
use Rattle.decode.proofs.values.leaf.Given as goal

abbrev pub invariant-loop-i : goal.invariant-loop-i
invariant-loop-i l = Stored (leaf_value l.bytes l.source) l.base 0 l.fn.leaves l.i l.leaves
