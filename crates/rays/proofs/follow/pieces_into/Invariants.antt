-- The first i pieces stand in the tables, and the rest comes from the state that is left.
use Rattle.std.proofs.Common.{length}
use Rattle.rays.specs.Answers.{as_state}
use Rattle.rays.proofs.Tracing.{Going}
use Rattle.rays.proofs.follow.pieces_into.Given as goal

abbrev pub invariant-loop-i : goal.invariant-loop-i
invariant-loop-i l =
    Going l.most l.majorants (as_state l.fn.ray) (as_state l.at) (length l.initial.ends) (length l.initial.figures) l.i l.ends l.figures
