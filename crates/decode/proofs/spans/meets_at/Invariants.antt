-- Each node of the kind that is met stands in stretch q or behind it.
use Rattle.decode.specs.Inner.Kinds.{level_of}
use Rattle.decode.proofs.spans.Laws.{From}
use Rattle.decode.proofs.spans.meets_at.Given as goal

abbrev pub invariant-loop-q : goal.invariant-loop-q
invariant-loop-q l = From l.work l.count (level_of l.kind) l.start l.end l.q
