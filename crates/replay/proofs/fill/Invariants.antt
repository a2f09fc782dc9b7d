-- The places that are left still do to the table what they do to that of the start.
use Rattle.replay.proofs.Filling.{IsFilling}
use Rattle.replay.proofs.fill.Given as goal

abbrev pub invariant-loop : goal.invariant-loop
invariant-loop g l =
    IsFilling (λ rest. g.T.Word.word rest 4) l.n l.counter (g.R.Read.remaining l.initial.list) (g.R.Read.remaining l.list) l.initial.table l.table
