-- The greatest so far and what is left have the same greatest as the whole.
use Rattle.std.proofs.Common.{◌≡◌, drop}
use Rattle.float.specs.Zero.{+0}
use Rattle.sheet.specs.Sheet.{most_of}
use Rattle.sheet.proofs.lines.most.Given as goal

abbrev pub invariant-loop-figure : goal.invariant-loop-figure
invariant-loop-figure l = most_of l.greatest (drop l.figure-index l.layer) ≡ most_of +0 l.layer
