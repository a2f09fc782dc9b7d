-- The file's answer is what the segments from `at` on make of the search. Each segment shortens what is left of the file.
use Rattle.std.proofs.Common.{◌≡◌, ◌-◌, length}
use Rattle.contents.specs.Contents.{located}
use Rattle.contents.proofs.Files.{answer_from}
use Rattle.contents.proofs.locate.Given as goal

abbrev pub invariant-loop-at : goal.invariant-loop-at
invariant-loop-at l = located l.file l.n ≡ answer_from l.file l.at l.found

abbrev pub decreases-loop-at : goal.decreases-loop-at
decreases-loop-at l = length l.file - l.at
