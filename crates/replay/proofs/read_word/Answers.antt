-- The word that is read is the list's.
use Rattle.std.proofs.Common.{arith}
use Rattle.replay.specs.WordLaws.{read_front}
use Rattle.replay.proofs.read_word.Goals as goal

pub returns-clause-word : goal.returns-clause-word
returns-clause-word g c =
    read_front g.T.Word.word g.met.T.Word.front _ 4 0 _ _ (omega arith) c.in_ok-n.ensures.filled c.word_at.ensures
