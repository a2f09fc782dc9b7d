-- The place that is read and the word there are the list's.
use Rattle.std.proofs.Common.{arith}
use Rattle.layout.specs.Bytes.{u32_at}
use Rattle.replay.specs.WordLaws.{word_front, read_front}
use Rattle.replay.proofs.read_placed.Goals as goal

pub returns-clause-at : goal.returns-clause-at
returns-clause-at g c = read_front u32_at word_front _ 8 0 _ _ (omega arith) c.in_ok-n.ensures.filled c.at.ensures

pub returns-clause-value : goal.returns-clause-value
returns-clause-value g c =
    read_front g.T.Word.word g.met.T.Word.front _ 8 4 _ _ (omega arith) c.in_ok-n.ensures.filled c.word_at.ensures
