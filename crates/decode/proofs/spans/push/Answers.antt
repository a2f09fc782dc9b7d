-- The words after `put` hold one span more.
use Rattle.std.proofs.Common.{◌+◌, ◌*◌, ℕ, ap, ◌∙◌}
use Rattle.decode.specs.Inner.WorkTable.{put_s}
use Rattle.decode.proofs.kinds.Laws.{three}
use Rattle.decode.proofs.spans.PutLaws.{pushed}
use Rattle.decode.proofs.spans.push.Goals as goal

pub returns : goal.returns
returns c =
    let a = c.args in let ((rep, room), (small, free)) = c.requires in
    pushed rep room (three a.node.kind) small c.chain-h.ensures.1 (rw (← c.size.ensures.is) c.chain-h.ensures.0) free
    (c.put.ensures ∙ ap (λ (l : ℕ). put_s a.work.now c.chain-h.result a.st.count a.node.start (a.node.number * 4 + l)) c.level.ensures)
