-- One answer of the definition's `claim` of the root for each way out.
use Rattle.std.proofs.Common.{refl}
use Rattle.decode.proofs.spans.ClaimLaws.{root_5, root_6, root_9, root_ok, begun}
use Rattle.decode.proofs.spans.begin.Goals as goal

pub returns-then-len-limit : goal.returns-then-len-limit
returns-then-len-limit c =
    let a = c.args in
    (refl, root_5 a.len a.work.now a.root a.limit c.requires c.if-len-limit.true)

pub returns-then-root-lt736 : goal.returns-then-root-lt736
returns-then-root-lt736 c =
    let a = c.args in
    (refl, root_6 a.len a.work.now a.root a.limit c.requires c.if-len-limit.false c.if-root-lt736.true)

pub returns-then-work-lt2 : goal.returns-then-work-lt2
returns-then-work-lt2 c =
    let a = c.args in
    (refl, root_9 a.len a.work.now a.root a.limit c.requires c.if-len-limit.false c.if-root-lt736.false c.if-work-lt2.true)

pub returns : goal.returns
returns c =
    let a = c.args in (
      begun c.clear.ensures.0 c.clear.ensures.1,
      root_ok a.len a.work.now a.root a.limit c.requires c.if-len-limit.false c.if-root-lt736.false c.if-work-lt2.false,
    )
