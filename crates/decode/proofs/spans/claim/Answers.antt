-- One answer of the definition's `claim` for each way out: past the end, an overlap, no room, and a span more.
use Rattle.std.proofs.Common.{◌+◌, ◌≤◌, ◌<◌, refl, sym, ◌∙◌, arith}
use Rattle.decode.specs.Inner.Kinds.{level_of}
use Rattle.decode.specs.Inner.WorkTable.{size}
use Rattle.decode.proofs.spans.ClaimLaws.{Node, says_5, says_6, says_9, says_ok}
use Rattle.decode.proofs.spans.claim.Goals as goal
use Rattle.decode.proofs.spans.claim.Goals.{then-len-start-via-then-len-start, then-len-start-via-else-len-start+then-len-start-2}

pub returns-then-len-start : goal.returns-then-len-start
returns-then-len-start c =
    let a = c.args in
    let n : Node = record { len = a.len; words = a.work.now; spans = a.st; start = a.node.start; level = level_of a.node.kind; number = a.node.number } in
    let z = c.size-size.ensures in
    let past : a.len < a.node.start + size (level_of a.node.kind) = elim c.then-len-start.branch [
      | then-len-start-via-then-len-start w ↦ omega (arith, z.is, z.least)
      | then-len-start-via-else-len-start+then-len-start-2 w ↦ omega (arith, z.is)
    ] in
    (refl, says_5 n past)

pub returns-then-meets : goal.returns-then-meets
returns-then-meets c =
    let a = c.args in
    let n : Node = record { len = a.len; words = a.work.now; spans = a.st; start = a.node.start; level = level_of a.node.kind; number = a.node.number } in
    let z = c.size-size.ensures in
    let inside : a.node.start + size (level_of a.node.kind) ≤ a.len = omega (arith, z.is) in
    let met = rw z.is at (sym c.meets.ensures ∙ c.if-meets.true) in
    (refl, says_6 n inside met)

pub returns-then-work-st : goal.returns-then-work-st
returns-then-work-st c =
    let a = c.args in
    let n : Node = record { len = a.len; words = a.work.now; spans = a.st; start = a.node.start; level = level_of a.node.kind; number = a.node.number } in
    let z = c.size-size.ensures in
    let inside : a.node.start + size (level_of a.node.kind) ≤ a.len = omega (arith, z.is) in
    let apart = rw z.is at (sym c.meets.ensures ∙ c.if-meets.false) in
    (refl, says_9 n inside apart (omega arith))

pub returns : goal.returns
returns c =
    let a = c.args in
    let n : Node = record { len = a.len; words = a.work.now; spans = a.st; start = a.node.start; level = level_of a.node.kind; number = a.node.number } in
    let z = c.size-size.ensures in
    let inside : a.node.start + size (level_of a.node.kind) ≤ a.len = omega (arith, z.is) in
    let apart = rw z.is at (sym c.meets.ensures ∙ c.if-meets.false) in
    (c.push.ensures, says_ok n inside apart (omega arith))
