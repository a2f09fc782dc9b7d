-- The header and the root, and then the three kinds.
use Rattle.std.proofs.Common.{refl}
use Rattle.decode.proofs.spans.Laws.{MetBelow, met_fixed, met_already, met_more, met_all}
use Rattle.decode.proofs.spans.meets.Goals as goal
use Rattle.decode.proofs.spans.meets.Goals.{then-fixed, else-fixed, then-meets_at, else-meets_at}

pub returns-then-meets_at-2 : goal.returns-then-meets_at-2
returns-then-meets_at-2 c =
    let a = c.args in
    let first = met_fixed a.work.now a.st a.start a.end c.fixed.ensures in
    let leaves : MetBelow a.work.now a.st a.start a.end 1 c.if-fixed.value = elim c.if-fixed.branch [
      | then-fixed w ↦ met_already a.work.now a.st a.start a.end first w.if-fixed.true w.value-is
      | else-fixed w ↦ met_more a.work.now a.st a.start a.end first w.if-fixed.false w.meets_at.ensures w.value-is
    ] in
    let lowers : MetBelow a.work.now a.st a.start a.end 2 c.if-meets_at.value = elim c.if-meets_at.branch [
      | then-meets_at w ↦ met_already a.work.now a.st a.start a.end leaves w.if-meets_at.true w.value-is
      | else-meets_at w ↦ met_more a.work.now a.st a.start a.end leaves w.if-meets_at.false w.meets_at-else-meets_at.ensures w.value-is
    ] in
    met_all a.work.now a.st a.start a.end c.requires.0 (met_already a.work.now a.st a.start a.end lowers c.if-meets_at-2.true refl)

pub returns-else-meets_at-2 : goal.returns-else-meets_at-2
returns-else-meets_at-2 c =
    let a = c.args in
    let first = met_fixed a.work.now a.st a.start a.end c.fixed.ensures in
    let leaves : MetBelow a.work.now a.st a.start a.end 1 c.if-fixed.value = elim c.if-fixed.branch [
      | then-fixed w ↦ met_already a.work.now a.st a.start a.end first w.if-fixed.true w.value-is
      | else-fixed w ↦ met_more a.work.now a.st a.start a.end first w.if-fixed.false w.meets_at.ensures w.value-is
    ] in
    let lowers : MetBelow a.work.now a.st a.start a.end 2 c.if-meets_at.value = elim c.if-meets_at.branch [
      | then-meets_at w ↦ met_already a.work.now a.st a.start a.end leaves w.if-meets_at.true w.value-is
      | else-meets_at w ↦ met_more a.work.now a.st a.start a.end leaves w.if-meets_at.false w.meets_at-else-meets_at.ensures w.value-is
    ] in
    met_all a.work.now a.st a.start a.end c.requires.0
    (met_more a.work.now a.st a.start a.end lowers c.if-meets_at-2.false c.meets_at-else-meets_at-2.ensures refl)
