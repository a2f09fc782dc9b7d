use Rattle.std.specs.Float.{nan}
use Rattle.sheet.proofs.Pages.{most_more, most_end}
use Rattle.sheet.proofs.lines.most.Goals as goal

pub loop-figure-preserved : goal.loop-figure-preserved
loop-figure-preserved c =
    let at = c.loop-figure in
    most_more c.args.layer.now at.figure-index nan at.greatest c.greater-greatest.result _ c.loop-figure-test.true c.greater-greatest.ensures at.invariant

pub returns : goal.returns
returns c = most_end c.args.layer.now c.loop-figure.figure-index c.loop-figure.greatest _ c.loop-figure-test.false c.loop-figure.invariant
