use Rattle.std.proofs.Common.{◌++◌, refl}
use Rattle.text.proofs.Writing.{begins, leaves_less, leaves_last}
use Rattle.report.specs.Lines.{numbers}
use Rattle.report.proofs.Fields.{numbers_next, numbers_end}
use Rattle.report.proofs.lines.put_line.Goals as goal

pub loop-n-init : goal.loop-n-init
loop-n-init c = leaves_less (begins c.args.page.now (c.args.word.now ++ numbers c.args.values.now)) refl c.put_bytes.ensures

pub loop-n-preserved : goal.loop-n-preserved
loop-n-preserved c =
    leaves_less c.loop-n.invariant (numbers_next c.args.values.now c.loop-n.n-index c.loop-n-test.true) c.put_number.ensures

pub returns : goal.returns
returns c = leaves_last c.loop-n.invariant (numbers_end c.args.values.now c.loop-n.n-index c.loop-n-test.false) c.put_byte.ensures
