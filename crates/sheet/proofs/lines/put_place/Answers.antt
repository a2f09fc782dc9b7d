-- Blanks by the number of digits, and the digits.
use Rattle.std.proofs.Common.{ap, arith}
use Rattle.text.specs.Numerals.{decimal}
use Rattle.text.proofs.Writing.{moved, stays, ◌then◌, as_text}
use Rattle.sheet.proofs.Pages.{place_one, place_two, place_three}
use Rattle.sheet.proofs.lines.put_place.Goals as goal
use Rattle.sheet.proofs.lines.put_place.Goals.{then-n-lt10, else-n-lt10, then-n-lt100, else-n-lt100}

pub returns : goal.returns
returns c =
    let n = c.args.n in
    let digits = as_text c.put_decimal.ensures (ap decimal c.from.ensures) in
    elim c.if-n-lt10.branch [
      | then-n-lt10 w ↦ elim c.if-n-lt100.branch [
        | then-n-lt100 v ↦
            as_text (moved w.page-is w.put_byte.ensures then moved v.page-is v.put_byte-then-n-lt100.ensures then digits)
            (place_one n w.if-n-lt10.true)
        | else-n-lt100 v ↦ absurd (omega arith)
      ]
      | else-n-lt10 w ↦ elim c.if-n-lt100.branch [
        | then-n-lt100 v ↦
            as_text (stays w.page-is then moved v.page-is v.put_byte-then-n-lt100.ensures then digits)
            (place_two n w.if-n-lt10.false v.if-n-lt100.true)
        | else-n-lt100 v ↦ as_text (stays w.page-is then stays v.page-is then digits) (place_three n w.if-n-lt10.false v.if-n-lt100.false)
      ]
    ]
