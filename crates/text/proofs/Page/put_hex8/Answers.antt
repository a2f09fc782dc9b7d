-- Digit i stands behind the first i.
use Rattle.std.proofs.Common.{ℕ, ◌%◌, ap, ◌∙◌, arith}
use Rattle.text.specs.Numerals.{digit}
use Rattle.text.proofs.Digits.{eight_more, eight_all}
use Rattle.text.proofs.Writing.{writes_both, as_text}
use Rattle.text.proofs.Page.put_hex8.Goals as goal

pub loop-i-preserved : goal.loop-i-preserved
loop-i-preserved c =
    writes_both c.loop-i.invariant c.put_byte.ensures
    (eight_more c.args.n c.loop-i.i c.loop-i-test.true (c.digit.ensures ∙ ap (λ (k : ℕ). digit (k % 16)) c.from.ensures))

pub returns : goal.returns
returns c = as_text c.loop-i.invariant (eight_all c.args.n c.loop-i.i (omega arith))
