-- The lowest bit of a word that is left is the next child, and a word with none goes by.
use Rattle.std.proofs.Common.{ℕ, ◌/◌, ◌%◌, ◌^◌, ap, arith}
use Rattle.layout.specs.Bytes.{Bytes}
use Rattle.decode.proofs.nodes.Children.{passed_word, next_found}
use Rattle.decode.proofs.nodes.next_child.Goals as goal

pub returns-then-left-ne0 : goal.returns-then-left-ne0
returns-then-left-ne0 c =
    let bytes : Bytes c.args.bytes.now = λ i. omega (arith, c.type_inv.bytes i) in
    next_found bytes c.loop-at.invariant c.loop-at-test.true c.requires.2 (ap (λ (w : ℕ). w / 2 ^ (c.loop-at.at % 64)) c.mask_word.ensures) c.if-left-ne0.true

pub loop-at-preserved : goal.loop-at-preserved
loop-at-preserved c =
    let bytes : Bytes c.args.bytes.now = λ i. omega (arith, c.type_inv.bytes i) in
    passed_word bytes c.loop-at.invariant c.loop-at-test.true c.requires.2 (ap (λ (w : ℕ). w / 2 ^ (c.loop-at.at % 64)) c.mask_word.ensures) c.if-left-ne0.false
