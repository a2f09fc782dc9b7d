use Rattle.std.proofs.Common.{◌≡◌, ℕ, ◌<◌, length, refl, sym, ap, ◌∙◌, arith, length-set}
use Rattle.std.specs.Float.{nan}
use Rattle.window.proofs.TableLaws.{front, front_none, front_all}
use Rattle.window.proofs.Steps.{raise_more}
use Rattle.window.proofs.raise.Goals as goal

pub loop-i-init : goal.loop-i-init
loop-i-init c = (omega arith, refl, sym (front_none _ _))

pub loop-i-preserved : goal.loop-i-preserved
loop-i-preserved c =
    let room : c.loop-i.i < length c.args.answer.now = omega arith in
    let place : c.loop-i.i < length c.args.table.now = omega arith in (
      omega arith,
      simp length-set c.loop-i.invariant.1,
      raise_more c.args.answer.now c.args.table.now c.loop-i.answer c.loop-i.i nan _ c.loop-i.invariant.2 c.greater.ensures room place,
    )

pub returns : goal.returns
returns c =
    let end : c.loop-i.i ≡ length c.args.answer.now = omega arith in
    c.loop-i.invariant.2 ∙ ap (λ (k : ℕ). front k c.args.answer.now c.args.table.now) end ∙ front_all _ _ c.requires
