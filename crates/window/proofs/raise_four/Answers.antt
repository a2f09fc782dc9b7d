use Rattle.std.proofs.Common.{◌<◌, length, refl, sym, ◌∙◌, arith, length-set}
use Rattle.std.specs.Float.{nan}
use Rattle.window.proofs.FourLaws.{fronts_none, fronts_all}
use Rattle.window.proofs.Steps.{four_more}
use Rattle.window.proofs.raise_four.Goals as goal

pub loop-i-init : goal.loop-i-init
loop-i-init c = (omega arith, refl, sym (fronts_none _ _ _ _ _))

pub loop-i-preserved : goal.loop-i-preserved
loop-i-preserved c =
    let room : c.loop-i.i < length c.args.answer.now = omega arith in (
      omega arith,
      simp length-set c.loop-i.invariant.1,
      four_more c.args.answer.now c.args.a.now c.args.b.now c.args.c.now c.args.d.now c.requires c.loop-i.answer c.loop-i.i nan
          _ _ _ _ room c.loop-i.invariant.2 c.greater-first.ensures c.greater-second.ensures c.greater-third.ensures c.greater.ensures,
    )

pub returns : goal.returns
returns c =
    let (na, nb, nc, nd) = c.requires in
    c.loop-i.invariant.2 ∙ fronts_all _ _ _ _ _ na nb nc nd c.loop-i.i (omega arith)
