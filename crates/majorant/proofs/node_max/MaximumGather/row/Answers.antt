-- A turn of the loop joins one value more.
use Rattle.std.proofs.Common.{ap, ◌∙◌, subst, arith}
use lib.Ieee.{nan}
use Rattle.float.specs.Zero.{+0}
use Rattle.refusals.proofs.ListLaws.{get_d_any}
use Rattle.boxes.specs.Boxes.{greater}
use Rattle.boxes.specs.Most.{Most}
use Rattle.boxes.proofs.MostLaws.{most_as}
use Rattle.walk.specs.Walk.{Zone}
use Rattle.walk.specs.Gather.{At}
use Rattle.majorant.proofs.RowWalk.{read, most_first, most_next, whole, reads_as}
use Rattle.majorant.proofs.node_max.MaximumGather.row.Goals as goal

pub loop-v-init : goal.loop-v-init
loop-v-init g c = most_first c.args.values.now c.args.part c.requires.0

pub loop-v-preserved : goal.loop-v-preserved
loop-v-preserved g c =
    let t = c.args.values.now in
    let i = c.loop-v.v-index in
    most_next t c.args.part c.requires.0 i c.loop-v.invariant
    (c.greater-maximum.ensures ∙ ap (greater c.loop-v.maximum) (get_d_any t i nan +0 c.loop-v-test.true))

pub returns : goal.returns
returns g c f h =
    let p = c.args.part in
    let t = c.args.values.now in
    let w = c.requires.0 in (
      record {
        part = c.loop-v.maximum;
        most = most_as (reads_as t p w f c.requires.1 h)
            (subst (λ (q : Zone). Most (read t p w) (At q) c.loop-v.maximum) (whole t p w (omega (arith, c.requires.1))) c.loop-v.invariant);
        is = c.greater-self.ensures;
      },
      g.C.Count.laws.none c.args.self.now.counts,
    )
