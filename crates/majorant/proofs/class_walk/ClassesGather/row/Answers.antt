-- A turn of the loop counts one value more.
use Rattle.std.proofs.Common.{◌≡◌, ℕ, ◌+◌, sym, ◌∙◌, subst, arith}
use lib.Ieee.{nan}
use Rattle.float.specs.Zero.{+0}
use Rattle.refusals.proofs.ListLaws.{get_d_any}
use Rattle.medium.specs.Medium.{z_axis}
use Rattle.walk.specs.Walk.{Zone}
use Rattle.walk.specs.TalliedLaws.{one_value, ready_value}
use Rattle.majorant.specs.Walks.{along, zone_of, no_reads}
use Rattle.majorant.specs.Gathered.{Classed, classes_laws}
use Rattle.majorant.proofs.RowWalk.{read, place, at_place, one_place, whole, reads_as}
use Rattle.majorant.proofs.class_walk.ClassesGather.row.Goals as goal

pub loop-v-init : goal.loop-v-init
loop-v-init c =
    let p = c.args.part in
    let s = c.args.self.now in
    let e : p.z.lo ≡ p.z.lo + 0 = omega arith in
    subst (λ (n : ℕ). Classed (read c.args.values.now p c.requires.0) (along z_axis (zone_of p) p.z.lo n) s s) e
    (classes_laws.none z_axis _ (zone_of p) (zone_of p) p.z.lo s c.requires.2)

pub add-requires : goal.add-requires
add-requires c =
    let p = c.args.part in
    let i = c.loop-v.v-index in
    let w = c.requires.0 in
    let h = classes_laws.fit z_axis (read c.args.values.now p w) (zone_of p) p.z.lo (p.z.lo + i) (p.z.lo + (i + 1)) p.z.hi no_reads _ _
    (omega arith) (omega arith) (omega (arith, c.requires.1)) c.requires.2 c.loop-v.invariant in
    let r = ready_value {q = place c.args.values.now p w i} 1 h (one_place c.args.values.now p w i) in
    (r.0, r.1, r.2)

pub loop-v-preserved : goal.loop-v-preserved
loop-v-preserved c =
    let p = c.args.part in
    let t = c.args.values.now in
    let i = c.loop-v.v-index in
    let w = c.requires.0 in
    let v = get_d_any t i nan +0 c.loop-v-test.true in
    classes_laws.join z_axis (read t p w) (zone_of p) p.z.lo (p.z.lo + i) (p.z.lo + (i + 1)) no_reads no_reads _ _ _ (omega arith) (omega arith)
    c.loop-v.invariant
    (record {
      limits = c.add.ensures.0;
      long = c.add.ensures.1;
      added = one_value _ 1 (λ x y z s. at_place t p w i x y z s ∙ sym v) (one_place t p w i) c.add.ensures.2;
    })

pub returns : goal.returns
returns c f h =
    let p = c.args.part in
    let t = c.args.values.now in
    let w = c.requires.0 in
    classes_laws.same (read t p w) f (zone_of p) no_reads _ _ (reads_as t p w f c.requires.1 h)
    (subst (λ (q : Zone). Classed (read t p w) q c.args.self.now c.loop-v.self) (whole t p w (omega (arith, c.requires.1))) c.loop-v.invariant)
