-- A turn of the loop gathers one cell more.
use Rattle.medium.specs.Medium.{x_axis}
use Rattle.majorant.specs.Walks.{zone_of}
use Rattle.majorant.proofs.Walked.{within_x, first, ready, turn, last}
use Rattle.majorant.proofs.nodes.all.Goals as goal

pub loop-at-init : goal.loop-at-init
loop-at-init g c =
    let a = c.args in
    let n = g.N.Table in
    let r = c.requires in
    first g.G.Gather.laws (n.laws a.node.now) c.side-side.ensures x_axis (n.read a.node.now) (zone_of a.part) (zone_of a.part) r.1.full.x_some r.2

pub plane-requires : goal.plane-requires
plane-requires g c =
    let a = c.args in
    let n = g.N.Table in
    let r = c.requires in
    let e = c.side-side.ensures in
    let k = c.cell_end-next.ensures in
    (r.0, within_x e r.1 k, ready g.G.Gather.laws (n.laws a.node.now) e x_axis (n.read a.node.now) (zone_of a.part) c.loop-at.invariant k r.2)

pub loop-at-preserved : goal.loop-at-preserved
loop-at-preserved g c =
    let a = c.args in
    let n = g.N.Table in
    turn g.G.Gather.laws (n.laws a.node.now) c.side-side.ensures x_axis (n.read a.node.now) (zone_of a.part)
    c.loop-at.invariant c.cell_end-next.ensures c.requires.1.x_in c.plane.ensures

pub returns : goal.returns
returns g c =
    let a = c.args in
    let n = g.N.Table in
    last g.G.Gather.laws (n.laws a.node.now) c.side-side.ensures x_axis (n.read a.node.now) (zone_of a.part) c.loop-at-test.false c.loop-at.invariant
