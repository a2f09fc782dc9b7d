-- From a fresh state, root by root.
use Rattle.std.proofs.Common.{ℕ, subst, arith}
use Rattle.sparse_grid.specs.Record.{as_grid}
use Rattle.majorant.proofs.roots.walk_roots.Goals as goal

pub loop-i-init : goal.loop-i-init
loop-i-init g c = g.G.Gather.roots.none _ c.args.of _ c.requires.3

pub walk_root-covered-requires : goal.walk_root-covered-requires
walk_root-covered-requires g c =
    let r = c.requires in
    (record { sound = r.0; inside = c.loop-i-test.true }, omega arith, r.1, r.2, (c.args.gathered.now, c.loop-i.invariant))

pub loop-i-preserved : goal.loop-i-preserved
loop-i-preserved g c = c.walk_root-covered.ensures _ c.loop-i.invariant

pub rest-requires : goal.rest-requires
rest-requires g c =
    let r = c.requires in
    let t = as_grid c.args.grid.now in
    let s = c.args.gathered.now in
    (r.0, r.1, r.2, (s, subst (λ (n : ℕ). g.G.Gather.After t c.args.of n s c.loop-i.gathered c.loop-i.covered) (omega arith) c.loop-i.invariant))

pub returns : goal.returns
returns g c =
    let t = as_grid c.args.grid.now in
    let s = c.args.gathered.now in
    c.rest.ensures s (subst (λ (n : ℕ). g.G.Gather.After t c.args.of n s c.loop-i.gathered c.loop-i.covered) (omega arith) c.loop-i.invariant)
