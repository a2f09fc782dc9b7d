-- A root misses the part, or what is below it is gathered.
use Rattle.std.proofs.Common.{ℕ, ◌+◌, sym, subst, arith}
use Rattle.sparse_grid.specs.Record.{as_grid}
use Rattle.majorant.specs.RootStep.{part_in}
use Rattle.majorant.proofs.roots.walk_root.Goals as goal

pub walk_below-part-requires-clause-fit : goal.walk_below-part-requires-clause-fit
walk_below-part-requires-clause-fit g c part clips =
    let r = c.requires in
    let a = r.4 in
    (part_in r.0 r.2 clips, g.G.Gather.roots.fit _ c.args.of part c.args.i a.0 _ c.args.covered r.0 r.2 r.3 clips a.1)

pub weigh-requires : goal.weigh-requires
weigh-requires g c = let r = c.requires in part_in r.0 r.2 c.walk_below-part.ensures.part

pub overflow_add-result : goal.overflow_add-result
overflow_add-result g c =
    let r = c.requires in
    let a = r.4 in
    let h = g.G.Gather.roots.few (as_grid c.args.grid.now) c.args.of c.walk_below-part.result c.args.i a.0 c.args.gathered.now c.args.covered
    r.0 r.2 r.3 c.walk_below-part.ensures.part r.1 a.1 in
    record { fits = omega (arith, h, c.weigh.ensures) }

pub returns : goal.returns
returns g c s a =
    let r = c.requires in
    let t = as_grid c.args.grid.now in
    let below = c.walk_below-part in
    subst (λ (n : ℕ). g.G.Gather.After t c.args.of (c.args.i + 1) s below.new.gathered (c.args.covered + n)) (sym c.weigh.ensures)
    (g.G.Gather.roots.meet t c.args.of below.result c.args.i c.entry.result s c.args.gathered.now below.new.gathered c.args.covered
    r.0 r.2 r.3 below.ensures.part c.entry.ensures a below.ensures.done)
