-- At the end the count of blocks says whether a place is left.
use Rattle.std.proofs.Common.{◌≡◌, ℕ, ◌+◌, length, refl, subst, arith}
use Rattle.sparse_grid.specs.Tables.{Grid}
use Rattle.sparse_grid.specs.Record.{as_grid}
use Rattle.walk.specs.Walk.{Zone, Price, steps, roots_only, uppers_only, lowers_only, leaves_only}
use Rattle.walk.specs.Counts.{steps_to}
use Rattle.walk.proofs.CountLaws.{all_to}
use Rattle.majorant.specs.Walks.{Reads, both, root_reads, zone_of}
use Rattle.majorant.specs.Rooting.{read_to, read_of}
use Rattle.majorant.specs.RootsMet.{Ended, ends_gap, ends_whole}
use Rattle.majorant.proofs.node_max.MaximumGather.rest.Goals as goal

-- the roots themselves are counted last
read_all : (g : Grid) (q : Zone) {k : ℕ} → k ≡ steps_to roots_only g q (length g.root_links)
    → both (read_to g q (length g.root_links)) (root_reads k) ≡ read_of g q
read_all g q {k} e =
    let n = length g.root_links in
    let r : 0 + k ≡ steps roots_only g q = omega (arith, e, all_to roots_only g q) in
    let same : (p : Price) → steps_to p g q n + 0 ≡ steps p g q = λ p. omega (arith, all_to p g q) in
    λ i. record { roots = r i; uppers = same uppers_only i; lowers = same lowers_only i; leaves = same leaves_only i }

pub returns-then-covered-blocks_along : goal.returns-then-covered-blocks_along
returns-then-covered-blocks_along g c s a =
    let r = c.requires in
    let t = as_grid c.args.grid.now in
    let q = zone_of c.args.of in
    let e : Ended t c.args.of.x c.args.of.y c.args.of.z c.args.self.now.maximum c.args.covered
    c.blocks_along.result c.blocks_along-2.result c.blocks_along-3.result = record {
      sound = r.0;
      full = r.1;
      all = a.covered;
      along_x_lem = c.blocks_along.ensures.0;
      along_y_lem = c.blocks_along-2.ensures.0;
      along_z_lem = c.blocks_along-3.ensures.0;
    } in (
      ends_gap e c.if-covered-blocks_along.true c.greater-self.ensures,
      subst (λ (d : Reads). g.C.Count.More d s.counts c.roots.new.self) (read_all t q a.roots)
          (g.C.Count.laws.and _ _ s.counts c.args.self.now.counts c.roots.new.self a.reads c.roots.ensures),
    )

pub returns-else-covered-blocks_along : goal.returns-else-covered-blocks_along
returns-else-covered-blocks_along g c s a =
    let r = c.requires in
    let t = as_grid c.args.grid.now in
    let q = zone_of c.args.of in
    let e : Ended t c.args.of.x c.args.of.y c.args.of.z c.args.self.now.maximum c.args.covered
    c.blocks_along.result c.blocks_along-2.result c.blocks_along-3.result = record {
      sound = r.0;
      full = r.1;
      all = a.covered;
      along_x_lem = c.blocks_along.ensures.0;
      along_y_lem = c.blocks_along-2.ensures.0;
      along_z_lem = c.blocks_along-3.ensures.0;
    } in (
      ends_whole e c.if-covered-blocks_along.false refl,
      subst (λ (d : Reads). g.C.Count.More d s.counts c.roots.new.self) (read_all t q a.roots)
          (g.C.Count.laws.and _ _ s.counts c.args.self.now.counts c.roots.new.self a.reads c.roots.ensures),
    )
