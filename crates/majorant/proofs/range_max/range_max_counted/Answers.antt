-- What was counted from zero is what was read: no word began again.
use Rattle.std.proofs.Common.{lt_of_lt_of_le, arith, lit≤}
use Rattle.sparse_grid.specs.Record.{as_grid}
use Rattle.boxes.specs.Boxes.{as_box}
use Rattle.walk.proofs.Caps.{held}
use Rattle.walk.proofs.MoreLaws.{exact}
use Rattle.majorant.proofs.range_max.range_max_counted.Goals as goal

pub returns : goal.returns
returns c =
    let h = held (as_grid c.args.grid.now) (as_box c.args.of) c.requires in
    let e =
    exact (omega (arith, h.roots)) (omega (arith, h.uppers)) (omega (arith, h.lowers)) (lt_of_lt_of_le h.leaves (lit≤ tt))
    c.found-found.ensures.reads in
    λ j. record {
      maximum = c.found-found.ensures.maximum j;
      roots = e.roots_are j;
      uppers = e.uppers_are j;
      lowers = e.lowers_are j;
      leaves = e.leaves_are j;
    }
