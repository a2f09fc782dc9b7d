-- The roots before i are met.
use Rattle.sparse_grid.specs.Record.{as_grid}
use Rattle.majorant.proofs.roots.walk_roots.Given as goal

abbrev pub invariant-loop-i : goal.invariant-loop-i
invariant-loop-i g l = g.G.Gather.After (as_grid l.grid) l.of l.i l.initial.gathered l.gathered l.covered
