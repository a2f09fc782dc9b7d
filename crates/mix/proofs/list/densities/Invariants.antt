-- the first i places hold the densities of the first i points
use Rattle.sparse_grid.specs.Lookup.{read_in}
use Rattle.sparse_grid.specs.Record.{as_grid}
use Rattle.medium.specs.Record.{as_medium}
use Rattle.std.proofs.Common.{length}
use Rattle.mix.specs.Density.{density_by}
use Rattle.mix.proofs.Laws.{Filled}
use Rattle.mix.proofs.list.densities.Given as goal

abbrev pub invariant-loop-i : goal.invariant-loop-i
invariant-loop-i l = Filled (density_by (read_in (as_grid l.grid)) (as_medium l.m)) l.points l.values (length l.fn.values) l.i
