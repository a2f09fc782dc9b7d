-- the test of `all_pass`: a value is finite
use Rattle.std.specs.Float.Ieee.Scale.{finite}
use Rattle.sparse_grid.proofs.checks.check_finite_values.Given as goal

abbrev pub ghost-all_pass : goal.ghost-all_pass
ghost-all_pass a = finite
