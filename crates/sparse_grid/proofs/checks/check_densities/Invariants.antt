-- the test of `all_pass`: a value is not below zero
use Rattle.std.specs.Prelude.{not}
use Rattle.std.specs.Float.Ieee.{lt}
use Rattle.float.specs.Zero.{+0}
use Rattle.sparse_grid.proofs.checks.check_densities.Given as goal

abbrev pub ghost-all_pass : goal.ghost-all_pass
ghost-all_pass a = λ v. not (lt v +0)
