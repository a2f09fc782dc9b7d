-- a coordinate plus 2^31 fits and is not negative
use Rattle.sparse_grid.proofs.Signs.{is_biased}
use Rattle.sparse_grid.proofs.biased.Goals as goal

pub returns : goal.returns
returns c = (is_biased c.args.c c.ranges.c).0
