-- The part is inside the file.
use Rattle.contents.proofs.Parts.{grid_fits}
use Rattle.contents.proofs.part.Goals as goal

pub bytes_of-requires : goal.bytes_of-requires
bytes_of-requires c = grid_fits c.args.file.now c.args.n c.grid_span.result c.grid_span.ensures
