-- The part is inside the file.
use Rattle.contents.proofs.Parts.{name_fits}
use Rattle.contents.proofs.grid_name.Goals as goal

pub bytes_of-requires : goal.bytes_of-requires
bytes_of-requires c = name_fits c.args.file.now c.args.n c.name_span.result c.name_span.ensures
