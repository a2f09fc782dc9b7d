-- What is greatest by biased coordinates is the maximum of the box, since only one number is, and what is read by them is what is read for the box.
use Rattle.std.proofs.Common.{T, sym, subst}
use lib.Ieee.{binary32, fits}
use Rattle.float.proofs.Literal.{zero_literal}
use Rattle.layout.specs.Coordinates.{Coord}
use Rattle.sparse_grid.specs.Tables.{Grid}
use Rattle.sparse_grid.specs.Lookup.{read_in}
use Rattle.sparse_grid.specs.Record.{as_grid}
use Rattle.sparse_grid.specs.Sound.{sound}
use Rattle.majorant.specs.Walks.{Reads}
use Rattle.majorant.specs.Rooting.{Floats}
use Rattle.majorant.proofs.FitLaws.{read_fits}
use Rattle.majorant.proofs.Corners.{filled, is_none, is_maximum, none_read, all_read}
use Rattle.majorant.proofs.range_max.found.Goals as goal

reads_fit : {g : Grid} → Floats g → (k : Coord) → T (fits binary32 (read_in g k))
reads_fit {g} f k = read_fits g k f.background f.roots f.upper f.lower f.leaf

pub walk_roots-requires : goal.walk_roots-requires
walk_roots-requires g c =
    (sound (as_grid c.args.grid.now) c.requires, filled c.of-part.ensures (sym c.if-not-is_empty.ensures), tt, zero_literal binary32)

pub returns-then-not-is_empty-clause-maximum : goal.returns-then-not-is_empty-clause-maximum
returns-then-not-is_empty-clause-maximum g c =
    is_maximum (as_grid c.args.grid.now) c.of-part.ensures (reads_fit c.all_floats.ensures) c.walk_roots.ensures.0

pub returns-then-not-is_empty-clause-reads : goal.returns-then-not-is_empty-clause-reads
returns-then-not-is_empty-clause-reads g c =
    subst (λ (r : Reads). g.C.Count.More r c.args.counts c.walk_roots.new.gathered.counts) (all_read c.of-part.ensures (as_grid c.args.grid.now))
    c.walk_roots.ensures.1

pub returns-else-not-is_empty-clause-maximum : goal.returns-else-not-is_empty-clause-maximum
returns-else-not-is_empty-clause-maximum g c =
    is_none (as_grid c.args.grid.now) c.of-part.ensures (sym c.if-not-is_empty.ensures) (reads_fit c.all_floats.ensures)

pub returns-else-not-is_empty-clause-reads : goal.returns-else-not-is_empty-clause-reads
returns-else-not-is_empty-clause-reads g c =
    subst (λ (r : Reads). g.C.Count.More r c.args.counts c.args.counts)
    (none_read c.of-part.ensures (as_grid c.args.grid.now) (sym c.if-not-is_empty.ensures)) (g.C.Count.laws.none c.args.counts)
