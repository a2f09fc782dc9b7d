-- The public box maximum and build_majorant over the lent tables, with the order of their refusals.
use Rattle.std.specs.Prelude.{ℕ, List, Float}
use Rattle.refusals.specs.Results.{Result, ok}
use Rattle.refusals.specs.Faults.{◌then◌, passing}
use Rattle.sparse_grid.specs.Tables.{Grid}
use Rattle.sparse_grid.specs.Validate.{validate, density_fault}
use Rattle.sparse_grid.specs.Lookup.{read_in}
use Rattle.cells.specs.Cells.{cell_count, table_fault}
use Rattle.medium.specs.Medium.{Medium, medium_fault}
use Rattle.boxes.specs.Boxes.{Box, box_maximum}
use Rattle.majorant.specs.Figures.{figures}

-- validate first, an added step
unfoldable pub public_maximum : Grid → Box → Result Float
public_maximum g x = passing (validate g) (ok (box_maximum (read_in g) x))

-- the cells of the record: validate, 15, 4, 14, 13, and the lowest cell's fault
unfoldable pub build : Grid → Medium → Result (List Float)
build g m = passing (validate g then density_fault g then medium_fault m) (figures (box_maximum (read_in g)) m m.cells (cell_count m.cells))

-- into a table of so many places: 23 and 18 come first
unfoldable pub build_into : Grid → Medium → ℕ → Result (List Float)
build_into g m places = passing (table_fault m.cells places) (build g m)
