-- The numbers of cells that the code's record stands for.
use Rattle.cells.specs.Cells.{Cells, cells}
use Rattle.cells.specs.declared.Cells as Code

abbrev pub as_cells : Code.Cells → Cells
as_cells n = cells n.x n.y n.z
