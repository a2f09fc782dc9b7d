-- the first i cells of the row stand behind what was there
use Rattle.std.proofs.Common.{◌+◌, length, take}
use Rattle.sparse_grid.specs.Lookup.{read_in}
use Rattle.sparse_grid.specs.Record.{as_grid}
use Rattle.boxes.specs.Boxes.{box_maximum}
use Rattle.index.specs.Outcomes.{as_both, said_as}
use Rattle.majorant.specs.Rows.{ends_in, cell_figure, push}
use Rattle.majorant.proofs.Building.{Filled}
use Rattle.majorant.proofs.build.row.Given as goal

abbrev pub invariant-loop-i : goal.invariant-loop-i
invariant-loop-i l =
    Filled (λ i. push (cell_figure (box_maximum (read_in (as_grid l.grid))) (ends_in l.xs i) (said_as as_both l.y) (said_as as_both l.z)))
    (take l.start l.fn.majorants) (length l.xs) l.i (l.start + l.i) l.fn.majorants l.majorants
