-- the first r rows stand in the table
use Rattle.std.proofs.Common.{◌*◌, ◌%◌, ◌/◌, length, take}
use Rattle.sparse_grid.specs.Lookup.{read_in}
use Rattle.sparse_grid.specs.Record.{as_grid}
use Rattle.boxes.specs.Boxes.{box_maximum}
use Rattle.majorant.specs.Rows.{ends_in, row_of}
use Rattle.majorant.proofs.Building.{Filled}
use Rattle.majorant.proofs.build.rows.Given as goal

abbrev pub invariant-loop-r : goal.invariant-loop-r
invariant-loop-r l =
    Filled (λ r. row_of (box_maximum (read_in (as_grid l.grid))) (ends_in l.xs) (ends_in l.ys (r % length l.ys)) (ends_in l.zs (r / length l.ys)) (length l.xs))
    (take 0 l.fn.majorants) (length l.zs * length l.ys) l.r (l.r * length l.xs) l.fn.majorants l.majorants
