-- the first i places hold the maxima of the first i boxes
use Rattle.std.proofs.Common.{◌≡◌, length}
use Rattle.sparse_grid.specs.Lookup.{read_in}
use Rattle.sparse_grid.specs.Record.{as_grid}
use Rattle.boxes.specs.Boxes.{box_maximum}
use Rattle.majorant.proofs.Listing.{Listed}
use Rattle.majorant.proofs.maxima.maxima.Given as goal

abbrev pub invariant-loop-i : goal.invariant-loop-i
invariant-loop-i l =
    (length l.maxima ≡ length l.fn.maxima) × Listed (box_maximum (read_in (as_grid l.grid))) l.boxes l.maxima l.greatest l.i
