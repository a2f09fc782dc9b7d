-- The maximum of the next box takes the next place.
use Rattle.std.proofs.Common.{◌∙◌, ap, refl, length-set, arith}
use lib.Ieee.{of_bits}
use Rattle.sparse_grid.specs.Lookup.{read_in}
use Rattle.sparse_grid.specs.Record.{as_grid}
use Rattle.boxes.specs.Boxes.{box_maximum}
use Rattle.majorant.proofs.Listing.{none_yet, one_more}
use Rattle.majorant.proofs.maxima.maxima.Goals as goal

pub loop-i-init : goal.loop-i-init
unfolding of_bits
loop-i-init c = (refl, none_yet _ _ _)

pub loop-i-preserved : goal.loop-i-preserved
loop-i-preserved c =
    let l = c.loop-i in
    let maximum = box_maximum (read_in (as_grid c.args.grid.now)) in (
      length-set _ _ _ ∙ l.invariant.0,
      one_more maximum c.args.boxes.now (omega (arith, c.loop-i-test.true, l.invariant.0)) l.invariant.1
          (c.range_max-maximum.ensures ∙ ap maximum c.box_at.ensures) c.greater-greatest.ensures,
    )
