-- The grid and the limits pass, and the sides of the part are those of the box.
use Rattle.std.proofs.Common.{◌∙◌}
use Rattle.refusals.specs.Faults.{◌then◌}
use Rattle.boxes.specs.Boxes.{as_box}
use Rattle.walk.specs.Classes.{sides_fault}
use Rattle.majorant.proofs.Classing.{sides_told}
use Rattle.majorant.proofs.classes.check_classes.Goals as goal

pub returns : goal.returns
returns c =
    c.check_sides.ensures ∙ sides_told c.of.ensures
    ∙ (λ i. c.in_ok-validate.ensures i then c.in_ok-check_limits.ensures i then sides_fault (as_box c.args.of))
