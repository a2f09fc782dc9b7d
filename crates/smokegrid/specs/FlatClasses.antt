-- The coordinates of a box by class as C has them: 17 numbers, or zeros after a refusal.
use Rattle.std.specs.Prelude.{ℕ, List, eqb, Float}
use Rattle.refusals.specs.Results.{Result}
use Rattle.refusals.specs.Faults.{unless, passing}
use Rattle.sparse_grid.specs.Tables.{Grid}
use Rattle.boxes.specs.Boxes.{Box}
use Rattle.walk.specs.Classes.{public_counts}

-- 18 for another length than 17, and then the counts
unfoldable pub classes_flat : Grid → List Float → Box → ℕ → Result (List ℕ)
classes_flat g ls b places = passing (unless (eqb places 17) 18) (public_counts g ls b)
