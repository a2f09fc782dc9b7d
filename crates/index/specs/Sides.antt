-- The voxels on either side of an index position on one axis: its floor, and the next.
use Rattle.std.specs.Prelude.{ℤ, Float}
use Rattle.refusals.specs.Results.{Result, ok, bind}
use Rattle.index.specs.Cells.{Ends}
use Rattle.index.specs.Axes.{second_low, second_high}

-- 16 where one lies outside i32
unfoldable pub sides_of : Float → Result Ends
sides_of v = bind (second_low v) (λ (a : ℤ). bind (second_high v) (λ (b : ℤ). ok (record { lo = a; hi = b })))
