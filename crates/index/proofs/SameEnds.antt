-- The sign of a zero is not seen in the ends of a box. Assumes nothing.
use Rattle.std.specs.Prelude.{◌≡◌, Float}
use Rattle.std.proofs.Common.{sym, ap, ◌∙◌, inl, inr}
use Rattle.std.specs.Float.{binary64}
use Rattle.float.specs.Fused.{trunc, floor}
use Rattle.float.specs.Coordinate.{coordinate}
use Rattle.index.specs.Axes.{first_low, first_high, second_low, second_high}
use Rattle.float.proofs.Alike.{Alike, more_same, less_same, floor_same, floor_coordinate}

pub first_low_same : (x y : Float) → Alike x y → first_low x ≡ first_low y
unfolding first_low
first_low_same x y h = ap (λ (v : Float). coordinate (trunc binary64 v)) (less_same x y h)

pub first_high_same : (x y : Float) → Alike x y → first_high x ≡ first_high y
unfolding first_high
first_high_same x y h = ap (λ (v : Float). coordinate (trunc binary64 v)) (more_same x y h)

pub second_high_same : (x y : Float) → Alike x y → second_high x ≡ second_high y
unfolding second_high
second_high_same x y h = ap coordinate (more_same (floor binary64 x) (floor binary64 y) (floor_same x y h))

pub second_low_same : (x y : Float) → Alike x y → second_low x ≡ second_low y
unfolding second_low
second_low_same x y (inl e) = ap (λ (v : Float). coordinate (floor binary64 v)) e
second_low_same x y (inr (a, b)) = floor_coordinate x a ∙ sym (floor_coordinate y b)
