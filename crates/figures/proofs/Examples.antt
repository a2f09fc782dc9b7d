-- Worked examples. Each is computed.
use Rattle.std.specs.Prelude.{◌≡◌, refl, true, false, [], ◌∷◌, pos, Float}
use Rattle.std.specs.Float.{nan, inf, fin}
use Rattle.std.specs.Float.Ieee.{lt}
use Rattle.float.specs.Zero.{+0}
use Rattle.figures.specs.Figures.{figures_fault, greater}

abbrev -0 : Float
-0 = fin true 0 (pos 0)

abbrev one : Float
one = fin false 1 (pos 0)

abbrev minus_one : Float
minus_one = fin true 1 (pos 0)

-- zeros of either sign pass
zeros : figures_fault (+0 ∷ -0 ∷ []) ≡ 0
unfolding figures_fault lt
zeros = refl

-- 12 over the whole list before 15
not_finite_first : figures_fault (minus_one ∷ one ∷ nan ∷ []) ≡ 12
unfolding figures_fault lt
not_finite_first = refl

-- an infinity below zero is not finite
minus_infinity : figures_fault (inf true ∷ []) ≡ 12
unfolding figures_fault lt
minus_infinity = refl

negative : figures_fault (one ∷ minus_one ∷ []) ≡ 15
unfolding figures_fault lt
negative = refl

-- +0 stays beside -0
zero_stays : greater +0 -0 ≡ +0
unfolding lt
zero_stays = refl
