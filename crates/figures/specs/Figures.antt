-- Which figures a table of cells may hold, and the greater of two figures.
use Rattle.std.specs.Prelude.{ℕ, Bool, true, not, ◌&&◌, cond, List, [], ◌∷◌, Float}
use Rattle.std.specs.Float.Ieee.{lt}
use Rattle.std.specs.Float.Ieee.Scale.{finite}
use Rattle.refusals.specs.Faults.{◌then◌, unless}
use Rattle.float.specs.Zero.{+0}

-- each figure passes the test
unfoldable pub every : (Float → Bool) → List Float → Bool
every p [] = true
every p (v ∷ l) = p v && every p l

-- 12 where a figure is not finite, and then 15 where one is negative: -0.0 is not
unfoldable pub figures_fault : List Float → ℕ
unfolding every
figures_fault l = unless (every finite l) 12 then unless (every (λ v. not (lt v +0)) l) 15

-- b where a is less, and a otherwise: so a +0 stays where b is a zero of either sign
abbrev pub greater : Float → Float → Float
greater a b = cond (lt a b) b a
