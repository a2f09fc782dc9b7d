-- What bounds a mix: a figure of at most 2 ^ 126. Over whole numbers, in units of 2 ^ -149.
use Rattle.std.specs.Prelude.{◌+◌, ◌*◌, ◌^◌, ◌≤◌, false, pos, T, Float}
use Rattle.std.specs.Float.{fin}
use Rattle.std.specs.Float.Ieee.{le}
use Rattle.std.specs.Float.Ieee.Scale.{finite}
use Rattle.float.specs.Zero.{+0}
use Rattle.float.specs.Units.{units_of}

-- 2 ^ 126
abbrev pub ceiling : Float
ceiling = fin false 1 (pos 126)

-- m is finite, not negative, and at most F * (1 + 2 ^ -20) + 2 ^ -140, which is 2 ^ 9 units
pub record Mixed (F m : Float) : Type 0 where
  pub real : T (finite m)
  pub low : T (le +0 m)
  pub most : units_of m * 2 ^ 20 ≤ units_of F * (2 ^ 20 + 1) + 2 ^ 29
