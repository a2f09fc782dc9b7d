-- The floor of a finite number, as an integer.
use Rattle.std.specs.Prelude.{◌+◌, ◌-◌, ◌*◌, ◌/◌, true, false, ℤ, pos, neg_ℤ, Float}
use Rattle.std.specs.Float.{nan, inf, fin}
use Rattle.std.specs.Float.Ieee.{up, down}

-- the largest integer that is not above x, for a finite x
abbrev pub floor_z : Float → ℤ
floor_z nan = pos 0
floor_z (inf s) = pos 0
floor_z (fin false m e) = pos (m * up e / down e)
floor_z (fin true m e) = neg_ℤ (pos ((m * up e + (down e - 1)) / down e))
