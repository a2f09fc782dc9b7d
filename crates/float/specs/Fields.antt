-- The fields of a bit pattern: a value is its digits times a power of two.
use Rattle.std.specs.Prelude.{ℕ, ◌+◌, ◌-◌, ◌/◌, ◌%◌, cond, ◌==◌}
use Rattle.std.specs.Float.{Format}
use Rattle.std.specs.Float.Ieee.{hid, top}

-- the exponent's field
abbrev pub field_of : Format → ℕ → ℕ
field_of f b = b % top f / hid f

-- the digits, with the leading one unless the field is 0
abbrev pub digits_of : Format → ℕ → ℕ
digits_of f b = cond (field_of f b == 0) (b % hid f) (hid f + b % hid f)

-- the power of two that the digits count, in units of the format's smallest value
abbrev pub place_of : Format → ℕ → ℕ
place_of f b = field_of f b - 1
