-- The cast of a float to an i32, from the language reference: a number loses its fraction (toward zero), what then lies outside i32 goes to the nearer end,
-- and so do the infinities; a NaN is 0.
use Rattle.std.specs.Prelude.{ℕ, ◌*◌, ◌/◌, Bool, true, false, cond, ℤ, pos, negsuc, neg_ℤ, int_lt, Float}
use Rattle.std.specs.Float.{nan, inf, fin}
use Rattle.std.specs.Float.Ieee.{up, down}

-- the ends of i32
abbrev pub least : ℤ
least = negsuc 2147483647

abbrev pub greatest : ℤ
greatest = pos 2147483647

-- Rust's clamp: lo below lo, hi above hi
abbrev pub clamp_z : ℤ → ℤ → ℤ → ℤ
clamp_z lo hi z = cond (int_lt z lo) lo (cond (int_lt hi z) hi z)

-- m * 2 ^ e without its fraction, with its sign
abbrev pub cut : Bool → ℕ → ℤ → ℤ
cut false m e = pos (m * up e / down e)
cut true m e = neg_ℤ (pos (m * up e / down e))

unfoldable pub saturated : Float → ℤ
saturated nan = pos 0
saturated (inf false) = greatest
saturated (inf true) = least
saturated (fin s m e) = clamp_z least greatest (cut s m e)
