-- Signed numbers, biased: n stands for n - h. A coordinate plus 2^31 has its slots and its block by plain division.
use Rattle.std.specs.Prelude.{ℕ, ◌+◌, ◌-◌, cond, ℤ, pos, negsuc, ◌+ℤ◌, nat_lt}
use Rattle.layout.specs.Coordinates.{Coord, mod_z}

-- n - h
unfoldable pub back : ℕ → ℕ → ℤ
back h n = cond (nat_lt n h) (negsuc (h - (n + 1))) (pos (n - h))

-- a coordinate by its three biased numbers
abbrev pub place : ℕ → ℕ → ℕ → Coord
place x y z = record { x = back 2147483648 x; y = back 2147483648 y; z = back 2147483648 z }

-- a block's number plus 2^19, modulo 2^32: the sum itself for a block in range
unfoldable pub raised : ℤ → ℕ
raised z = mod_z (z +ℤ pos 524288) 4294967296
