-- Little-endian fields of a byte string. A byte past the end counts as 0 (as in the reading of a voxel).
use Rattle.std.specs.Prelude.{ℕ, zero, suc, ◌+◌, ◌-◌, ◌*◌, ◌^◌, ◌%◌, ◌/◌, ◌<◌, List, get_or, ℤ, pos, negsuc, ltb, cond, Float}
use Rattle.std.specs.Float.Ieee.{of_bits}
use Rattle.std.specs.Float.{binary32, binary64}

-- every number of the list is a byte
abbrev pub Bytes : List ℕ → Type 0
Bytes b = (i : ℕ) → get_or b i 0 < 256

-- the number that n bytes from at on write, the lowest byte first
unfoldable pub le : ℕ → List ℕ → ℕ → ℕ
le zero b at = 0
le (suc n) b at = get_or b at 0 + 256 * le n b (at + 1)

-- a number below 2 ^ w read as two's complement
unfoldable pub signed : ℕ → ℕ → ℤ
signed w u = cond (ltb u (2 ^ (w - 1))) (pos u) (negsuc (2 ^ w - (u + 1)))

abbrev pub u16_at : List ℕ → ℕ → ℕ
u16_at b at = le 2 b at

abbrev pub u32_at : List ℕ → ℕ → ℕ
u32_at b at = le 4 b at

abbrev pub u64_at : List ℕ → ℕ → ℕ
u64_at b at = le 8 b at

abbrev pub i32_at : List ℕ → ℕ → ℤ
i32_at b at = signed 32 (u32_at b at)

abbrev pub i64_at : List ℕ → ℕ → ℤ
i64_at b at = signed 64 (u64_at b at)

-- bit i of the mask that stands at
abbrev pub mask_bit : List ℕ → ℕ → ℕ → ℕ
mask_bit b at i = get_or b (at + i / 8) 0 / 2 ^ (i % 8) % 2

-- word k of the mask that stands at: eight of its bytes
abbrev pub mask_word : List ℕ → ℕ → ℕ → ℕ
mask_word b at k = u64_at b (at + 8 * k)

abbrev pub f32_at : List ℕ → ℕ → Float
f32_at b at = of_bits binary32 (u32_at b at)

abbrev pub f64_at : List ℕ → ℕ → Float
f64_at b at = of_bits binary64 (u64_at b at)
