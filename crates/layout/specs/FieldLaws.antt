-- Laws of the fields: the bound, the parts and the end of a little-endian number, and the two halves of a signed one.
use Rattle.std.specs.Prelude.{◌≡◌, refl, List, ℕ, zero, suc, ◌+◌, ◌-◌, ◌*◌, ◌^◌, ◌<◌, ◌≤◌, length, get_or, pos, negsuc}
use Rattle.std.proofs.Common.{◌∙◌, add-zero, add-suc, zero-add, suc-add, add_assoc, mul_assoc, add-one, arith, lt-ltb, le-ltb}
use Rattle.std.proofs.Math.Nat.{add_right_comm, pow-succ'}
use Rattle.std.proofs.Math.ListN.{get_or-eq_default}
use Rattle.layout.specs.Bytes.{le, signed, u16_at, u32_at, u64_at}

-- two bytes as one sum
pub le_two : (b : List ℕ) (at : ℕ) → le 2 b at ≡ get_or b at 0 + get_or b (at + 1) 0 * 256
unfolding le
le_two b at = omega arith

-- four bytes as one sum
pub le_four : (b : List ℕ) (at : ℕ) → le 4 b at ≡ get_or b at 0 + get_or b (at + 1) 0 * 256 + get_or b (at + 2) 0 * 65536 + get_or b (at + 3) 0 * 16777216
unfolding le
le_four b at = rw (add_assoc at 1 1, add_assoc at 2 1) (omega arith)

-- n bytes are below 256 ^ n
pub le_below : (n : ℕ) (b : List ℕ) (at : ℕ) → ((i : ℕ) → get_or b i 0 < 256) → le n b at < 256 ^ n
unfolding le
le_below zero b at h = omega arith
le_below (suc n) b at h = rw (pow-succ' 256 n) (omega (arith, h at, le_below n b (at + 1) h))

-- m + n bytes: the first m, and above them the other n
pub le_parts : (m n : ℕ) (b : List ℕ) (at : ℕ) → le (m + n) b at ≡ le m b at + 256 ^ m * le n b (at + m)
unfolding le
le_parts zero n b at = rw (zero-add n, add-zero at) (omega arith)
le_parts (suc m) n b at =
    rw (suc-add m n, pow-succ' 256 m, mul_assoc 256 (256 ^ m), add-suc at m)
    (rw (le_parts m n b (at + 1), add_right_comm at 1 m, add-one (at + m)) (omega arith))

-- nothing but zeros past the end
pub le_past : (n : ℕ) (b : List ℕ) (at : ℕ) → length b ≤ at → le n b at ≡ 0
unfolding le
le_past zero b at h = refl
le_past (suc n) b at h = omega (arith, get_or-eq_default b 0 {n = at} h, le_past n b (at + 1) (omega arith))

-- a u64 is its lower and its upper u32
pub u64_halves : (b : List ℕ) (at : ℕ) → u64_at b at ≡ u32_at b at + u32_at b (at + 4) * 4294967296
u64_halves b at = le_parts 4 4 b at ∙ omega arith

pub u16_below : (b : List ℕ) (at : ℕ) → ((i : ℕ) → get_or b i 0 < 256) → u16_at b at < 2 ^ 16
u16_below b at h = le_below 2 b at h

pub u32_below : (b : List ℕ) (at : ℕ) → ((i : ℕ) → get_or b i 0 < 256) → u32_at b at < 2 ^ 32
u32_below b at h = le_below 4 b at h

-- a number with its top bit clear, and with it set
pub signed_low : (w u : ℕ) → u < 2 ^ (w - 1) → signed w u ≡ pos u
unfolding signed
signed_low w u h = rw (lt-ltb u (2 ^ (w - 1)) h)

pub signed_high : (w u : ℕ) → 2 ^ (w - 1) ≤ u → signed w u ≡ negsuc (2 ^ w - (u + 1))
unfolding signed
signed_high w u h = rw (le-ltb u (2 ^ (w - 1)) h)
