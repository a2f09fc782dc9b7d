-- A field of a byte string is what its own bytes say, wherever they have been copied to. Assumes nothing.
use Rattle.std.specs.Prelude.{◌≡◌, refl, List, ℕ, zero, suc, ◌+◌, ◌-◌, ◌^◌, ◌<◌, get_or, slice_index, ℤ}
use Rattle.std.specs.Int.{Width, from_le_bytes}
use Rattle.std.proofs.Common.{ap, ◌∙◌, arith, w16, w32, w64, to_z, of_z, add-zero, zero-add, add_assoc}
use Rattle.std.proofs.lemmas.Int.{of_z-to_z}
use mir.Val.{bits, hbits}
use Rattle.layout.specs.Bytes.{le, signed, u16_at, u32_at, u64_at}
use Rattle.layout.proofs.Signs.{signed_to_z}

-- bytes that are the same say the same number
pub le_same : (n : ℕ) (c b : List ℕ) (k at : ℕ) → ((i : ℕ) → i < n → get_or c (k + i) 0 ≡ get_or b (at + i) 0) → le n c k ≡ le n b at
unfolding le
le_same zero c b k at h = refl
le_same (suc n) c b k at h =
    let e : get_or c k 0 ≡ get_or b at 0 = rw (add-zero k, add-zero at) at (h 0 (omega arith)) in
    let more = le_same n c b (k + 1) (at + 1) (λ i l. rw (add_assoc k 1 i, add_assoc at 1 i) (h (1 + i) (omega arith))) in
    omega arith

-- so do those of a rest
pub le_rest : (n : ℕ) (rest b : List ℕ) (at k : ℕ) → ((i : ℕ) → get_or rest i 0 ≡ get_or b (at + i) 0) → le n rest k ≡ le n b (at + k)
le_rest n rest b at k h = le_same n rest b k (at + k) (λ i l. rw (add_assoc at k i) (h (k + i)))

-- and those of an array that they are copied to
module _ (w : Width) (n : ℕ) (array : (c : List ℕ) → from_le_bytes w c ≡ le n c 0) where
  copied : (c b : List ℕ) (at : ℕ) → ((i : ℕ) → i < n → slice_index c i ≡ get_or b (at + i) 0) → from_le_bytes w c ≡ le n b at
  copied c b at h = array c ∙ le_same n c b 0 at (λ i l. rw (zero-add i) (h i l))

array_two : (c : List ℕ) → from_le_bytes w16 c ≡ le 2 c 0
unfolding le
array_two c = omega arith

array_four : (c : List ℕ) → from_le_bytes w32 c ≡ le 4 c 0
unfolding le
array_four c = omega arith

array_eight : (c : List ℕ) → from_le_bytes w64 c ≡ le 8 c 0
unfolding le
array_eight c = omega arith

pub copied_two : (c b : List ℕ) (at : ℕ) → ((i : ℕ) → i < 2 → slice_index c i ≡ get_or b (at + i) 0) → from_le_bytes w16 c ≡ u16_at b at
copied_two = copied w16 2 array_two

pub copied_four : (c b : List ℕ) (at : ℕ) → ((i : ℕ) → i < 4 → slice_index c i ≡ get_or b (at + i) 0) → from_le_bytes w32 c ≡ u32_at b at
copied_four = copied w32 4 array_four

pub copied_eight : (c b : List ℕ) (at : ℕ) → ((i : ℕ) → i < 8 → slice_index c i ≡ get_or b (at + i) 0) → from_le_bytes w64 c ≡ u64_at b at
copied_eight = copied w64 8 array_eight

-- a number's bits read with their sign
pub signed_same : (w : Width) {z : ℤ} {n m : ℕ} → hbits w ≡ bits w - 1 → n < 2 ^ bits w → z ≡ to_z w n → n ≡ m → to_z w (of_z w z) ≡ signed (bits w) m
signed_same w {n = n} e h f g = ap (λ z. to_z w (of_z w z)) f ∙ ap (to_z w) (of_z-to_z w n h) ∙ signed_to_z w n e ∙ ap (signed (bits w)) g

pub signed_four : (n : ℕ) → n < 2 ^ 32 → to_z w32 (of_z w32 (to_z w32 n)) ≡ signed 32 n
signed_four n h = signed_same w32 refl h refl refl

pub signed_eight : (n : ℕ) → n < 2 ^ 64 → to_z w64 (of_z w64 (to_z w64 n)) ≡ signed 64 n
signed_eight n h = signed_same w64 refl h refl refl
