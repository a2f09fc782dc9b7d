-- The definitions on worked examples: fields, blocks, slots, and the walk of the sample. Each is computed.
use Rattle.std.specs.Prelude.{◌≡◌, refl, cond, List, [], ◌∷◌, ℕ, ◌/◌, ◌^◌, ◌%◌, pos, negsuc, eqb, length}
use Rattle.std.specs.Int.Signed.{shr_z}
use Rattle.layout.specs.Bytes.{le, signed, u32_at, u64_at, i32_at, mask_bit, mask_word}
use Rattle.layout.specs.Coordinates.{Coord, slot}
use Rattle.layout.specs.Walk.{of_root, of_background, key, walk}
use Rattle.layout.proofs.Sample.{sample}

sample_length : length sample ≡ 832
unfolding sample
sample_length = refl

-- the mark, a signed field of the index box, and a field that has its last two bytes past the end
mark : u64_at sample 0 ≡ 0x304244566f6e614e
unfolding sample le
mark = refl

lowest : i32_at sample 736 ≡ negsuc 7
unfolding sample le signed
lowest = refl

past : u32_at sample 830 ≡ 0
unfolding sample le
past = refl

-- bit 3 of a mask is bit 3 of its first byte, and bit 12 is bit 4 of its second
third : mask_bit sample 0 3 ≡ 1
unfolding sample
third = refl

twelfth : mask_bit sample 0 12 ≡ 0
unfolding sample
twelfth = refl

-- the first word of a mask has its lowest byte first; bit 70 is bit 6 of the second word, of which the last five bytes lie past the end
first_word : mask_word sample 0 0 ≡ 0x304244566f6e614e
unfolding sample le
first_word = refl

abbrev short : List ℕ
short = 2 ∷ 0 ∷ 0 ∷ 0 ∷ 0 ∷ 0 ∷ 0 ∷ 128 ∷ 64 ∷ 0 ∷ 1 ∷ []

words : (mask_word short 0 0 ≡ 0x8000000000000002) × (mask_word short 0 1 ≡ 0x10040) × (mask_word short 0 2 ≡ 0)
unfolding le
words = (refl, refl, refl)

seventieth : (mask_bit short 0 70 ≡ 1) × (mask_word short 0 1 / 2 ^ 6 % 2 ≡ 1)
unfolding le
seventieth = (refl, refl)

-- ---- blocks and slots of coordinates below zero

blocks : (shr_z (negsuc 4096) 4096 ≡ negsuc 1) × (shr_z (negsuc 4095) 4096 ≡ negsuc 0) × (shr_z (negsuc 0) 4096 ≡ negsuc 0) × (shr_z (pos 4095) 4096 ≡ pos 0)
blocks = (refl, refl, refl, refl)

abbrev corner : Coord
corner = record { x = negsuc 0; y = negsuc 0; z = negsuc 0 }

slots : (slot 32 128 corner ≡ 32767) × (slot 16 8 corner ≡ 4095) × (slot 8 1 corner ≡ 511)
slots = (refl, refl, refl)

-- x is the slowest axis
slot_x : slot 32 128 (record { x = negsuc 0; y = pos 0; z = pos 0 }) ≡ 31744
slot_x = refl

-- ---- the walk of the sample

-- the key of the sample's tile stands for the block (-1, 0, 0)
tile_key : key (record { x = negsuc 7; y = pos 0; z = pos 0 }) ≡ 0x3ffffc0000000000
tile_key = refl

-- 0.5 where the coordinate has the tile's key, and the background everywhere else
pub sample_walk : (c : Coord)
    → walk sample c ≡ cond (eqb 0x3ffffc0000000000 (key c)) (record { bits = 0x3f000000; level = of_root }) (record { bits = 0; level = of_background })
unfolding sample walk le
sample_walk c = refl
