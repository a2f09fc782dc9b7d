-- The decode on worked examples: what is accepted, what is refused, and with which number. Each is computed.
use Rattle.std.specs.Prelude.{◌≡◌, refl, List, [], ◌∷◌, ◌++◌, Bool, false, cond, ℕ, zero, suc, ◌+◌, ◌-◌, ◌/◌, ◌%◌, ◌^◌, eqb, drop, pos, negsuc}
use Rattle.std.proofs.Common.{sym, ◌∙◌, ap}
use Rattle.std.specs.Float.{binary32}
use Rattle.std.specs.Float.Ieee.{of_bits, lt, eq, add, sub}
use Rattle.refusals.specs.Results.{Result, ok, refused, number_of}
use Rattle.float.specs.Fused.{narrow}
use Rattle.layout.specs.Bytes.{le, signed}
use Rattle.layout.specs.Coordinates.{Coord, Signed32, block_of, same_block}
use Rattle.layout.specs.Walk.{of_root, of_background, walk}
use Rattle.layout.proofs.Sample.{field, written, bytes_of, header, root_at, sample, sample_with}
use Rattle.layout.proofs.Examples.{sample_walk}
use Rattle.sparse_grid.specs.declared.Entry.{Entry}
use Rattle.sparse_grid.specs.Tables.{grid_of}
use Rattle.sparse_grid.specs.Validate.{validate, density_fault}
use Rattle.medium.specs.Medium.{bounds_fault, index_fault, map_fault}
use Rattle.nanovdb.specs.Nodes.{Places, child_target}
use Rattle.nanovdb.specs.Tree.{root_of, key_passes}
use Rattle.nanovdb.specs.Decode.{Accepted, mark_passes, medium_of, decode_density}
use Rattle.nanovdb.proofs.Keys.{key_same}
use Rattle.nanovdb.proofs.Marks.{older, newer, newer_density}

-- two spans (header and root), 999 roots and no nodes
abbrev pub places : Places
places = record { spans = 2; roots = 999; upper = 0; lower = 0; leaf = 0 }

-- ---- keys and targets

-- the block of a key
pub key_block : (e : Entry) → root_of 0x3ffffc0000000000 e ≡ record { x = negsuc 0; y = pos 0; z = pos 0; entry = e }
unfolding signed
key_block e = refl

bit_62 : key_passes (2 ^ 62) ≡ false
bit_62 = refl

pub target : child_target 736 (pos 96) ≡ ok 832
target = refl

pub target_off : child_target 736 (pos 80) ≡ refused 8
target_off = refl

-- ---- the sample

-- the sample is accepted
pub accepted : number_of (decode_density sample places) ≡ 0
unfolding decode_density sample le signed narrow validate density_fault bounds_fault index_fault map_fault of_bits lt eq sub add
accepted = refl

-- its tables: background 0, and one root tile of 0.5 in block (-1, 0, 0)
pub sample_tables : decode_density sample places
    ≡ ok (record {
      grid = grid_of (of_bits binary32 0) (negsuc 0 ∷ pos 0 ∷ pos 0 ∷ []) (0 ∷ []) (of_bits binary32 0x3f000000 ∷ []) [] [] [] [] [];
      medium = medium_of sample;
    })
unfolding decode_density sample le signed narrow validate density_fault bounds_fault index_fault map_fault of_bits lt eq sub add
sample_tables = refl

-- the walk reads 0.5 in the block (-1, 0, 0) and the background in every other
reads : (c : Coord) → Signed32 c
    → walk sample c ≡ cond (same_block (record { x = negsuc 0; y = pos 0; z = pos 0 }) (block_of c))
    (record { bits = 0x3f000000; level = of_root }) (record { bits = 0; level = of_background })
unfolding signed
reads c s =
    sample_walk c
    ∙ ap (λ (t : Bool). cond t (record { bits = 0x3f000000; level = of_root }) (record { bits = 0; level = of_background }))
    (key_same 0x3ffffc0000000000 c tt s)

-- bit 62 alone in the tile's key
pub bit_62_refused : number_of (decode_density (sample_with (field 800 8 (2 ^ 62) ∷ [])) places) ≡ 7
unfolding decode_density written le signed narrow validate density_fault bounds_fault index_fault map_fault of_bits lt eq sub add
bit_62_refused = refl

-- a leaf count of 1 where no leaf is reached
pub counts_refused : number_of (decode_density (sample_with (field 704 4 1 ∷ [])) places) ≡ 10
unfolding decode_density written le signed narrow validate density_fault bounds_fault index_fault map_fault of_bits lt eq sub add
counts_refused = refl

-- versions: a major of 32 passes, one of 33 does not
pub version_passes : number_of (decode_density (sample_with (field 16 4 67108864 ∷ [])) places) ≡ 0
unfolding decode_density written le signed narrow validate density_fault bounds_fault index_fault map_fault of_bits lt eq sub add
version_passes = refl

pub version_refused : number_of (decode_density (sample_with (field 16 4 69206016 ∷ [])) places) ≡ 3
unfolding decode_density written le
version_refused = refl

-- ---- the mark

-- the sample with this mark
abbrev marked : ℕ → List ℕ
marked mark = sample_with (field 0 8 mark ∷ [])

new_bytes : marked 0x314244566f6e614e ≡ newer ++ drop 8 sample
unfolding sample written
new_bytes = refl

old_bytes : sample ≡ older ++ drop 8 sample
unfolding sample written
old_bytes = refl

-- with the newer mark the sample is accepted, and its answer is that of the sample: every table and record, and so every figure
pub newer_sample : decode_density (marked 0x314244566f6e614e) places ≡ decode_density sample places
newer_sample =
    let decode : List ℕ → Result Accepted = λ b. decode_density b places in
    ap decode new_bytes ∙ newer_density (drop 8 sample) places ∙ ap decode (sym old_bytes)

-- "NanoVDB2" is the mark of a file
pub file_mark_refused : number_of (decode_density (marked 0x324244566f6e614e) places) ≡ 3
unfolding decode_density written le
file_mark_refused = refl

-- mark with bit k changed
abbrev changed : ℕ → ℕ → ℕ
changed mark k = cond (eqb (mark / 2 ^ k % 2) 0) (mark + 2 ^ k) (mark - 2 ^ k)

-- the bits below n whose change leaves a mark that passes
unfoldable passing_bits : ℕ → ℕ → List ℕ
passing_bits zero mark = []
passing_bits (suc n) mark = let rest = passing_bits n mark in cond (mark_passes (changed mark n)) (n ∷ rest) rest

-- of the 64 bits of each mark only bit 56 may change: it makes the one the other
one_bit_changed : (passing_bits 64 0x304244566f6e614e ≡ 56 ∷ []) × (passing_bits 64 0x314244566f6e614e ≡ 56 ∷ [])
unfolding passing_bits
one_bit_changed = (refl, refl)

bit_56 : changed 0x304244566f6e614e 56 ≡ 0x314244566f6e614e
bit_56 = refl

-- ---- where the root may stand

-- 832 bytes whose root of no tiles, its count field and its span, stands `offset` bytes behind the grid's header
abbrev pub empty : ℕ → List ℕ
empty offset = bytes_of 832 (header 832 offset ++ root_at (672 + offset) 0)

pub offset_63 : number_of (decode_density (empty 63) places) ≡ 6
unfolding decode_density written le signed narrow validate density_fault bounds_fault index_fault map_fault of_bits lt eq sub add
offset_63 = refl

pub offset_64 : number_of (decode_density (empty 64) places) ≡ 0
unfolding decode_density written le signed narrow validate density_fault bounds_fault index_fault map_fault of_bits lt eq sub add
offset_64 = refl

-- the sample itself with offset 63 reads 256 as its count, whose span passes the end
offset_63_sample : number_of (decode_density (sample_with (field 696 8 63 ∷ [])) places) ≡ 5
unfolding decode_density written le signed narrow validate density_fault bounds_fault index_fault map_fault of_bits lt eq sub add
offset_63_sample = refl
