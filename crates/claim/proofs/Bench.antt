-- The starred items of the bench list as one theorem, over the definitions that the contracts cite.
use Rattle.std.specs.Prelude.{◌≡◌, [], ◌∷◌, ◌^◌, pos, negsuc}
use Rattle.refusals.specs.Results.{ok, refused, number_of}
use Rattle.float.specs.Zero.{+0}
use Rattle.float.specs.Examples.{mul_add, narrowed, low}
use Rattle.float.proofs.Examples.{fused_once, narrow_tie, low_half, low_least, low_tiny}
use Rattle.layout.specs.Coordinates.{block_of}
use Rattle.layout.proofs.Sample.{field, sample_with}
use Rattle.sparse_grid.specs.declared.Entry.{Entry}
use Rattle.sparse_grid.specs.Answers.{at}
use Rattle.sparse_grid.proofs.Examples.{blocks_below, blocks_above}
use Rattle.nanovdb.specs.Nodes.{child_target}
use Rattle.nanovdb.specs.Tree.{root_of}
use Rattle.nanovdb.specs.Decode.{decode_density}
use Rattle.nanovdb.proofs.Examples.{places, empty, key_block, target, target_off, bit_62_refused, version_passes, version_refused, offset_63, offset_64}
use Rattle.boxes.specs.Boxes.{Box}
use Rattle.majorant.specs.Build.{public_maximum}
use Rattle.majorant.proofs.BoxExamples.{rootless_grid, minus_two}

pub record Bench : Type 0 where
  -- -4097, -4096, -1, 4095 give blocks -2, -1, -1, 0
  pub blocks : (block_of (at (negsuc 4096) (negsuc 4095) (negsuc 0)) ≡ at (negsuc 1) (negsuc 0) (negsuc 0))
      × (block_of (at (pos 0) (pos 4095) (pos 4096)) ≡ at (pos 0) (pos 0) (pos 1))
  -- key 3ffffc0000000000 is block (-1, 0, 0)
  pub key : (e : Entry) → root_of 0x3ffffc0000000000 e ≡ record { x = negsuc 0; y = pos 0; z = pos 0; entry = e }
  -- bit 62 alone, in the sample's key: 7
  pub bit_62 : number_of (decode_density (sample_with (field 800 8 (2 ^ 62) ∷ [])) places) ≡ 7
  -- root 736, offset 96: target 832; offset 80: 8
  pub targets : (child_target 736 (pos 96) ≡ ok 832) × (child_target 736 (pos 80) ≡ refused 8)
  -- root offset 63: 6; 64 passes. The bytes are 832 with a root of no tiles, its count field and its span inside (`empty`)
  pub offsets : (number_of (decode_density (empty 63) places) ≡ 6) × (number_of (decode_density (empty 64) places) ≡ 0)
  -- version 67,108,864 passes; 69,206,016: 3
  pub versions : (number_of (decode_density (sample_with (field 16 4 67108864 ∷ [])) places) ≡ 0)
      × (number_of (decode_density (sample_with (field 16 4 69206016 ∷ [])) places) ≡ 3)
  -- mul_add of 3f800001, 3f800001, bf800002 is 28800000
  pub mul_add_lem : mul_add 0x3f80_0001 0x3f80_0001 0xbf80_0002 ≡ 0x2880_0000
  -- f64 1 + 2^-24 narrows to 3f800000
  pub narrow : narrowed 0x3ff0_0000_1000_0000 ≡ 0x3f80_0000
  -- low index 0.5 gives 0, -2147483648 is 16, 2^-54 gives -1
  pub low_index : (low 0x3f00_0000 ≡ ok (pos 0)) × (low 0xcf00_0000 ≡ refused 16) × (low 0x2480_0000 ≡ ok (negsuc 0))
  -- no roots, background -2, any box: 0
  pub rootless : (b : Box) → public_maximum rootless_grid b ≡ ok +0

pub bench : Bench
bench = record {
  blocks = (blocks_below, blocks_above);
  key = key_block;
  bit_62 = bit_62_refused;
  targets = (target, target_off);
  offsets = (offset_63, offset_64);
  versions = (version_passes, version_refused);
  mul_add_lem = fused_once;
  narrow = narrow_tie;
  low_index = (low_half, low_least, low_tiny);
  rootless = minus_two;
}
