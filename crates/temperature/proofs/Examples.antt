-- Loads and readings on worked examples. Each is computed.
use Rattle.std.specs.Prelude.{ℕ, ◌≡◌, refl, List, [], ◌∷◌, false, pos, Float}
use Rattle.std.specs.Float.{nan, binary32}
use Rattle.std.specs.Float.Ieee.{of_bits, to_bits, add, sub, mul, lt, eq}
use Rattle.refusals.specs.Results.{ok, refused, number_of}
use Rattle.float.specs.Zero.{+0}
use Rattle.float.specs.Fused.{narrow}
use Rattle.layout.specs.Bytes.{le, signed}
use Rattle.layout.specs.Coordinates.{Coord}
use Rattle.layout.proofs.Sample.{field, written, sample_with}
use Rattle.sparse_grid.specs.Tables.{Grid, grid_of}
use Rattle.sparse_grid.specs.Validate.{validate, density_fault, pair_fault}
use Rattle.sparse_grid.specs.Lookup.{lookup}
use Rattle.sparse_grid.specs.Answers.{at}
use Rattle.medium.specs.Medium.{bounds_fault, index_fault, map_fault}
use Rattle.nanovdb.specs.Decode.{decode_scalar, decode_density}
use Rattle.nanovdb.specs.Lent.{Lent, lent_fault, places_of, decode_into}
use Rattle.temperature.specs.Temperature.{heated, load_into, degrees, temperature_at}

-- ---- a value as a temperature, by bits

abbrev of_value : ℕ → ℕ → ℕ → ℕ
of_value v offset scale = to_bits binary32 (degrees (heated (of_bits binary32 offset) (of_bits binary32 scale)) (of_bits binary32 v))

-- (3 - 1) × 2 is 4: the offset is taken off, and before the scale
pub in_order : of_value 0x4040_0000 0x3f80_0000 0x4000_0000 ≡ 0x4080_0000
unfolding sub add mul of_bits to_bits
in_order = refl

-- (-5 - 20) × 2 is -50: values below zero are read as they are
pub below_zero : of_value 0xc0a0_0000 0x41a0_0000 0x4000_0000 ≡ 0xc248_0000
unfolding sub add mul of_bits to_bits
below_zero = refl

-- each step is rounded: (2^24 + 1) × 3 in one step would be 3 × 2^24 + 4
pub rounded_twice : of_value 0x4b80_0000 0xbf80_0000 0x4040_0000 ≡ 0x4c40_0000
unfolding sub add mul of_bits to_bits
rounded_twice = refl

-- the greatest f32 less its negative is infinite
pub overflows : of_value 0x7f7f_ffff 0xff7f_ffff 0x3f80_0000 ≡ 0x7f80_0000
unfolding sub add mul of_bits to_bits
overflows = refl

-- and times 0 a NaN
pub no_number : of_value 0x7f7f_ffff 0xff7f_ffff 0 ≡ 0x7fc0_0000
unfolding sub add mul of_bits to_bits
no_number = refl

-- ---- readings

-- without a grid: 0, whatever offset, scale, tables and coordinate
pub without : (offset scale : Float) (g : Grid) (c : Coord) → temperature_at (record { present = false; offset = offset; scale = scale }) g c ≡ ok 0
unfolding temperature_at
without offset scale g c = refl

-- an offset that is a NaN is 27, whatever the tables are
pub factors_first : (scale : Float) (g : Grid) (c : Coord) → temperature_at (heated nan scale) g c ≡ refused 27
unfolding temperature_at
factors_first scale g c = refl

-- a root with a link and no value: 18
pub unpaired : temperature_at (heated +0 +0) (grid_of +0 [] (0 ∷ []) [] [] [] [] [] []) (at (pos 0) (pos 0) (pos 0)) ≡ refused 18
unfolding temperature_at lookup pair_fault
unpaired = refl

-- ---- loads

-- 999 roots, no nodes, and work for two spans
abbrev lent : Lent
lent = record {
  blocks = 2997;
  root_links = 999;
  root_values = 999;
  upper_links = 0;
  upper_values = 0;
  lower_links = 0;
  lower_values = 0;
  leaf_values = 0;
  work = 8;
}

-- the sample with -0.5 in its tile
abbrev cold : List ℕ
cold = sample_with (field 820 4 0xbf000000 ∷ [])

-- which is no density
pub cold_density : number_of (decode_density cold (places_of lent)) ≡ 15
unfolding decode_density written le signed narrow validate density_fault bounds_fault index_fault map_fault of_bits lt eq sub add
cold_density = refl

pub cold_loads : number_of (load_into cold (heated +0 +0) lent) ≡ 0
unfolding load_into decode_into lent_fault decode_scalar written le signed narrow validate bounds_fault index_fault map_fault of_bits lt eq sub add
cold_loads = refl

-- 27 comes after the grid's own faults
pub factors_last : load_into cold (heated nan +0) lent ≡ refused 27
unfolding load_into decode_into lent_fault decode_scalar written le signed narrow validate bounds_fault index_fault map_fault of_bits lt eq sub add
factors_last = refl

pub grid_first : load_into [] (heated nan +0) lent ≡ refused 2
unfolding load_into decode_into lent_fault decode_scalar
grid_first = refl
