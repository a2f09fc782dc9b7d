-- The report on the worked example of document 01, and on inputs that are turned away. Each is computed.
use Rattle.std.specs.Prelude.{◌≡◌, refl, List, [], ◌∷◌, ℕ, ◌^◌, replicate}
use Rattle.std.specs.Float.Ieee.{of_bits, to_bits, lt, eq, add, sub}
use Rattle.float.specs.Fused.{narrow}
use Rattle.layout.specs.Bytes.{le, signed}
use Rattle.layout.proofs.Sample.{field, written, sample, sample_with}
use Rattle.sparse_grid.specs.Validate.{validate, density_fault}
use Rattle.medium.specs.Medium.{bounds_fault, index_fault, map_fault}
use Rattle.nanovdb.specs.Lent.{lent_fault}
use Rattle.report.specs.Report.{report_of}

-- `grid 832`, `nodes 1 0 0 0`, `box -8 0 0 -1 7 7`, `back 00000000`, `root -1 0 0 3f000000`
five_lines : List ℕ
five_lines =
    103 ∷ 114 ∷ 105 ∷ 100 ∷ 32 ∷ 56 ∷ 51 ∷ 50 ∷ 10
    ∷ 110 ∷ 111 ∷ 100 ∷ 101 ∷ 115 ∷ 32 ∷ 49 ∷ 32 ∷ 48 ∷ 32 ∷ 48 ∷ 32 ∷ 48 ∷ 10
    ∷ 98 ∷ 111 ∷ 120 ∷ 32 ∷ 45 ∷ 56 ∷ 32 ∷ 48 ∷ 32 ∷ 48 ∷ 32 ∷ 45 ∷ 49 ∷ 32 ∷ 55 ∷ 32 ∷ 55 ∷ 10
    ∷ 98 ∷ 97 ∷ 99 ∷ 107 ∷ 32 ∷ 48 ∷ 48 ∷ 48 ∷ 48 ∷ 48 ∷ 48 ∷ 48 ∷ 48 ∷ 10
    ∷ 114 ∷ 111 ∷ 111 ∷ 116 ∷ 32 ∷ 45 ∷ 49 ∷ 32 ∷ 48 ∷ 32 ∷ 48 ∷ 32 ∷ 51 ∷ 102 ∷ 48 ∷ 48 ∷ 48 ∷ 48 ∷ 48 ∷ 48 ∷ 10 ∷ []

sample_report : report_of sample ≡ five_lines
unfolding report_of lent_fault five_lines sample le signed narrow validate density_fault bounds_fault index_fault map_fault of_bits to_bits lt eq sub add
sample_report = refl

-- `refused 2`
short_report : report_of [] ≡ 114 ∷ 101 ∷ 102 ∷ 117 ∷ 115 ∷ 101 ∷ 100 ∷ 32 ∷ 50 ∷ 10 ∷ []
unfolding report_of lent_fault
short_report = refl

-- `refused 7`: bit 62 alone in the tile's key
key_report : report_of (sample_with (field 800 8 (2 ^ 62) ∷ [])) ≡ 114 ∷ 101 ∷ 102 ∷ 117 ∷ 115 ∷ 101 ∷ 100 ∷ 32 ∷ 55 ∷ 10 ∷ []
unfolding report_of lent_fault written le signed narrow validate density_fault bounds_fault index_fault map_fault of_bits lt eq sub add
key_report = refl

-- `long`
long_report : report_of (replicate 32769 0) ≡ 108 ∷ 111 ∷ 110 ∷ 103 ∷ 10 ∷ []
unfolding report_of
long_report = refl
