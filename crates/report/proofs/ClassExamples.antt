-- The classes of the worked example of document 01, and inputs that are turned away. Each is computed.
use Rattle.std.specs.Prelude.{◌≡◌, refl, List, [], ◌∷◌, ℕ, replicate}
use Rattle.std.specs.Float.Ieee.{of_bits, to_bits, lt, eq, add, sub}
use Rattle.float.specs.Fused.{narrow}
use Rattle.layout.specs.Bytes.{le, signed}
use Rattle.layout.proofs.Sample.{field, written, sample, sample_with}
use Rattle.sparse_grid.specs.Validate.{pair_fault, validate, density_fault}
use Rattle.sparse_grid.specs.Lookup.{roots_from, lookup}
use Rattle.sparse_grid.specs.Count.{sum}
use Rattle.medium.specs.Medium.{bounds_fault, index_fault, map_fault}
use Rattle.nanovdb.specs.Lent.{lent_fault}
use Rattle.walk.specs.Classes.{box_sum}
use Rattle.report.specs.ClassReport.{class_report_of}

-- `class 0 0`, `class 1 512`, `class 2 0`, `total 512`
four_lines : List ℕ
four_lines =
    99 ∷ 108 ∷ 97 ∷ 115 ∷ 115 ∷ 32 ∷ 48 ∷ 32 ∷ 48 ∷ 10
    ∷ 99 ∷ 108 ∷ 97 ∷ 115 ∷ 115 ∷ 32 ∷ 49 ∷ 32 ∷ 53 ∷ 49 ∷ 50 ∷ 10
    ∷ 99 ∷ 108 ∷ 97 ∷ 115 ∷ 115 ∷ 32 ∷ 50 ∷ 32 ∷ 48 ∷ 10
    ∷ 116 ∷ 111 ∷ 116 ∷ 97 ∷ 108 ∷ 32 ∷ 53 ∷ 49 ∷ 50 ∷ 10 ∷ []

sample_classes : class_report_of sample ≡ four_lines
unfolding class_report_of lent_fault four_lines sample le signed narrow validate density_fault bounds_fault index_fault map_fault of_bits to_bits lt eq sub add
    box_sum sum lookup roots_from pair_fault
sample_classes = refl

-- `refused 25`: the index box is a coordinate longer than 2^20 along x
long_side : class_report_of (sample_with (field 748 4 1048568 ∷ [])) ≡ 114 ∷ 101 ∷ 102 ∷ 117 ∷ 115 ∷ 101 ∷ 100 ∷ 32 ∷ 50 ∷ 53 ∷ 10 ∷ []
unfolding class_report_of lent_fault written le signed narrow validate density_fault bounds_fault index_fault map_fault of_bits lt eq sub add
long_side = refl

-- `refused 2`
short_classes : class_report_of [] ≡ 114 ∷ 101 ∷ 102 ∷ 117 ∷ 115 ∷ 101 ∷ 100 ∷ 32 ∷ 50 ∷ 10 ∷ []
unfolding class_report_of lent_fault
short_classes = refl

-- `long`
long_classes : class_report_of (replicate 32769 0) ≡ 108 ∷ 111 ∷ 110 ∷ 103 ∷ 10 ∷ []
unfolding class_report_of
long_classes = refl
