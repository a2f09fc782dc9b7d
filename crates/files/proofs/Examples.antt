-- The 832-byte sample as the only grid of a file of 1,025 bytes: it is found, and decodes as it does alone.
use Rattle.std.specs.Prelude.{◌≡◌, refl, List, [], ◌++◌, ℕ}
use Rattle.std.proofs.Common.{ap, ◌∙◌}
use Rattle.refusals.specs.Results.{Result, ok, number_of}
use Rattle.refusals.specs.Faults.{first_fault}
use Rattle.layout.specs.Bytes.{le}
use Rattle.layout.proofs.Sample.{written, sample}
use Rattle.contents.specs.Segments.{part, header_holds, entry_holds, entry_at, body_at, segment_fault}
use Rattle.contents.specs.Contents.{places, segments_fault, grid_of, file_fault, located, pick}
use Rattle.contents.proofs.Examples.{header, entry, old, v32}
use Rattle.nanovdb.specs.Decode.{Accepted, decode_density}
use Rattle.nanovdb.specs.Lent.{Lent, lent_fault, decode_into}
use Rattle.nanovdb.proofs.Examples as Nanovdb
use Rattle.files.specs.OfFile.{decode_part}
use Rattle.files.proofs.Alone.{loads_alone}

-- what stands before the grid: a header, an entry, and a name of one byte
abbrev before : List ℕ
before = header old v32 1 0 ++ entry 832 1 0 v32

abbrev file : List ℕ
file = before ++ (sample ++ [])

-- 999 roots, no nodes, and work for two spans
abbrev lent : Lent
lent = record {
  blocks = 2997;
  root_links = 999;
  root_values = 999;
  upper_links = 0;
  upper_values = 0;
  lower_links = 0;
  lower_values = 0;
  leaf_values = 0;
  work = 8;
}

found : pick file 0 ≡ ok (part 193 832)
unfolding pick located file_fault places segments_fault grid_of segment_fault header_holds entry_holds entry_at body_at first_fault le written sample
found = refl

pub alone : decode_part decode_density file 0 lent ≡ decode_into decode_density sample lent
unfolding written sample
alone = loads_alone decode_density file 0 lent found before sample [] refl refl refl

pub accepted : number_of (decode_part decode_density file 0 lent) ≡ 0
unfolding decode_into lent_fault
accepted = ap (λ (r : Result Accepted). number_of r) alone ∙ Nanovdb.accepted
