-- What the private functions answer, of any grid, any answer of a load and any table of figures.
use Rattle.std.specs.Prelude.{ℕ, List, get_or, Float}
use Rattle.refusals.specs.Results.{Result, ok, value_or}
use Rattle.refusals.specs.Faults.{passing}
use Rattle.float.specs.Zero.{+0}
use Rattle.layout.specs.Coordinates.{Signed32}
use Rattle.sparse_grid.specs.Tables.{Grid}
use Rattle.sparse_grid.specs.Lookup.{lookup}
use Rattle.sparse_grid.specs.Answers.{value_only}
use Rattle.medium.specs.Medium.{Medium, Point}
use Rattle.nanovdb.specs.Lent as Lent
use Rattle.index.specs.Found.{cell_at}
use Rattle.majorant.specs.Build.{public_maximum, build_into}
use Rattle.claim.specs.Ask.{Question}
use Rattle.claim.specs.declared.Seen.{Seen}
use Rattle.claim.specs.declared.Found.{Found}

-- the coordinates of a question are signed 32-bit
pub record Small (q : Question) : Type 0 where
  pub coordinate : Signed32 q.coordinate
  pub low : Signed32 q.box.lo
  pub high : Signed32 q.box.hi

-- the refusal of the decode, or the build of the grid g that it left
abbrev pub build_in : Lent.Answer → Grid → ℕ → Result (List Float)
build_in a g places = passing a.number (build_into g a.medium places)

-- a voxel and the maximum of a box, zeros where the decode answered the number n of a refusal
abbrev pub seen_in : ℕ → Grid → Question → Seen
seen_in n g q = record {
  value = value_or +0 (passing n (value_only (lookup g q.coordinate)));
  maximum = value_or +0 (passing n (public_maximum g q.box));
}

-- the cell of a point and its figure, zeros where the build answered the number n of a refusal
abbrev pub found_in : ℕ → Medium → List Float → Point → Found
found_in n m table p =
    let k = cell_at m m.cells p in
    record { cell = value_or 0 (passing n (ok k)); figure = value_or +0 (passing n (ok (get_or table k +0))) }
