-- Temperature through the C interface: a load with its counts, and what C hands over to a reading.
use Rattle.std.specs.Prelude.{ℕ, List, not, eqb, Float}
use Rattle.refusals.specs.Results.{Result}
use Rattle.refusals.specs.Faults.{unless, passing}
use Rattle.medium.specs.Medium.{Temperature}
use Rattle.nanovdb.specs.Decode.{Accepted}
use Rattle.nanovdb.specs.Lent.{Lent}
use Rattle.temperature.specs.Temperature.{heated, load_into}

-- 18 for counts of another length, and then the load
unfoldable pub load_flat : List ℕ → Float → Float → Lent → ℕ → Result Accepted
load_flat b offset scale l counts = passing (unless (eqb counts 4) 18) (load_into b (heated offset scale) l)

-- 0 is no grid, and every other number is one
abbrev pub heated_by : ℕ → Float → Float → Temperature
heated_by present offset scale = record { present = not (eqb present 0); offset = offset; scale = scale }
