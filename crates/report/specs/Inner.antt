-- What the private functions write, of what the code has in hand.
use Rattle.std.specs.Prelude.{ℕ, List, get_or}
use Rattle.refusals.specs.Results.{Result, ok, refused}
use Rattle.sparse_grid.specs.Tables.{Grid}
use Rattle.medium.specs.Medium.{Medium}
use Rattle.nanovdb.specs.Decode.{Accepted}
use Rattle.report.specs.Report.{refused_line}
use Rattle.report.specs.ClassReport.{count_lines}

-- an accepted grid, from its two parts
abbrev pub accepted : Grid → Medium → Accepted
accepted g m = record { grid = g; medium = m }

-- the lines of counts, or the refusal of the count
unfoldable pub counts_in : Result (List ℕ) → List ℕ
counts_in (ok l) = count_lines (λ k. get_or l k 0)
counts_in (refused n) = refused_line n
