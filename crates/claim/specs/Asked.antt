-- The question that the code's record stands for, and what its answers say.
use Rattle.std.specs.Prelude.{ℕ, Ok, Err, Some, None, Option, Result as Outcome}
use Rattle.refusals.specs.Results.{refused, ok, value_or}
use Rattle.refusals.specs.Faults.{passing}
use Rattle.refusals.specs.Numbers.{number, fault_of}
use Rattle.refusals.specs.declared.Refusal.{Refusal}
use Rattle.float.specs.Zero.{+0}
use Rattle.layout.specs.Record.{as_coord}
use Rattle.cells.specs.Cells.{cell_count}
use Rattle.medium.specs.Record.{as_medium, point_of}
use Rattle.nanovdb.specs.Lent.{answer_of}
use Rattle.decode.specs.Answers.{counts}
use Rattle.boxes.specs.Boxes.{as_box}
use Rattle.claim.specs.Load as Load
use Rattle.claim.specs.Ask.{Question, Answer}
use Rattle.claim.specs.declared.Question as Code
use Rattle.claim.specs.declared.Loaded.{Loaded}
use Rattle.claim.specs.declared.Found.{Found}
use Rattle.claim.specs.declared.Asked.{Asked}

abbrev pub as_question : Code.Question → Question
as_question q = record { coordinate = as_coord q.coordinate; box = as_box q.of; point = point_of q.point }

-- a refused decode has counted nothing, and its number is the build's too
abbrev pub as_load : Outcome Loaded Refusal → Load.Answer
as_load (Ok l) = record { decode = counts l.decoded; build = fault_of l.build }
as_load (Err e) = record { decode = answer_of (refused (number e)); build = number e }

-- a cell and its figure; the number `none` of a cell that no table has where no cell was found, and 0 where the build answered the number of a refusal
abbrev pub as_found : ℕ → ℕ → Option Found → Found
as_found build none (Some f) = f
as_found build none None = record { cell = value_or 0 (passing build (ok none)); figure = +0 }

abbrev found_by : Asked → Found
found_by a = as_found (fault_of a.loaded.build) (cell_count (as_medium a.loaded.decoded.medium).cells) a.found

abbrev pub as_answer : Outcome Asked Refusal → Answer
as_answer (Ok a) = record { load = as_load (Ok a.loaded); value = a.value; maximum = a.maximum; cell = (found_by a).cell; figure = (found_by a).figure }
as_answer (Err e) = record { load = as_load (Err e); value = +0; maximum = +0; cell = 0; figure = +0 }
