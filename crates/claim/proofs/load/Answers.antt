-- The build is that of the used parts, and has the decode's number where that was refused.
use Rattle.std.specs.Prelude.{length}
use Rattle.std.proofs.Common.{ap, ◌∙◌}
use Rattle.refusals.specs.Results.{number_of, value_or}
use Rattle.medium.specs.Record.{as_medium}
use Rattle.nanovdb.specs.Lent.{lengths}
use Rattle.decode.specs.Answers.{counts}
use Rattle.decode.specs.Record.{as_tables}
use Rattle.majorant.specs.Build.{build_into}
use Rattle.claim.proofs.Joined.{Decode, loads, loads_none}
use Rattle.claim.proofs.load.Goals as goal

pub returns-in-Ok-clause-load : goal.returns-in-Ok-clause-load
returns-in-Ok-clause-load c =
    let b = c.args.bytes.now in
    let l = lengths (as_tables c.args.tables.now) in
    let places = length c.args.majorants.now in
    let d : Decode b l (counts c.in-Ok.decoded) (as_tables c.decode_density_grid.new.tables) =
    record { answer_is = c.in-Ok.ensures.answer; tables_are = c.in-Ok.ensures.tables } in
    let built = ap (λ g. build_into g (as_medium c.in-Ok.decoded.medium) places) c.used.ensures in
    loads b l places (λ i. (c.type_inv.bytes i).fits) d
    (c.build_majorant-build.ensures.number ∙ ap number_of built) (c.build_majorant-build.ensures.table ∙ ap (value_or _) built)

pub returns-in-Err-clause-load : goal.returns-in-Err-clause-load
returns-in-Err-clause-load c =
    let b = c.args.bytes.now in
    let l = lengths (as_tables c.args.tables.now) in
    loads_none b l (length c.args.majorants.now) (λ i. (c.type_inv.bytes i).fits) c.in-Err.refusal c.in-Err.ensures.answer
    c.in-Err.ensures.tables c.zero.ensures
