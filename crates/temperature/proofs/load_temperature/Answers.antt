-- The ways out of `load_temperature` but 27: the decode's refusal, and the decode's grid. Assumes nothing.
use Rattle.std.proofs.Common.{refl, ap, ◌∙◌}
use Rattle.refusals.proofs.Exits.{number_some, exit_is}
use Rattle.nanovdb.specs.Lent.{lengths}
use Rattle.decode.specs.Record.{as_tables}
use Rattle.temperature.specs.Answers.{loaded}
use Rattle.temperature.specs.Temperature.{heated}
use Rattle.temperature.proofs.Answered.{decode_refuses, load_accepts}
use Rattle.temperature.proofs.load_temperature.Goals as goal

pub returns-in_err-d-clause-answer : goal.returns-in_err-d-clause-answer
returns-in_err-d-clause-answer c =
    let a = c.args in
    let e = c.in_err-d.ensures in
    ap loaded (exit_is c.from_residual.result _ c.from_residual.ensures.1)
    ∙ (decode_refuses a.bytes.now (heated a.offset a.scale) (lengths (as_tables a.tables.now)) e.answer (number_some _) e.tables).0

pub returns-in_err-d-clause-tables : goal.returns-in_err-d-clause-tables
returns-in_err-d-clause-tables c =
    let a = c.args in
    let e = c.in_err-d.ensures in
    (decode_refuses a.bytes.now (heated a.offset a.scale) (lengths (as_tables a.tables.now)) e.answer (number_some _) e.tables).1

pub returns-clause-answer : goal.returns-clause-answer
returns-clause-answer c =
    let a = c.args in
    let d = c.in_ok-d.ensures in
    (load_accepts a.bytes.now (heated a.offset a.scale) (lengths (as_tables a.tables.now)) d.answer refl c.in_default.ensures c.accepted.ensures d.tables).0

pub returns-clause-tables : goal.returns-clause-tables
returns-clause-tables c =
    let a = c.args in
    let d = c.in_ok-d.ensures in
    (load_accepts a.bytes.now (heated a.offset a.scale) (lengths (as_tables a.tables.now)) d.answer refl c.in_default.ensures c.accepted.ensures d.tables).1
