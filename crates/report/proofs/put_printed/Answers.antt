-- The decode into these tables, and the text of its answer.
use Rattle.std.proofs.Common.{refl, arith}
use Rattle.refusals.specs.Results.{refused}
use Rattle.refusals.specs.Numbers.{number}
use Rattle.nanovdb.specs.Lent.{answer_of}
use Rattle.decode.specs.Answers.{counts}
use Rattle.decode.specs.Record.{as_tables}
use Rattle.text.proofs.Writing.{as_text}
use Rattle.report.specs.Report.{long_word, long_line}
use Rattle.report.proofs.Whole.{Left, long_is, long_fits, fits, grid_valid, grid_printed, refusal_printed}
use Rattle.report.proofs.put_printed.Goals as goal

-- ---- too long an input

pub returns-then-bytes-gt-MOST-clause-text : goal.returns-then-bytes-gt-MOST-clause-text
unfolding long_word long_line
returns-then-bytes-gt-MOST-clause-text g c = as_text c.put_line.ensures (long_is g.T.Text.text c.args.bytes.now c.if-bytes-gt-MOST.true)

pub returns-then-bytes-gt-MOST-clause-room : goal.returns-then-bytes-gt-MOST-clause-room
returns-then-bytes-gt-MOST-clause-room g c = long_fits g.T.Text.text c.args.bytes.now c.if-bytes-gt-MOST.true

-- ---- a grid

pub returns-in-Ok-clause-text : goal.returns-in-Ok-clause-text
returns-in-Ok-clause-text g c =
    let e = c.in-Ok.ensures in
    let left : Left c.args.bytes.now (counts c.in-Ok.d) (as_tables c.decode_density_grid.new.tables) =
    record { answer = e.answer; tables = e.tables; lengths = e.lengths } in
    as_text (c.put.ensures (grid_valid left refl c.used.ensures)) (grid_printed left g.T.Text.text refl c.used.ensures c.if-bytes-gt-MOST.false)

pub returns-in-Ok-clause-room : goal.returns-in-Ok-clause-room
returns-in-Ok-clause-room g c =
    let e = c.in-Ok.ensures in
    let left : Left c.args.bytes.now (counts c.in-Ok.d) (as_tables c.decode_density_grid.new.tables) =
    record { answer = e.answer; tables = e.tables; lengths = e.lengths } in
    fits left g.T.Text.text g.T.Text.room (λ i. (c.type_inv.bytes i).fits) c.if-bytes-gt-MOST.false (omega arith)

-- ---- a refusal

pub returns-in-Err-clause-text : goal.returns-in-Err-clause-text
returns-in-Err-clause-text g c =
    as_text c.put_refused.ensures.text (refusal_printed g.T.Text.text c.args.bytes.now c.in-Err.refusal c.in-Err.ensures.answer c.if-bytes-gt-MOST.false)

pub returns-in-Err-clause-room : goal.returns-in-Err-clause-room
returns-in-Err-clause-room g c =
    let e = c.in-Err.ensures in
    let left : Left c.args.bytes.now (answer_of (refused (number c.in-Err.refusal))) (as_tables c.decode_density_grid.new.tables) =
    record { answer = e.answer; tables = e.tables; lengths = e.lengths } in
    fits left g.T.Text.text g.T.Text.room (λ i. (c.type_inv.bytes i).fits) c.if-bytes-gt-MOST.false c.put_refused.ensures.counted
