-- Three tests, one after the other.
use Rattle.std.proofs.Common.{ℕ, ◌*◌, sym, ap, ◌∙◌}
use Rattle.std.proofs.Math.Bool.{◌&&◌}
use Rattle.std.proofs.Math.Dec.{eqb}
use Rattle.float.proofs.Tests.{yes}
use Rattle.refusals.specs.TestLaws.{and_same}
use Rattle.refusals.proofs.Exits.{number_some, exit_fault}
use Rattle.cells.specs.Cells.{cell_count}
use Rattle.cells.specs.Record.{as_cells}
use Rattle.window.proofs.FaultLaws.{wide}
use Rattle.window.proofs.Faults.{count_is, count_most, open_cells, open_out}
use Rattle.window.proofs.check_open.Goals as goal

pub returns-in_err-check : goal.returns-in_err-check
returns-in_err-check c =
    exit_fault c.from_residual.result _ c.from_residual.ensures.1
    ∙ open_cells c.args.w _ c.args.memory c.args.answer c.in_err-check.ensures (number_some _)

pub returns-then-not-width_in : goal.returns-then-not-width_in
returns-then-not-width_in c =
    let a = c.args in
    let n = as_cells a.n in
    open_out a.w n a.memory a.answer (sym c.in_ok-check.ensures) (sym c.if-not-width_in.ensures)
    (λ i. eqb a.memory (a.w * cell_count n) && eqb a.answer (cell_count n))

pub tables-requires : goal.tables-requires
tables-requires c =
    let a = c.args in
    ((wide a.w (yes (sym c.if-not-width_in.ensures))).high, count_most (as_cells a.n) (sym c.in_ok-check.ensures) c.table_length-length.ensures)

pub returns-then-memory-tables : goal.returns-then-memory-tables
returns-then-memory-tables c =
    let a = c.args in
    let n = as_cells a.n in
    let count = count_is n (sym c.in_ok-check.ensures) c.table_length-length.ensures in
    let most = c.tables.ensures ∙ ap (λ (k : ℕ). a.w * k) count in
    let long = and_same (ap (eqb a.memory) most) (ap (eqb a.answer) count) in
    open_out a.w n a.memory a.answer (sym c.in_ok-check.ensures) (sym c.if-not-width_in.ensures) (sym long ∙ c.if-memory-tables.true)

pub returns-else-memory-tables : goal.returns-else-memory-tables
returns-else-memory-tables c =
    let a = c.args in
    let n = as_cells a.n in
    let count = count_is n (sym c.in_ok-check.ensures) c.table_length-length.ensures in
    let most = c.tables.ensures ∙ ap (λ (k : ℕ). a.w * k) count in
    let long = and_same (ap (eqb a.memory) most) (ap (eqb a.answer) count) in
    open_out a.w n a.memory a.answer (sym c.in_ok-check.ensures) (sym c.if-not-width_in.ensures) (sym long ∙ c.if-memory-tables.false)
