-- Five tests, one after the other.
use Rattle.std.proofs.Common.{sym, ap, ◌∙◌}
use Rattle.float.proofs.Tests.{yes}
use Rattle.refusals.specs.TestLaws.{and_l}
use Rattle.refusals.proofs.Exits.{number_some, exit_fault}
use Rattle.cells.specs.Record.{as_cells}
use Rattle.window.specs.Window.{table_of, width_in, same_cells, cells_of}
use Rattle.window.proofs.FaultLaws.{wide}
use Rattle.window.proofs.Faults.{Asked, lengths, count_is, count_most, cells_out, window_out, lengths_out, figures_out}
use Rattle.window.proofs.check_push.Goals as goal

pub returns-in_err-check : goal.returns-in_err-check
returns-in_err-check c =
    let a = c.args in
    let q : Asked = record { window = a.s; memory = a.memory; answer = a.answer; table = table_of (as_cells a.n) a.table.now } in
    exit_fault c.from_residual.result _ c.from_residual.ensures.1 ∙ cells_out q c.in_err-check.ensures (number_some _)

pub returns-then-not-fits_window : goal.returns-then-not-fits_window
returns-then-not-fits_window c =
    let a = c.args in
    let q : Asked = record { window = a.s; memory = a.memory; answer = a.answer; table = table_of (as_cells a.n) a.table.now } in
    window_out q (sym c.in_ok-check.ensures) (sym c.if-not-fits_window.ensures)

pub fits_lengths-requires : goal.fits_lengths-requires
fits_lengths-requires c =
    let a = c.args in
    let n = as_cells a.n in
    let w = and_l (width_in a.s.w) (same_cells n (cells_of a.s)) (yes (sym c.if-not-fits_window.ensures)) in
    ((wide a.s.w w).high, count_most n (sym c.in_ok-check.ensures) c.table_length.ensures)

pub returns-then-not-fits_lengths : goal.returns-then-not-fits_lengths
returns-then-not-fits_lengths c =
    let a = c.args in
    let n = as_cells a.n in
    let q : Asked = record { window = a.s; memory = a.memory; answer = a.answer; table = table_of n a.table.now } in
    let long = c.if-not-fits_lengths.ensures ∙ ap (lengths q) (count_is n (sym c.in_ok-check.ensures) c.table_length.ensures) in
    lengths_out q (sym c.in_ok-check.ensures) (sym c.if-not-fits_window.ensures) (sym long)

pub returns : goal.returns
returns c =
    let a = c.args in
    let n = as_cells a.n in
    let q : Asked = record { window = a.s; memory = a.memory; answer = a.answer; table = table_of n a.table.now } in
    let long = c.if-not-fits_lengths.ensures ∙ ap (lengths q) (count_is n (sym c.in_ok-check.ensures) c.table_length.ensures) in
    figures_out q (sym c.in_ok-check.ensures) (sym c.if-not-fits_window.ensures) (sym long) c.check_figures.ensures
