-- Zeros, and the window that the fault allows.
use Rattle.std.proofs.Common.{length, sym, ◌∙◌, ap}
use Rattle.refusals.specs.Results.{value_or}
use Rattle.refusals.proofs.Exits.{number_some, exit_said}
use Rattle.cells.specs.Record.{as_cells}
use Rattle.window.specs.Window.{state_of, shut}
use Rattle.window.proofs.Whole.{open_refused, open_taken}
use Rattle.window.proofs.Window.open.Goals as goal

pub returns-in_err-test-clause-state : goal.returns-in_err-test-clause-state
returns-in_err-test-clause-state c =
    let a = c.args in
    let refused = exit_said c.from_residual.result _ c.from_residual.ensures.1 in
    ap (λ r. state_of (value_or shut r) c.zero.new.table c.zero-2.new.table) refused
    ∙ open_refused a.w (as_cells a.n) (length a.memory.now) (length a.answer.now)
    c.zero.ensures c.zero-2.ensures (λ z. number_some _ (c.in_err-test.ensures ∙ z))

pub returns-clause-state : goal.returns-clause-state
returns-clause-state c =
    let a = c.args in
    open_taken a.w (as_cells a.n) (length a.memory.now) (length a.answer.now) c.zero.ensures c.zero-2.ensures
    (sym c.in_ok-test.ensures)
