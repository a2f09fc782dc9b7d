-- 18 for another length, and otherwise what the push leaves: everything as it was, or one table more.
use Rattle.std.proofs.Common.{sym, ◌∙◌}
use Rattle.refusals.proofs.Exits.{number_some}
use Rattle.smokegrid.specs.FlatTables.{window_arrays}
use Rattle.smokegrid.proofs.Windows.{push_size, push_one, push_none}
use Rattle.smokegrid.proofs.smokegrid_window_push.Goals as goal

pub returns-then-not-are_long : goal.returns-then-not-are_long
returns-then-not-are_long c = push_size (sym c.are_long.ensures ∙ c.if-not-are_long.true) c.number.ensures

pub returns-in-Ok : goal.returns-in-Ok
returns-in-Ok c =
    let a = c.args in
    let before = window_arrays a.window.now a.memory.now a.answer.now in
    push_one a.cells.now a.majorants.now before (sym c.are_long.ensures ∙ c.if-not-are_long.false) c.window_from-held.ensures c.cells_from.ensures
    c.in-Ok.ensures.number c.in-Ok.ensures.state c.put_window.ensures

pub returns-in-Err : goal.returns-in-Err
returns-in-Err c =
    let a = c.args in
    let before = window_arrays a.window.now a.memory.now a.answer.now in
    push_none a.cells.now a.majorants.now before (sym c.are_long.ensures ∙ c.if-not-are_long.false) c.window_from-held.ensures c.cells_from.ensures
    c.in-Err.ensures.number (number_some _) c.number-in-Err.ensures c.in-Err.ensures.state
