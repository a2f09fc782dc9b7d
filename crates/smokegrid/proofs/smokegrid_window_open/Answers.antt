-- 18 for another length, and otherwise the window that the opening allows.
use Rattle.std.proofs.Common.{sym, ◌∙◌}
use Rattle.smokegrid.proofs.Windows.{open_size, open_window, open_none}
use Rattle.smokegrid.proofs.smokegrid_window_open.Goals as goal

pub returns-then-not-fits : goal.returns-then-not-fits
returns-then-not-fits c =
    open_size (sym c.are_long-fits.ensures ∙ c.if-not-fits.true) c.number.ensures c.zero.ensures c.zero-then-not-fits.ensures c.zero-then-not-fits-2.ensures

pub returns-in-Ok : goal.returns-in-Ok
returns-in-Ok c =
    open_window (sym c.are_long-fits.ensures ∙ c.if-not-fits.false) c.cells_from.ensures c.in-Ok.ensures.number c.in-Ok.ensures.state c.put_window.ensures

pub returns-in-Err : goal.returns-in-Err
returns-in-Err c =
    open_none (sym c.are_long-fits.ensures ∙ c.if-not-fits.false) c.cells_from.ensures c.in-Err.ensures.number c.in-Err.ensures.state
    c.number-in-Err.ensures c.zero.ensures
