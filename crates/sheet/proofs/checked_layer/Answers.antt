-- The layer lies in its table, and the first fault is the one that is answered.
use Rattle.std.proofs.Common.{ℕ, ◌*◌, length, sym, ap, ◌∙◌, subst, ◌≤◌, ◌<◌, arith}
use borrow.Author.Tests.{le-leb, lt-leb}
use Rattle.cells.specs.Record.{as_cells}
use Rattle.figures.specs.Figures.{figures_fault}
use Rattle.figures.proofs.Parts.{part_is}
use Rattle.refusals.proofs.Exits.{number_some, exit_fault}
use Rattle.sheet.proofs.Faults.{x_most, y_most, layer_fits, page_size, figures_out, room_out}
use Rattle.sheet.proofs.checked_layer.Goals as goal

pub overflow_mul-start : goal.overflow_mul-start
overflow_mul-start c =
    omega (arith, layer_fits (as_cells c.args.cells) (length c.args.table.now) (sym c.in_ok-check_table.ensures) c.args.k c.if-k-cells.false)

pub overflow_add-layer : goal.overflow_add-layer
overflow_add-layer c =
    omega (arith, layer_fits (as_cells c.args.cells) (length c.args.table.now) (sym c.in_ok-check_table.ensures) c.args.k c.if-k-cells.false)

pub returns-in_err-check_figures-clause-fault : goal.returns-in_err-check_figures-clause-fault
returns-in_err-check_figures-clause-fault c =
    let a = c.args in
    let area = a.cells.x * a.cells.y in
    let exit = exit_fault c.from_residual-in_err-check_figures.result c.in_err-check_figures.field-0.0 c.from_residual-in_err-check_figures.ensures.1 in
    let fault = c.in_err-check_figures.ensures ∙ ap figures_fault (part_is area (a.k * area) a.table.now) in
    exit
    ∙ figures_out (as_cells a.cells) a.k a.table.now (sym c.in_ok-check_table.ensures) c.if-k-cells.false a.room fault
    (number_some c.in_err-check_figures.field-0.0)

pub size-requires : goal.size-requires
size-requires c =
    let none = sym c.in_ok-check_table.ensures in
    (x_most (as_cells c.args.cells) _ none, y_most (as_cells c.args.cells) _ none)

pub returns-then-size-room-clause-fault : goal.returns-then-size-room-clause-fault
returns-then-size-room-clause-fault c =
    let a = c.args in
    let n = as_cells a.cells in
    let area = a.cells.x * a.cells.y in
    let none = sym c.in_ok-check_table.ensures in
    let passed = c.in_ok-check_figures.ensures ∙ ap figures_fault (part_is area (a.k * area) a.table.now) in
    let long = c.size.ensures ∙ sym (page_size n a.k a.table.now none c.if-k-cells.false) in
    room_out n a.k a.table.now none c.if-k-cells.false a.room passed (lt-leb _ a.room (subst (λ (m : ℕ). a.room < m) long c.if-size-room.true))

pub returns-clause-fault : goal.returns-clause-fault
returns-clause-fault c =
    let a = c.args in
    let n = as_cells a.cells in
    let area = a.cells.x * a.cells.y in
    let none = sym c.in_ok-check_table.ensures in
    let passed = c.in_ok-check_figures.ensures ∙ ap figures_fault (part_is area (a.k * area) a.table.now) in
    let long = c.size.ensures ∙ sym (page_size n a.k a.table.now none c.if-k-cells.false) in
    room_out n a.k a.table.now none c.if-k-cells.false a.room passed (le-leb _ a.room (subst (λ (m : ℕ). m ≤ a.room) long c.if-size-room.false))
