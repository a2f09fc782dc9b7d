-- Without a fault each part of a push does its share.
use Rattle.std.proofs.Common.{sym, arith}
use Rattle.cells.specs.Record.{as_cells}
use Rattle.window.specs.Window.{state_of, table_of}
use Rattle.window.proofs.Whole.{Parts, next_in, place_fits, ring_fits, push_taken}
use Rattle.window.proofs.Window.push.Goals as goal

pub overflow_mul-start : goal.overflow_mul-start
overflow_mul-start c =
    let a = c.args in
    omega (arith, place_fits (state_of a.self.now a.memory.now a.answer.now) (table_of (as_cells a.n) a.table.now) (sym c.in_ok-check_push.ensures))

pub store-requires : goal.store-requires
store-requires c =
    let a = c.args in
    place_fits (state_of a.self.now a.memory.now a.answer.now) (table_of (as_cells a.n) a.table.now) (sym c.in_ok-check_push.ensures)

pub advanced-window-requires : goal.advanced-window-requires
advanced-window-requires c =
    let a = c.args in
    next_in (state_of a.self.now a.memory.now a.answer.now) (table_of (as_cells a.n) a.table.now) (sym c.in_ok-check_push.ensures)

pub raise_ring-requires : goal.raise_ring-requires
raise_ring-requires c =
    let a = c.args in
    let parts : Parts (state_of a.self.now a.memory.now a.answer.now) (table_of (as_cells a.n) a.table.now) _ _ _ = record {
      none = sym c.in_ok-check_push.ensures;
      kept = c.store.ensures;
      zeros = c.zero.ensures;
      next = c.advanced-window.ensures;
    } in
    ring_fits parts

pub returns-clause-state : goal.returns-clause-state
returns-clause-state c =
    let a = c.args in
    let parts : Parts (state_of a.self.now a.memory.now a.answer.now) (table_of (as_cells a.n) a.table.now) _ _ _ = record {
      none = sym c.in_ok-check_push.ensures;
      kept = c.store.ensures;
      zeros = c.zero.ensures;
      next = c.advanced-window.ensures;
    } in
    push_taken parts c.raise_ring.ensures
