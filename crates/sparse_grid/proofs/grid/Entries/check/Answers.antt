use Rattle.std.proofs.Common.{sym, ◌∙◌, arith}
use Rattle.refusals.proofs.Exits.{number_some, exit_fault}
use Rattle.refusals.proofs.FaultSteps.{first_fault_none, first_fault_next}
use Rattle.sparse_grid.proofs.Steps.{stops}
use Rattle.sparse_grid.proofs.TableLaws.{entry_fault_read}
use Rattle.sparse_grid.proofs.grid.Entries.check.Goals as goal

pub loop-i-init : goal.loop-i-init
loop-i-init c = first_fault_none _

pub returns-in_err-check_entry : goal.returns-in_err-check_entry
returns-in_err-check_entry c =
    let a = c.args.self in
    let read = entry_fault_read a.links.now a.values.now c.args.count c.loop-i.i (omega arith) in
    exit_fault _ c.in_err-check_entry.field-0.0 c.from_residual.ensures.1
    ∙ stops _ c.loop-i.i _ c.loop-i-test.true c.loop-i.invariant (sym (c.in_err-check_entry.ensures ∙ read)) (number_some _)

pub loop-i-preserved : goal.loop-i-preserved
loop-i-preserved c =
    let a = c.args.self in
    let read = entry_fault_read a.links.now a.values.now c.args.count c.loop-i.i (omega arith) in
    first_fault_next _ _ c.loop-i.invariant (sym (c.in_ok-check_entry.ensures ∙ read))
