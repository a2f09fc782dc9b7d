use Rattle.std.proofs.Common.{sym, ◌∙◌}
use Rattle.refusals.proofs.Exits.{number_some, exit_fault}
use Rattle.refusals.proofs.FaultSteps.{first_fault_none, first_fault_next}
use Rattle.sparse_grid.specs.Record.{as_grid}
use Rattle.sparse_grid.proofs.Blocks.{topped_none}
use Rattle.sparse_grid.proofs.Steps.{stops}
use Rattle.sparse_grid.proofs.paired.PairedGrid.check_roots.Goals as goal

pub loop-i-init : goal.loop-i-init
loop-i-init c = record { topped = topped_none (as_grid c.args.self.now.grid) 0; sound = first_fault_none _ }

pub returns-in_err-top : goal.returns-in_err-top
returns-in_err-top c =
    exit_fault _ c.in_err-top.field-0.0 c.from_residual.ensures.1
    ∙ stops _ c.loop-i.i _ c.loop-i-test.true c.loop-i.invariant.sound (sym c.in_err-top.ensures.fault) (number_some _)

pub loop-i-preserved : goal.loop-i-preserved
loop-i-preserved c = record {
  topped = c.in_ok-top.ensures.top;
  sound = first_fault_next _ _ c.loop-i.invariant.sound (sym c.in_ok-top.ensures.fault);
}
