-- The ways out of `read_density`: a refusal of the scalar grid, 15, and the grid. Assumes nothing.
use Rattle.std.proofs.Common.{sym, subst, ap, ◌∙◌}
use Rattle.refusals.proofs.Exits.{exit_is}
use Rattle.sparse_grid.specs.Validate.{density_fault}
use Rattle.nanovdb.specs.Decode.{decode_density}
use Rattle.decode.specs.Record.{as_tables}
use Rattle.decode.specs.Inner.GridRead.{GridOut}
use Rattle.decode.proofs.grid.Answers.{dense-refused, dense-fault, dense-accepted}
use Rattle.decode.proofs.grid.read_density.Goals as goal

pub returns-in_err-d-clause-read : goal.returns-in_err-d-clause-read
returns-in_err-d-clause-read c =
    subst (GridOut decode_density c.args.bytes.now (as_tables c.args.tables.now) (as_tables c.read_scalar.new.tables))
    (sym (exit_is c.from_residual.result _ c.from_residual.ensures.1))
    (dense-refused c.args.bytes.now (as_tables c.args.tables.now) _ c.in_err-d.ensures.read)

pub returns-in_err-check_density-clause-read : goal.returns-in_err-check_density-clause-read
returns-in_err-check_density-clause-read c =
    let u = as_tables c.read_scalar.new.tables in
    subst (GridOut decode_density c.args.bytes.now (as_tables c.args.tables.now) u)
    (sym (exit_is c.from_residual-in_err-check_density.result _ c.from_residual-in_err-check_density.ensures.1))
    (dense-fault c.args.bytes.now (as_tables c.args.tables.now) u c.in_ok-d.d c.in_ok-d.ensures.read _
    (c.in_err-check_density.ensures ∙ ap density_fault c.used.ensures))

pub returns-clause-read : goal.returns-clause-read
returns-clause-read c =
    dense-accepted c.args.bytes.now (as_tables c.args.tables.now) (as_tables c.read_scalar.new.tables) c.in_ok-d.d c.in_ok-d.ensures.read
    (c.in_ok-check_density.ensures ∙ ap density_fault c.used.ensures)
