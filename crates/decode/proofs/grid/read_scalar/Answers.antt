-- The ways out of `read_scalar`: the lengths, the header, the tree reader, a test of the tree, and the tree. Assumes nothing.
use Rattle.std.specs.Prelude.{Ok, Err}
use Rattle.std.proofs.Common.{sym, subst}
use Rattle.refusals.proofs.Exits.{exit_is}
use Rattle.nanovdb.specs.Decode.{decode_scalar}
use Rattle.nanovdb.specs.Lent.{lengths}
use Rattle.decode.specs.Record.{as_tables}
use Rattle.decode.specs.Inner.GridRead.{GridOut}
use Rattle.decode.proofs.grid.Answers.{Begun, Got, short, pairs, root-fits, out-lent, out-bytes, out-tree, out_fault, out-accepted}
use Rattle.decode.proofs.grid.read_scalar.Goals as goal

pub returns-in_err-check-clause-read : goal.returns-in_err-check-clause-read
returns-in_err-check-clause-read c =
    let t = as_tables c.args.tables.now in
    subst (GridOut decode_scalar c.args.bytes.now t t) (sym (exit_is c.from_residual.result _ c.from_residual.ensures.1))
    (out-lent c.args.bytes.now t _ c.in_err-check.ensures)

pub returns-in_err-check_bytes-clause-read : goal.returns-in_err-check_bytes-clause-read
returns-in_err-check_bytes-clause-read c =
    let t = as_tables c.args.tables.now in
    subst (GridOut decode_scalar c.args.bytes.now t t)
    (sym (exit_is c.from_residual-in_err-check_bytes.result _ c.from_residual-in_err-check_bytes.ensures.1))
    (out-bytes c.args.bytes.now t _ c.in_ok-check.ensures c.in_err-check_bytes.ensures)

pub read_tree-requires-clause-short : goal.read_tree-requires-clause-short
read_tree-requires-clause-short c = short c.args.bytes.now (sym c.in_ok-check_bytes.ensures)

pub read_tree-requires-clause-paired : goal.read_tree-requires-clause-paired
read_tree-requires-clause-paired c = pairs (lengths (as_tables c.args.tables.now)) (sym c.in_ok-check.ensures)

pub returns-in_err-tree-clause-read : goal.returns-in_err-tree-clause-read
returns-in_err-tree-clause-read c =
    let t = as_tables c.args.tables.now in
    let u = as_tables c.read_tree.new.tables in
    let begun : Begun c.args.bytes.now t = record { paired = c.in_ok-check.ensures; passed = c.in_ok-check_bytes.ensures; zeroed = c.requires } in
    let got : Got c.args.bytes.now t u (Err _) = record { begun = begun; kept = c.in_err-tree.ensures.lengths; says = c.in_err-tree.ensures.tree } in
    subst (GridOut decode_scalar c.args.bytes.now t u) (sym (exit_is c.from_residual-in_err-tree.result _ c.from_residual-in_err-tree.ensures.1))
    (out-tree got)

pub decoded-grid-requires : goal.decoded-grid-requires
decoded-grid-requires c =
    let t = as_tables c.args.tables.now in
    let u = as_tables c.read_tree.new.tables in
    let begun : Begun c.args.bytes.now t = record { paired = c.in_ok-check.ensures; passed = c.in_ok-check_bytes.ensures; zeroed = c.requires } in
    let got : Got c.args.bytes.now t u (Ok c.in_ok-tree.tree) =
    record { begun = begun; kept = c.in_ok-tree.ensures.lengths; says = c.in_ok-tree.ensures.tree } in
    root-fits got

pub returns-in_err-check_grid-clause-read : goal.returns-in_err-check_grid-clause-read
returns-in_err-check_grid-clause-read c =
    let t = as_tables c.args.tables.now in
    let u = as_tables c.read_tree.new.tables in
    let begun : Begun c.args.bytes.now t = record { paired = c.in_ok-check.ensures; passed = c.in_ok-check_bytes.ensures; zeroed = c.requires } in
    let got : Got c.args.bytes.now t u (Ok c.in_ok-tree.tree) =
    record { begun = begun; kept = c.in_ok-tree.ensures.lengths; says = c.in_ok-tree.ensures.tree } in
    subst (GridOut decode_scalar c.args.bytes.now t u) (sym (exit_is c.from_residual-in_err-check_grid.result _ c.from_residual-in_err-check_grid.ensures.1))
    (out_fault got c.decoded-grid.result c.decoded-grid.ensures _ c.in_err-check_grid.ensures)

pub returns-clause-read : goal.returns-clause-read
returns-clause-read c =
    let t = as_tables c.args.tables.now in
    let u = as_tables c.read_tree.new.tables in
    let begun : Begun c.args.bytes.now t = record { paired = c.in_ok-check.ensures; passed = c.in_ok-check_bytes.ensures; zeroed = c.requires } in
    let got : Got c.args.bytes.now t u (Ok c.in_ok-tree.tree) =
    record { begun = begun; kept = c.in_ok-tree.ensures.lengths; says = c.in_ok-tree.ensures.tree } in
    out-accepted got c.decoded-grid.result c.decoded-grid.ensures c.in_ok-check_grid.ensures
