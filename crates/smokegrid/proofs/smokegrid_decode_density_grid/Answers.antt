-- A flat array of another length, and what the decode answers.
use Rattle.std.proofs.Common.{refl, sym, ◌∙◌, length}
use lib.Ieee.{binary32}
use Rattle.float.proofs.Literal.{zero_literal}
use Rattle.refusals.proofs.Exits.{number_some}
use Rattle.nanovdb.specs.Lent.{tables, lengths}
use Rattle.smokegrid.specs.Flat.{Arrays}
use Rattle.smokegrid.proofs.Left.{Handed, out_fault, out_answer, zero_counts, zero_medium, zero_corners, zero_cells}
use Rattle.smokegrid.proofs.smokegrid_decode_density_grid.Goals as goal

pub returns-in-Err : goal.returns-in-Err
returns-in-Err c =
    let a = c.args in
    let lent =
    lengths (tables a.blocks.now a.root_links.now a.root_values.now a.upper_links.now a.upper_values.now
    a.lower_links.now a.lower_values.now a.leaf_values.now a.work.now) in
    let arrays : Arrays = record { counts = length a.counts.now; medium = length a.medium.now; corners = length a.corners.now; cells = length a.cells.now } in
    let h : Handed = record { bytes = a.bytes.now; lent = lent; arrays = arrays } in
    out_fault h (c.number.ensures ∙ c.in-Err.ensures) (λ z. number_some _ (sym c.number.ensures ∙ z)) c.clear.ensures
    c.zero.ensures (zero_literal binary32) c.zero-2.ensures c.zero-3.ensures c.zero-4.ensures

pub returns-in-Ok : goal.returns-in-Ok
returns-in-Ok c =
    let a = c.args in
    let lent =
    lengths (tables a.blocks.now a.root_links.now a.root_values.now a.upper_links.now a.upper_values.now
    a.lower_links.now a.lower_values.now a.leaf_values.now a.work.now) in
    let arrays : Arrays = record { counts = length a.counts.now; medium = length a.medium.now; corners = length a.corners.now; cells = length a.cells.now } in
    let h : Handed = record { bytes = a.bytes.now; lent = lent; arrays = arrays } in
    out_answer h refl (sym c.in_default.ensures) c.in-Ok.ensures.answer c.in-Ok.ensures.tables
    c.put_counts.ensures refl c.put_medium.ensures c.put_corners.ensures c.copy_from_slice.ensures.after

pub returns-in-Err-decode : goal.returns-in-Err-decode
returns-in-Err-decode c =
    let a = c.args in
    let lent =
    lengths (tables a.blocks.now a.root_links.now a.root_values.now a.upper_links.now a.upper_values.now
    a.lower_links.now a.lower_values.now a.leaf_values.now a.work.now) in
    let arrays : Arrays = record { counts = length a.counts.now; medium = length a.medium.now; corners = length a.corners.now; cells = length a.cells.now } in
    let h : Handed = record { bytes = a.bytes.now; lent = lent; arrays = arrays } in
    let fits = sym c.in_default.ensures in
    let e = c.in-Err-decode in
    out_answer h c.number-in-Err-decode.ensures fits e.ensures.answer e.ensures.tables
    (zero_counts h fits c.zero.ensures) (zero_literal binary32) (zero_medium h fits c.zero-2.ensures) (zero_corners h fits c.zero-3.ensures)
    (zero_cells h fits c.zero-4.ensures)
