-- Zeros after a fault, and otherwise the page on zeros.
use Rattle.std.proofs.Common.{◌≡◌, ◌*◌, ◌≤◌, List, length, sym, ap, ◌∙◌, subst}
use Rattle.std.specs.Prelude.{true, Float}
use Rattle.std.specs.Float.Ieee.Scale.{finite}
use Rattle.cells.specs.Record.{as_cells}
use Rattle.figures.specs.Figures.{every}
use Rattle.text.specs.Page.{page, puts}
use Rattle.sheet.specs.Sheet.{page_of, sheet_fault}
use Rattle.refusals.proofs.Exits.{number_some, exit_said}
use Rattle.sheet.proofs.Faults.{told}
use Rattle.sheet.proofs.Whole.{refused_out, page_out}
use Rattle.sheet.proofs.write_layer.Goals as goal

pub returns-in_err-figures : goal.returns-in_err-figures
returns-in_err-figures c =
    let a = c.args in
    let n = as_cells a.cells in
    let e = c.in_err-figures.field-0.0 in
    let fault = c.in_err-figures.ensures.fault ∙ ap (sheet_fault n a.k a.table.now) c.fill.ensures.len in
    let out = refused_out n a.k a.table.now (length a.text.now) fault (number_some e) (c.fill.ensures.after (λ y h. h)) in
    record { answer = exit_said c.from_residual.result e c.from_residual.ensures.1 ∙ out.said_is; text = out.text_is }

pub of-layer-requires-clause-fits : goal.of-layer-requires-clause-fits
of-layer-requires-clause-fits c =
    let t = told (as_cells c.args.cells) c.args.k c.args.table.now _ (sym c.in_ok-figures.ensures.fault) in
    subst (λ (l : List Float). c.args.cells.y * c.args.cells.x ≤ length l) (sym c.in_ok-figures.ensures.layer) t.rows

pub of-layer-requires-clause-real : goal.of-layer-requires-clause-real
of-layer-requires-clause-real c =
    let t = told (as_cells c.args.cells) c.args.k c.args.table.now _ (sym c.in_ok-figures.ensures.fault) in
    subst (λ (l : List Float). every finite l ≡ true) (sym c.in_ok-figures.ensures.layer) t.real

pub returns : goal.returns
returns c =
    let a = c.args in
    let n = as_cells a.cells in
    let fault = sym (c.in_ok-figures.ensures.fault ∙ ap (sheet_fault n a.k a.table.now) c.fill.ensures.len) in
    let made = c.of-layer.ensures in
    let layer = made.0 ∙ c.in_ok-figures.ensures.layer in
    let written = c.write_page.ensures ∙ (λ i. puts (page c.fill.new.self 0) (page_of (made.1 i) (made.2 i) a.k (layer i))) in
    let out = page_out n a.k a.table.now (length a.text.now) fault (c.fill.ensures.after (λ y h. h)) written in
    record { answer = out.said_is; text = out.text_is }
