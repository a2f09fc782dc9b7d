-- A character for each figure of the row, of which each is finite and so is the greatest.
use Rattle.std.proofs.Common.{◌+◌, ◌-◌, ◌*◌, List, take, drop, ℕ, ap}
use Rattle.std.specs.Prelude.{Float}
use Rattle.std.specs.Float.{nan}
use Rattle.std.specs.Float.Ieee.Scale.{finite}
use Rattle.std.specs.Float.Ieee.Bits.{is_true}
use Rattle.float.proofs.Tests.{yes}
use Rattle.figures.proofs.Parts.{part_is}
use Rattle.figures.proofs.FigureLaws.{every_at, every_take, every_drop}
use Rattle.text.proofs.Writing.{as_text, begins, leaves_less, leaves_none}
use Rattle.sheet.proofs.Pages.{marks_next, marks_none}
use Rattle.sheet.proofs.SheetLaws.{greatest_real}
use Rattle.sheet.specs.Sheet.{marks}
use Rattle.sheet.specs.declared.lines.Layer.{Layer}
use Rattle.sheet.proofs.lines.Layer.put_marks.Goals as goal

-- the figures of a row, as the code takes them
abbrev part : Layer → ℕ → List Float
part s row = let start = row * s.x in take (start + s.x - start) (drop start s.figures.now)

pub loop-figure-init : goal.loop-figure-init
loop-figure-init c = let s = c.args.self in begins c.args.page.now (marks s.greatest (part s c.args.row))

pub mark-requires : goal.mark-requires
mark-requires c =
    let s = c.args.self in
    let start = c.args.row * s.x in
    let real = yes s.real in
    let row = every_take finite (start + s.x - start) _ (every_drop finite start s.figures.now real) in
    (is_true _ (every_at finite (part s c.args.row) row c.loop-figure.figure-index nan c.loop-figure-test.true), greatest_real s.figures.now real s.most)

pub loop-figure-preserved : goal.loop-figure-preserved
loop-figure-preserved c =
    let at = c.loop-figure in
    let s = c.args.self in
    leaves_less at.invariant (marks_next s.greatest (part s c.args.row) at.figure-index nan c.loop-figure-test.true c.mark.ensures) c.put_byte.ensures

pub returns : goal.returns
returns c =
    let s = c.args.self in
    as_text (leaves_none c.loop-figure.invariant (marks_none s.greatest (part s c.args.row) c.loop-figure.figure-index c.loop-figure-test.false))
    (ap (marks s.greatest) (part_is s.x (c.args.row * s.x) s.figures.now))
