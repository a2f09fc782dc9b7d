-- 18 for another length, and otherwise the position of the medium that was read.
use Rattle.std.proofs.Common.{rules, refl, sym, ap, ◌∙◌, length}
use Rattle.medium.specs.Medium.{Point}
use Rattle.index.specs.Answers.{index_bits}
use Rattle.smokegrid.proofs.Flats.{index_stops, index_goes, index_out}
use Rattle.smokegrid.proofs.smokegrid_world_to_index_f.Goals as goal

pub returns-then-not-fits : goal.returns-then-not-fits
returns-then-not-fits c =
    let a = c.args in
    index_out a.medium.now _ (length a.index_bits.now) (index_stops a.medium.now _ _ (sym c.are_long-fits.ensures ∙ c.if-not-fits.true)) c.number.ensures
    c.zero.ensures

pub returns-in-Ok : goal.returns-in-Ok
returns-in-Ok c =
    let a = c.args in
    let p : Point = record { x = a.x; y = a.y; z = a.z } in
    let read = ap (λ m. index_bits m p) c.medium_from.ensures in
    index_out a.medium.now p (length a.index_bits.now)
    (c.in-Ok.ensures ∙ read ∙ index_goes a.medium.now p _ (sym c.are_long-fits.ensures ∙ c.if-not-fits.false)) refl (search rules)

pub returns-in-Err : goal.returns-in-Err
returns-in-Err c =
    let a = c.args in
    let p : Point = record { x = a.x; y = a.y; z = a.z } in
    let read = ap (λ m. index_bits m p) c.medium_from.ensures in
    index_out a.medium.now p (length a.index_bits.now)
    (c.in-Err.ensures ∙ read ∙ index_goes a.medium.now p _ (sym c.are_long-fits.ensures ∙ c.if-not-fits.false)) c.number-in-Err.ensures c.zero.ensures
