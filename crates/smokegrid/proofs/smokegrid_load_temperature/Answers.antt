-- 18 for another length, and what the load answers.
use Rattle.std.proofs.Common.{refl, ap, ◌∙◌, length, replicate}
use lib.Ieee.{binary32}
use Rattle.float.proofs.Literal.{zero_literal}
use Rattle.nanovdb.specs.Lent.{tables, lengths}
use Rattle.smokegrid.proofs.Heated.{HeatHanded, heat_sized, heat_answer}
use Rattle.smokegrid.proofs.smokegrid_load_temperature.Goals as goal

pub returns-then-not-fits : goal.returns-then-not-fits
returns-then-not-fits c =
    let a = c.args in
    let lent =
    lengths (tables a.blocks.now a.root_links.now a.root_values.now a.upper_links.now a.upper_values.now
    a.lower_links.now a.lower_values.now a.leaf_values.now a.work.now) in
    let h : HeatHanded = record { bytes = a.bytes.now; offset = a.offset; scale = a.scale; lent = lent; counts = length a.counts.now } in
    heat_sized h c.number.ensures c.if-not-fits.true c.clear.ensures c.zero.ensures (zero_literal binary32)

pub returns-in-Ok : goal.returns-in-Ok
returns-in-Ok c =
    let a = c.args in
    let lent =
    lengths (tables a.blocks.now a.root_links.now a.root_values.now a.upper_links.now a.upper_values.now
    a.lower_links.now a.lower_values.now a.leaf_values.now a.work.now) in
    let h : HeatHanded = record { bytes = a.bytes.now; offset = a.offset; scale = a.scale; lent = lent; counts = length a.counts.now } in
    heat_answer h refl c.if-not-fits.false c.in-Ok.ensures.answer c.in-Ok.ensures.tables c.put_counts.ensures refl

pub returns-in-Err : goal.returns-in-Err
returns-in-Err c =
    let a = c.args in
    let lent =
    lengths (tables a.blocks.now a.root_links.now a.root_values.now a.upper_links.now a.upper_values.now
    a.lower_links.now a.lower_values.now a.leaf_values.now a.work.now) in
    let h : HeatHanded = record { bytes = a.bytes.now; offset = a.offset; scale = a.scale; lent = lent; counts = length a.counts.now } in
    heat_answer h c.number-in-Err.ensures c.if-not-fits.false c.in-Err.ensures.answer c.in-Err.ensures.tables
    (c.zero.ensures ∙ ap (λ n. replicate n 0) c.if-not-fits.false) (zero_literal binary32)
