-- The answers are those of the used parts, and of the figures of a build that passed.
use Rattle.std.specs.Prelude.{length, Ok}
use Rattle.std.proofs.Common.{ap, ◌∙◌}
use Rattle.refusals.specs.Numbers.{fault_of}
use Rattle.medium.specs.Record.{as_medium}
use Rattle.cells.specs.Cells.{cell_count}
use Rattle.nanovdb.specs.Lent.{lengths}
use Rattle.decode.specs.Record.{as_tables}
use Rattle.claim.specs.Asked.{as_question, as_load}
use Rattle.claim.specs.Inner.{Small, seen_in}
use Rattle.claim.proofs.Joined.{asks, joined, tabled_in, found_passed, found_refused}
use Rattle.claim.proofs.ask.Goals as goal

pub found_in-found-requires : goal.found_in-found-requires
found_in-found-requires c =
    let l = lengths (as_tables c.args.tables.now) in
    tabled_in c.args.bytes.now l (length c.args.majorants.now) c.in_ok-loaded.ensures.load (ap fault_of c.in-Ok.is) c.load.auto.majorants

pub returns-in-Ok-clause-answer : goal.returns-in-Ok-clause-answer
returns-in-Ok-clause-answer c =
    let b = c.args.bytes.now in
    let l = lengths (as_tables c.args.tables.now) in
    let q = as_question c.args.q in
    let m = as_medium c.in_ok-loaded.loaded.decoded.medium in
    let small : Small q = record { coordinate = c.told.ensures; low = c.told-2.ensures; high = c.told-3.ensures } in
    let seen = c.seen_in-seen.ensures ∙ ap (λ g. seen_in 0 g q) c.used.ensures in
    let found = found_passed m c.load.new.majorants q.point (cell_count m.cells) c.found_in-found.result c.in-Ok.is c.found_in-found.ensures in
    asks b l (length c.args.majorants.now) q (λ i. (c.type_inv.bytes i).fits) small c.in_ok-loaded.ensures.load
    (λ i. joined (as_load (Ok c.in_ok-loaded.loaded)) (seen i) (found i))

pub returns-in-Err-clause-answer : goal.returns-in-Err-clause-answer
returns-in-Err-clause-answer c =
    let b = c.args.bytes.now in
    let l = lengths (as_tables c.args.tables.now) in
    let q = as_question c.args.q in
    let m = as_medium c.in_ok-loaded.loaded.decoded.medium in
    let small : Small q = record { coordinate = c.told.ensures; low = c.told-2.ensures; high = c.told-3.ensures } in
    let seen = c.seen_in-seen.ensures ∙ ap (λ g. seen_in 0 g q) c.used.ensures in
    let found = found_refused m c.load.new.majorants q.point (cell_count m.cells) c.in-Err.is in
    asks b l (length c.args.majorants.now) q (λ i. (c.type_inv.bytes i).fits) small c.in_ok-loaded.ensures.load
    (λ i. joined (as_load (Ok c.in_ok-loaded.loaded)) (seen i) (found i))
