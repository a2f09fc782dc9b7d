-- The ways out of `open`: a node that was read before, the refusal of `enter`, no place, and a new node. Assumes nothing.
use Rattle.std.proofs.Common.{ℕ, ◌+◌, sym, ap, subst, length, arith}
use Rattle.refusals.proofs.Exits.{exit_is}
use Rattle.decode.specs.Record.{as_tables}
use Rattle.decode.specs.Inner.Kinds.{level_of}
use Rattle.decode.specs.Inner.Filled.{nodes_of, with_work, OpenOut}
use Rattle.decode.proofs.nodes.Fits.{number_small, count_small}
use Rattle.decode.proofs.nodes.Answers.{entered, fresh-whole, out-again, out-stop, out-full, out-new}
use Rattle.decode.proofs.nodes.open.Goals as goal

pub overflow_cast-number : goal.overflow_cast-number
overflow_cast-number c =
    let n = number_small (count_small c.requires.fit c.requires.short) (level_of c.args.kind) in
    record { fits = omega (arith, n, c.count-k.ensures) }

pub enter-requires : goal.enter-requires
enter-requires c =
    let n = number_small (count_small c.requires.fit c.requires.short) (level_of c.args.kind) in (c.requires.fit.rep, omega (arith, n, c.count-k.ensures))

pub returns-in_err-n-clause-open : goal.returns-in_err-n-clause-open
returns-in_err-n-clause-open c =
    let a = c.args in let t = nodes_of (as_tables a.tables.now) in
    subst (OpenOut (level_of a.kind) a.bytes.now a.source t a.st (with_work t c.enter.new.work))
    (sym (exit_is c.from_residual.result _ c.from_residual.ensures.1)) (out-stop c.count-k.ensures t c.requires.fit c.in_err-n.ensures)

pub returns-then-places-k-clause-open : goal.returns-then-places-k-clause-open
returns-then-places-k-clause-open c =
    let a = c.args in
    let t = nodes_of (as_tables a.tables.now) in
    let fresh = entered (length a.bytes.now) t.work c.enter.new.work a.st.spans a.source (level_of a.kind) c.count-k.result c.in-Fresh.is c.in_ok-n.ensures in
    out-full c.count-k.ensures t c.requires.fit fresh (omega (arith, c.places_of-places.ensures, c.if-places-k.true))

pub overflow_add-result : goal.overflow_add-result
overflow_add-result c =
    let a = c.args in
    let t = nodes_of (as_tables a.tables.now) in
    let fresh = entered (length a.bytes.now) t.work c.enter.new.work a.st.spans a.source (level_of a.kind) c.count-k.result c.in-Fresh.is c.in_ok-n.ensures in
    record { fits = omega (arith, fresh-whole a.st fresh, c.requires.short, c.mask.ensures.most) }

pub grown-requires : goal.grown-requires
grown-requires c = count_small c.requires.fit c.requires.short

pub returns-in-Again-clause-open : goal.returns-in-Again-clause-open
returns-in-Again-clause-open c =
    let a = c.args in
    let t = nodes_of (as_tables a.tables.now) in
    let again = entered (length a.bytes.now) t.work c.enter.new.work a.st.spans a.source (level_of a.kind) c.count-k.result c.in-Again.is c.in_ok-n.ensures in
    out-again c.count-k.ensures t c.requires.fit again

pub returns-else-places-k-clause-open : goal.returns-else-places-k-clause-open
returns-else-places-k-clause-open c =
    let a = c.args in
    let t = nodes_of (as_tables a.tables.now) in
    let fresh = entered (length a.bytes.now) t.work c.enter.new.work a.st.spans a.source (level_of a.kind) c.count-k.result c.in-Fresh.is c.in_ok-n.ensures in
    let n = number_small (count_small c.requires.fit c.requires.short) (level_of a.kind) in
    out-new c.count-k.ensures t c.requires.fit fresh (omega (arith, n, c.count-k.ensures))
    (omega (arith, c.places_of-places.ensures, c.if-places-k.false)) (ap (λ (m : ℕ). a.source + m) c.mask.ensures.is) c.entries-entries.ensures c.grown.ensures
