-- The ways out of `read_tree`: three tests, the root, the places of its tiles, the tiles, the counts, and the tree. Assumes nothing.
use Rattle.std.proofs.Common.{sym, subst}
use Rattle.std.specs.Prelude.{Ok, Err}
use Rattle.refusals.proofs.Exits.{exit_is}
use Rattle.decode.specs.Record.{as_tables}
use Rattle.decode.specs.Inner.Filled.{nodes_of, with_work}
use Rattle.decode.specs.Inner.Rooted.{roots_of}
use Rattle.decode.specs.Inner.TreeRead.{TreeOut}
use Rattle.decode.proofs.tree.Answers.{Tiled, asks, tree-fit, out-short, out-spanless, out-past, out-root, out-many, out-tiles, out-counts, out-read}
use Rattle.decode.proofs.tree.read_tree.Goals as goal

pub returns-then-n-lt736-clause-tree : goal.returns-then-n-lt736-clause-tree
returns-then-n-lt736-clause-tree c = out-short _ c.if-n-lt736.true

pub returns-then-tables-lt4-clause-tree : goal.returns-then-tables-lt4-clause-tree
returns-then-tables-lt4-clause-tree c = out-spanless _ c.if-n-lt736.false c.if-tables-lt4.true

pub returns-then-n-offset-clause-tree : goal.returns-then-n-offset-clause-tree
returns-then-n-offset-clause-tree c = out-past _ c.if-n-lt736.false c.if-tables-lt4.false c.at-offset.ensures c.if-n-offset.true

pub returns-in_err-spans-clause-tree : goal.returns-in_err-spans-clause-tree
returns-in_err-spans-clause-tree c =
    let a = c.args in
    let t = nodes_of (as_tables a.tables.now) in
    let q = roots_of (as_tables a.tables.now) in
    let asked = asks t c.begin.new.work (Err _) c.if-n-lt736.false c.if-tables-lt4.false c.at-offset.ensures c.if-n-offset.false
    c.at-count.ensures c.in_err-spans.ensures in
    subst (TreeOut a.bytes.now t q (with_work t c.begin.new.work) q) (sym (exit_is c.from_residual.result _ c.from_residual.ensures.1)) (out-root asked)

pub returns-then-tables-count-clause-tree : goal.returns-then-tables-count-clause-tree
returns-then-tables-count-clause-tree c =
    let t = nodes_of (as_tables c.args.tables.now) in
    let asked = asks t c.begin.new.work (Ok c.in_ok-spans.spans) c.if-n-lt736.false c.if-tables-lt4.false c.at-offset.ensures c.if-n-offset.false
    c.at-count.ensures c.in_ok-spans.ensures in
    out-many asked c.if-tables-count.true

pub tiles-requires-clause-fit : goal.tiles-requires-clause-fit
tiles-requires-clause-fit c =
    let t = nodes_of (as_tables c.args.tables.now) in
    let asked = asks t c.begin.new.work (Ok c.in_ok-spans.spans) c.if-n-lt736.false c.if-tables-lt4.false c.at-offset.ensures c.if-n-offset.false
    c.at-count.ensures c.in_ok-spans.ensures in
    tree-fit asked c.requires.paired.upper c.requires.paired.lower

pub returns-in_err-nodes-clause-tree : goal.returns-in_err-nodes-clause-tree
returns-in_err-nodes-clause-tree c =
    let a = c.args in
    let t = nodes_of (as_tables a.tables.now) in
    let q = roots_of (as_tables a.tables.now) in
    let asked = asks t c.begin.new.work (Ok c.in_ok-spans.spans) c.if-n-lt736.false c.if-tables-lt4.false c.at-offset.ensures c.if-n-offset.false
    c.at-count.ensures c.in_ok-spans.ensures in
    let u = as_tables c.tiles.new.tables in
    let tiled : Tiled a.bytes.now t q c.at-offset.result c.at-count.result (nodes_of u) (roots_of u) (Err _) =
    record { words = c.begin.new.work; spans = c.in_ok-spans.spans; asked = asked; few = c.if-tables-count.false; out = c.in_err-nodes.ensures.tiles } in
    subst (TreeOut a.bytes.now t q (nodes_of u) (roots_of u)) (sym (exit_is c.from_residual-in_err-nodes.result _ c.from_residual-in_err-nodes.ensures.1))
    (out-tiles tiled)

pub returns-then-not-counts_pass-clause-tree : goal.returns-then-not-counts_pass-clause-tree
returns-then-not-counts_pass-clause-tree c =
    let a = c.args in
    let t = nodes_of (as_tables a.tables.now) in
    let q = roots_of (as_tables a.tables.now) in
    let asked = asks t c.begin.new.work (Ok c.in_ok-spans.spans) c.if-n-lt736.false c.if-tables-lt4.false c.at-offset.ensures c.if-n-offset.false
    c.at-count.ensures c.in_ok-spans.ensures in
    let u = as_tables c.tiles.new.tables in
    let tiled : Tiled a.bytes.now t q c.at-offset.result c.at-count.result (nodes_of u) (roots_of u) (Ok c.in_ok-nodes.nodes) =
    record { words = c.begin.new.work; spans = c.in_ok-spans.spans; asked = asked; few = c.if-tables-count.false; out = c.in_ok-nodes.ensures.tiles } in
    out-counts tiled c.counts_pass.ensures c.if-not-counts_pass.true

pub returns-clause-tree : goal.returns-clause-tree
returns-clause-tree c =
    let a = c.args in
    let t = nodes_of (as_tables a.tables.now) in
    let q = roots_of (as_tables a.tables.now) in
    let asked = asks t c.begin.new.work (Ok c.in_ok-spans.spans) c.if-n-lt736.false c.if-tables-lt4.false c.at-offset.ensures c.if-n-offset.false
    c.at-count.ensures c.in_ok-spans.ensures in
    let u = as_tables c.tiles.new.tables in
    let tiled : Tiled a.bytes.now t q c.at-offset.result c.at-count.result (nodes_of u) (roots_of u) (Ok c.in_ok-nodes.nodes) =
    record { words = c.begin.new.work; spans = c.in_ok-spans.spans; asked = asked; few = c.if-tables-count.false; out = c.in_ok-nodes.ensures.tiles } in
    out-read tiled c.counts_pass.ensures c.if-not-counts_pass.false
