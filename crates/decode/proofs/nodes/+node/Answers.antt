-- `node`, which calls itself on the kind below: the ways out where the node is new. Assumes nothing.
use Rattle.std.proofs.Common.{rules, refl, sym, ◌∙◌, subst, arith}
use Rattle.refusals.proofs.Exits.{exit_is}
use Rattle.decode.specs.Record.{as_tables}
use Rattle.decode.specs.Inner.Kinds.{level_of}
use Rattle.decode.specs.Inner.Filled.{nodes_of, NodeOut}
use Rattle.decode.proofs.kinds.Laws.{three}
use Rattle.decode.proofs.nodes.Turns.{turn_begins}
use Rattle.decode.proofs.nodes.Tables.{with_values}
use Rattle.decode.proofs.nodes.Answers.{opened, out-leaf, run-to, out-ends, aimed, out-off, out-refused, turn-child, below_out, with_run, kept_of}
use Rattle.decode.proofs.nodes.+node.Goals as goal

pub returns-in_default-clause-node : goal.returns-in_default-clause-node
returns-in_default-clause-node t c =
    let a = c.args in
    let new = opened (level_of a.kind) a.bytes.now a.source (nodes_of (as_tables a.tables.now)) a.st (nodes_of (as_tables c.open.new.tables)) c.in-Fresh.is
    c.in_ok-number.ensures.open in
    out-leaf new (c.in_default.ensures.none refl) c.leaf.ensures

pub loop-kind-init : goal.loop-kind-init
loop-kind-init t c =
    let a = c.args in
    let new = opened (level_of a.kind) a.bytes.now a.source (nodes_of (as_tables a.tables.now)) a.st (nodes_of (as_tables c.open.new.tables)) c.in-Fresh.is
    c.in_ok-number.ensures.open in
    record {
      read = record { node = record { new = new; above = omega (arith, c.in-Some.ensures.some); three = three a.kind }; turn = turn_begins new.fit };
      roots = c.in_ok-number.ensures.roots;
      lengths = c.in_ok-number.ensures.lengths;
      same = c.in_ok-number.ensures.same;
    }

pub returns-then-j-o-clause-node : goal.returns-then-j-o-clause-node
returns-then-j-o-clause-node t c =
    let r = c.loop-kind.invariant.read in
    out-ends r.node (run-to r.node r.turn c.next_child-j.ensures c.tiles_between.ensures) c.if-j-o.true

pub returns-in_err-to-clause-node : goal.returns-in_err-to-clause-node
returns-in_err-to-clause-node t c =
    let a = c.args in
    let l = as_tables c.loop-kind.tables in
    let n = c.tiles_between.new in
    subst (NodeOut (level_of a.kind) a.bytes.now a.source (nodes_of (as_tables a.tables.now)) a.st (with_values (nodes_of l) n.upper_values n.lower_values))
    (sym (exit_is c.from_residual-in_err-to.result _ c.from_residual-in_err-to.ensures.1))
    (out-off (aimed c.loop-kind.invariant.read c.next_child-j.ensures c.tiles_between.ensures c.if-j-o.false c.in_err-to.ensures))

pub returns-in_err-child-clause-node : goal.returns-in_err-child-clause-node
returns-in_err-child-clause-node t c =
    let a = c.args in
    let l = as_tables c.loop-kind.tables in
    let n = c.tiles_between.new in
    let u = nodes_of (as_tables c.node.new.tables) in
    let k = aimed c.loop-kind.invariant.read c.next_child-j.ensures c.tiles_between.ensures c.if-j-o.false c.in_ok-to.ensures in
    let out = below_out a.bytes.now c.in_ok-to.to (with_values (nodes_of l) n.upper_values n.lower_values) c.loop-kind.state u _ c.in-Some.ensures.some
    c.in_err-child.ensures.node in
    subst (NodeOut (level_of a.kind) a.bytes.now a.source (nodes_of (as_tables a.tables.now)) a.st u)
    (sym (exit_is c.from_residual-in_err-child.result _ c.from_residual-in_err-child.ensures.1)) (out-refused k out)

pub loop-kind-preserved : goal.loop-kind-preserved
loop-kind-preserved t c =
    let a = c.args in
    let l = as_tables c.loop-kind.tables in
    let n = c.tiles_between.new in
    let run = with_run l n.upper_values n.lower_values in
    let u = as_tables c.node.new.tables in
    let k = aimed c.loop-kind.invariant.read c.next_child-j.ensures c.tiles_between.ensures c.if-j-o.false c.in_ok-to.ensures in
    let out = below_out a.bytes.now c.in_ok-to.to (nodes_of run) c.loop-kind.state (nodes_of u) _ c.in-Some.ensures.some c.in_ok-child.ensures.node in
    record {
      read = record { node = c.loop-kind.invariant.read.node; turn = turn-child k out (kept_of run u c.in_ok-child.ensures.lengths) c.link.ensures };
      roots = c.in_ok-child.ensures.roots ∙ c.loop-kind.invariant.roots;
      lengths = search rules;
      same = search rules;
    }
