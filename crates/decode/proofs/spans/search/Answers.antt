-- The walk of the chain: a node that passes is answered, and past the last there is none.
use Rattle.std.proofs.Common.{◌-◌, ◌<◌, sym, ◌∙◌, arith}
use Rattle.decode.specs.Inner.WorkTable.{chain_head, chain_link}
use Rattle.decode.proofs.spans.Laws.{walk_start, walk_next, search_here, search_none}
use Rattle.decode.proofs.spans.search.Goals as goal

pub loop-v-init : goal.loop-v-init
unfolding chain_head
loop-v-init g c = let r = c.requires in record { below = (r.rep.head _ r.chain).below; walk = λ test same. walk_start r.rep r.chain }

pub loop-v-smaller : goal.loop-v-smaller
unfolding chain_link
loop-v-smaller g c =
    let low : c.loop-v.v - 1 < c.args.count = omega (arith, c.loop-v.invariant.below) in
    omega (arith, (c.requires.rep.link (c.loop-v.v - 1) low).below)

pub loop-v-preserved : goal.loop-v-preserved
unfolding chain_link
loop-v-preserved g c =
    let low : c.loop-v.v - 1 < c.args.count = omega (arith, c.loop-v.invariant.below) in
    record {
      below = omega (arith, (c.requires.rep.link (c.loop-v.v - 1) low).below);
      walk = λ test same. walk_next c.requires.rep c.loop-v-test.true (c.loop-v.invariant.walk test same)
          (sym (same (c.loop-v.v - 1) _ c.passes.ensures) ∙ c.if-passes.false);
    }

pub returns-then-passes-clause-found : goal.returns-then-passes-clause-found
returns-then-passes-clause-found g c = λ test same. search_here (c.loop-v.invariant.walk test same) c.loop-v-test.true
    (sym (same (c.loop-v.v - 1) _ c.passes.ensures) ∙ c.if-passes.true)

pub returns-clause-found : goal.returns-clause-found
returns-clause-found g c = λ test same. search_none (c.loop-v.invariant.walk test same) c.loop-v-test.false
