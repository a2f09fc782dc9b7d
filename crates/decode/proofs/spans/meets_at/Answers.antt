-- The stretches from the first that can reach the bytes to the last, each by its chain.
use Rattle.std.proofs.Common.{rules, ℕ, ◌-◌, ◌/◌, ◌<◌, sym, ◌∙◌, arith}
use Rattle.decode.specs.Inner.Kinds.{level_of}
use Rattle.decode.specs.Inner.WorkTable.{over, node_start, node_level}
use Rattle.decode.proofs.spans.Laws.{some_met, none_met, from_start, from_next, from_end, size_pos}
use Rattle.decode.proofs.spans.meets_at.Goals as goal

pub loop-q-init : goal.loop-q-init
loop-q-init c =
    let a = c.args in
    let l = level_of a.kind in
    rw (c.first-q.ensures, c.size-size.ensures.is) (from_start a.work.now a.count l a.start a.end (size_pos l))

pub loop-q-preserved : goal.loop-q-preserved
unfolding over node_start node_level
loop-q-preserved c =
    let a = c.args in
    let l = level_of a.kind in
    let found = c.search-met.ensures.found (λ (i : ℕ). over a.work.now i a.start a.end) (λ i b post. search rules) in
    from_next a.work.now a.count l a.start a.end (size_pos l) c.loop-q.q c.chain-h.ensures.0
    (none_met a.work.now a.count c.chain-h.result a.start a.end c.search-met.result (sym c.is_some.ensures ∙ c.if-is_some.false) found) c.loop-q.invariant

pub returns-then-is_some : goal.returns-then-is_some
unfolding over node_start node_level
returns-then-is_some c =
    let a = c.args in
    let found = c.search-met.ensures.found (λ (i : ℕ). over a.work.now i a.start a.end) (λ i b post. search rules) in
    some_met a.work.now a.count c.chain-h.result a.start a.end c.search-met.result (sym c.is_some.ensures ∙ c.if-is_some.true) found

pub returns : goal.returns
returns c =
    let a = c.args in
    let l = level_of a.kind in
    let past : (a.end - 1) / c.size-size.result < c.loop-q.q = omega arith in
    from_end a.work.now a.count l a.start a.end (size_pos l) c.loop-q.q (rw c.size-size.ensures.is at past) c.loop-q.invariant
