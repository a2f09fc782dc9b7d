-- What the walk of one chain finds is the first of the list.
use Rattle.std.proofs.Common.{rules, ℕ, ◌≡◌, sym, subst, arith}
use Rattle.std.specs.Prelude.{Option}
use Rattle.nanovdb.specs.Spans.{seen}
use Rattle.decode.specs.Inner.Kinds.{level_of}
use Rattle.decode.specs.Inner.WorkTable.{spans, hits, node_start, node_level, node_number, seen_of, Small}
use Rattle.decode.proofs.kinds.Laws.{three}
use Rattle.decode.proofs.spans.Laws.{seen_at, seen_no}
use Rattle.decode.proofs.spans.find.Goals as goal

pub returns-in_err-j : goal.returns-in_err-j
unfolding hits node_start node_level
returns-in_err-j c =
    let a = c.args in
    let s = a.st in
    let e = c.level-level.ensures in
    let none = c.in_err-j.ensures.found (λ (i : ℕ). hits a.work.now i a.start (level_of a.kind)) (λ i b post. search rules) in
    subst (λ (r : Option ℕ). (seen_of r ≡ seen (spans a.work.now s.count s.root s.limit) a.start (level_of a.kind)) × Small r)
    (sym c.from_residual.ensures)
    (seen_no a.start c.requires s.root s.limit (three a.kind) (rw (← c.size.ensures.is) c.chain-h.ensures.0) none, tt)

pub overflow_cast-result : goal.overflow_cast-result
unfolding node_number
overflow_cast-result c = let n = c.requires.number c.in_ok-j.j c.in_ok-j.ensures.place in record { fits = omega (arith, n) }

pub returns : goal.returns
unfolding hits node_start node_level node_number
returns c =
    let a = c.args in
    let e = c.level-level.ensures in
    let (low, hit) = c.in_ok-j.ensures.found (λ (i : ℕ). hits a.work.now i a.start (level_of a.kind)) (λ i b post. search rules) in
    (seen_at a.start c.requires a.st.root a.st.limit (three a.kind) c.in_ok-j.j low hit, c.requires.number c.in_ok-j.j low)
