use Rattle.std.proofs.Common.{◌≡◌, List, ℕ, sym, ap, ◌∙◌, arith}
use Rattle.std.proofs.lemmas.Result.{err_from_is_err_and}
use Rattle.refusals.specs.Results.{refused}
use Rattle.contents.specs.Segments.{count, segment_end}
use Rattle.contents.proofs.SegmentLaws.{body_above}
use Rattle.refusals.proofs.Exits.{number_some}
use Rattle.contents.specs.Inner.{grid_said}
use Rattle.contents.proofs.Files.{or_none, answer_from, empty_file, from_start, at_end, stopped_at, gone_past, stays}
use Rattle.contents.specs.declared.segment.Segment.{Segment}
use Rattle.contents.proofs.locate.Goals as goal

pub returns-then-is_empty : goal.returns-then-is_empty
returns-then-is_empty c = sym (empty_file c.args.file.now c.args.n (grind arith))

pub loop-at-init : goal.loop-at-init
loop-at-init c = from_start c.args.file.now c.args.n (grind arith)

pub returns-in_err-segment : goal.returns-in_err-segment
returns-in_err-segment c =
    let b = c.args.file.now in
    let p = err_from_is_err_and c.from_residual.result c.from_residual.ensures.1 in
    let fault = c.in_err-segment.ensures.fault in
    let stop = stopped_at b c.loop-at.at c.loop-at-test.true c.loop-at.found (λ z. number_some c.in_err-segment.field-0.0 (fault ∙ z)) in
    rw (p.1, p.2) (ap refused fault ∙ sym (c.loop-at.invariant ∙ stop))

-- the segment that was read is the one at `at`
ends : (b : List ℕ) (at : ℕ) (s : Segment) → (s.header.file.now ≡ b) × (s.header.at ≡ at) → s.end ≡ segment_end b at
ends b at s same = s.ends ∙ (λ j. segment_end (same.0 j) (same.1 j))

pub loop-at-smaller-in-Err : goal.loop-at-smaller-in-Err
loop-at-smaller-in-Err c =
    let b = c.args.file.now in
    omega (arith, ends b c.loop-at.at c.in_ok-segment.segment c.in_ok-segment.ensures.same, body_above b c.loop-at.at (count b c.loop-at.at))

pub loop-at-preserved-in-Err : goal.loop-at-preserved-in-Err
loop-at-preserved-in-Err c =
    let b = c.args.file.now in
    let s = c.in_ok-segment.segment in
    let same = c.in_ok-segment.ensures.same in
    c.loop-at.invariant ∙ ap (answer_from b c.loop-at.at) c.in-Err.is
    ∙ gone_past b c.loop-at.at c.loop-at-test.true c.in-Err.left c.nth-found.result (sym c.in_ok-segment.ensures.fault)
    (rw (← same.0, ← same.1) c.nth-found.ensures)
    ∙ ap (λ (e : ℕ). answer_from b e c.nth-found.result) (sym (ends b c.loop-at.at s same))

pub loop-at-smaller : goal.loop-at-smaller
loop-at-smaller c =
    let b = c.args.file.now in
    omega (arith, ends b c.loop-at.at c.in_ok-segment.segment c.in_ok-segment.ensures.same, body_above b c.loop-at.at (count b c.loop-at.at))

pub loop-at-preserved : goal.loop-at-preserved
loop-at-preserved c =
    let b = c.args.file.now in
    let end = ends b c.loop-at.at c.in_ok-segment.segment c.in_ok-segment.ensures.same in
    let found = c.in_default.is in
    c.loop-at.invariant ∙ ap (answer_from b c.loop-at.at) found
    ∙ stays b c.loop-at.at c.loop-at-test.true c.in_default.field-0 (sym c.in_ok-segment.ensures.fault)
    ∙ (λ j. answer_from b (sym end j) (sym found j))

pub returns : goal.returns
returns c =
    let end = c.loop-at.invariant ∙ at_end c.args.file.now c.loop-at.at c.loop-at.found c.loop-at-test.false in
    ap grid_said c.or.ensures ∙ or_none c.loop-at.found ∙ sym end
