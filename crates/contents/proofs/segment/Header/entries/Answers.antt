use Rattle.std.proofs.Common.{◌≡◌, sym, ap, ◌∙◌, arith}
use Rattle.refusals.proofs.FaultSteps.{first_fault_none}
use Rattle.float.proofs.Tests.{yes}
use Rattle.contents.specs.Segments.{count, entry_end, entry_passes, entry_at, entry_fault}
use Rattle.contents.proofs.SegmentLaws.{entry_first, entry_next, body_first, name_inside}
use Rattle.contents.proofs.Steps.{row_goes, row_stops}
use Rattle.contents.proofs.segment.Header.entries.Goals as goal

pub loop-init : goal.loop-init
loop-init c = record {
  place = sym (entry_first c.args.self.now.file.now c.args.self.now.at);
  passed = first_fault_none (entry_fault c.args.self.now.file.now c.args.self.now.at);
}

pub returns-then-not-entry_passes-clause-fault : goal.returns-then-not-entry_passes-clause-fault
returns-then-not-entry_passes-clause-fault c =
    let b = c.args.self.now.file.now in
    let s = c.args.self.now.at in
    row_stops (λ k. entry_passes b s (entry_at b s k)) c.loop.counter c.loop.invariant.passed (count b s) (omega arith)
    (ap (entry_passes b s) (sym c.loop.invariant.place) ∙ sym c.entry_passes.ensures ∙ c.if-not-entry_passes.true)

pub entry_end-at-requires : goal.entry_end-at-requires
entry_end-at-requires c =
    name_inside c.args.self.now.file.now c.args.self.now.at c.loop.at (yes (sym c.entry_passes.ensures ∙ c.if-not-entry_passes.false))

pub loop-preserved : goal.loop-preserved
loop-preserved c =
    let b = c.args.self.now.file.now in
    let s = c.args.self.now.at in
    record {
      place = c.entry_end-at.ensures ∙ ap (entry_end b) c.loop.invariant.place ∙ sym (entry_next b s c.loop.counter);
      passed = row_goes (λ k. entry_passes b s (entry_at b s k)) c.loop.counter c.loop.invariant.passed
          (ap (entry_passes b s) (sym c.loop.invariant.place) ∙ sym c.entry_passes.ensures ∙ c.if-not-entry_passes.false);
    }

pub returns-clause-end : goal.returns-clause-end
returns-clause-end c =
    let b = c.args.self.now.file.now in
    let s = c.args.self.now.at in
    let all : c.loop.counter ≡ count b s = omega arith in
    c.loop.invariant.place ∙ ap (entry_at b s) all ∙ sym (body_first b s)
