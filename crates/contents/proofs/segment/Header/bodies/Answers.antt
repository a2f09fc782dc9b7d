use Rattle.std.proofs.Common.{◌≡◌, ◌≤◌, Bool, List, ℕ, length, sym, ap, ◌∙◌, subst, arith}
use Rattle.refusals.proofs.FaultSteps.{first_fault_none}
use Rattle.contents.specs.Segments.{count, size, entry_end, body_passes, entry_at, body_at, body_fault}
use Rattle.contents.proofs.SegmentLaws.{entry_first, entry_next, entry_inside, body_next}
use Rattle.contents.proofs.Steps.{row_goes, row_stops}
use Rattle.contents.proofs.segment.Header.bodies.Goals as goal

abbrev passes : List ℕ → ℕ → ℕ → Bool
passes b s k = body_passes (length b) (body_at b s k) (size b (entry_at b s k))

-- what the code tests is body i
tested : (b : List ℕ) (s i : ℕ) {entry at long : ℕ} {r t : Bool} → entry ≡ entry_at b s i → at ≡ body_at b s i → long ≡ size b entry
    → r ≡ body_passes (length b) at long → r ≡ t → passes b s i ≡ t
tested b s i {entry} {at} {long} p q e h k =
    let whole : long ≡ size b (entry_at b s i) = e ∙ ap (size b) p in
    sym (h ∙ (λ j. body_passes (length b) (q j) (whole j))) ∙ k

pub loop-init : goal.loop-init
loop-init c = record {
  entry = sym (entry_first c.args.self.now.file.now c.args.self.now.at);
  place = c.requires.begins;
  passed = first_fault_none (body_fault c.args.self.now.file.now c.args.self.now.at);
}

pub returns-then-not-body_passes-clause-fault : goal.returns-then-not-body_passes-clause-fault
returns-then-not-body_passes-clause-fault c =
    let b = c.args.self.now.file.now in
    let s = c.args.self.now.at in
    let at = c.loop.invariant in
    row_stops (passes b s) c.loop.counter at.passed (count b s) (omega arith)
    (tested b s c.loop.counter at.entry at.place c.size_at-size.ensures c.body_passes.ensures c.if-not-body_passes.true)

pub entry_end-entry-requires : goal.entry_end-entry-requires
entry_end-entry-requires c =
    let b = c.args.self.now.file.now in
    subst (λ (e : ℕ). entry_end b e ≤ length b) (sym c.loop.invariant.entry)
    (entry_inside b c.args.self.now.at c.requires.named c.loop.counter (omega arith))

pub loop-preserved : goal.loop-preserved
loop-preserved c =
    let b = c.args.self.now.file.now in
    let s = c.args.self.now.at in
    let at = c.loop.invariant in
    record {
      entry = c.entry_end-entry.ensures ∙ ap (entry_end b) at.entry ∙ sym (entry_next b s c.loop.counter);
      place = omega (arith, ap (size b) at.entry, body_next b s c.loop.counter);
      passed = row_goes (passes b s) c.loop.counter at.passed
          (tested b s c.loop.counter at.entry at.place c.size_at-size.ensures c.body_passes.ensures c.if-not-body_passes.false);
    }
