-- The segment has no fault, so that no sum passes the end.
use Rattle.std.proofs.Common.{◌≡◌, ◌+◌, ◌≤◌, ◌<◌, List, ℕ, length, sym, ap, ◌∙◌, subst, arith}
use Rattle.contents.specs.Segments.{part, count, size, name_length, entry_end, entry_at, body_at}
use Rattle.contents.specs.declared.segment.Segment.{Segment}
use Rattle.contents.proofs.SegmentLaws.{Sound, sound, header_inside, entry_first, entry_next, entry_inside, body_next, body_inside}
use Rattle.contents.proofs.Files.{finds}
use Rattle.contents.proofs.segment.Segment.nth.Goals as goal

module _ (s : Segment) where
  abbrev file : List ℕ
  file = s.header.file.now

  abbrev start : ℕ
  start = s.header.at

  passed : Sound file start
  passed = sound file start s.no_fault

  inside : start + 16 ≤ length file
  inside = header_inside file start passed.header

  -- entry and body i are inside
  module _ (i : ℕ) (h : i < count file start) {entry : ℕ} (p : entry ≡ entry_at file start i) where
    entry_fits : entry_end file entry ≤ length file
    entry_fits = subst (λ (k : ℕ). entry_end file k ≤ length file) (sym p) (entry_inside file start passed.entries i h)

    body_fits : {place : ℕ} → place ≡ body_at file start i → place + size file entry ≤ length file
    body_fits q = rw (p, q) (body_inside file start passed.bodies i h)

pub overflow_add-entry : goal.overflow_add-entry
overflow_add-entry c = omega (arith, inside c.args.self.now)

pub loop-init : goal.loop-init
loop-init c = let s = c.args.self.now in record { entry = sym (entry_first (file s) (start s)); place = s.begins }

pub overflow_add-at : goal.overflow_add-at
overflow_add-at c =
    let at = c.loop.invariant in
    omega (arith, body_fits c.args.self.now c.loop.counter (omega arith) at.entry at.place)

pub entry_end-entry-requires : goal.entry_end-entry-requires
entry_end-entry-requires c = entry_fits c.args.self.now c.loop.counter (omega arith) c.loop.invariant.entry

pub loop-preserved : goal.loop-preserved
loop-preserved c =
    let s = c.args.self.now in
    let at = c.loop.invariant in
    record {
      entry = c.entry_end-entry.ensures ∙ ap (entry_end (file s)) at.entry ∙ sym (entry_next (file s) (start s) c.loop.counter);
      place = omega (arith, ap (size (file s)) at.entry, body_next (file s) (start s) c.loop.counter);
    }

pub overflow_add-result : goal.overflow_add-result
overflow_add-result c = omega (arith, entry_fits c.args.self.now c.loop.counter (omega arith) c.loop.invariant.entry)

pub name_length-requires : goal.name_length-requires
name_length-requires c = omega (arith, entry_fits c.args.self.now c.loop.counter (omega arith) c.loop.invariant.entry)

pub returns : goal.returns
returns c =
    let b = file c.args.self.now in
    let s = start c.args.self.now in
    let last : c.loop.counter ≡ c.args.k = omega arith in
    let entry = c.loop.invariant.entry ∙ ap (entry_at b s) last in
    let body = c.loop.invariant.place ∙ ap (body_at b s) last in
    let named = c.name_length.ensures ∙ ap (name_length b) entry in
    let long = c.size_at.ensures ∙ ap (size b) entry in
    finds b s c.args.k _ (omega arith) (λ j. record { name = part (entry j + 176) (named j); body = part (body j) (long j) })
