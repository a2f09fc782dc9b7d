-- `entry` and `at` are the places of the next entry and body.
use Rattle.std.proofs.Common.{◌≡◌}
use Rattle.contents.specs.Segments.{entry_at, body_at}
use Rattle.contents.proofs.segment.Segment.nth.Given as goal

abbrev pub invariant-loop : goal.invariant-loop
invariant-loop l = record {
  entry : l.entry ≡ entry_at l.fn.self.header.file.now l.fn.self.header.at l.counter;
  place : l.at ≡ body_at l.fn.self.header.file.now l.fn.self.header.at l.counter;
}
