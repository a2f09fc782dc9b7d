-- `entry` and `at` are the places of the next entry and body, and the bodies before pass.
use Rattle.std.proofs.Common.{◌≡◌}
use Rattle.refusals.specs.Faults.{first_fault}
use Rattle.contents.specs.Segments.{entry_at, body_at, body_fault}
use Rattle.contents.proofs.segment.Header.bodies.Given as goal

abbrev pub invariant-loop : goal.invariant-loop
invariant-loop l = record {
  entry : l.entry ≡ entry_at l.self.file.now l.self.at l.counter;
  place : l.at ≡ body_at l.self.file.now l.self.at l.counter;
  passed : first_fault l.counter (body_fault l.self.file.now l.self.at) ≡ 0;
}
