-- `at` is the place of the next entry, and those before it pass.
use Rattle.std.proofs.Common.{◌≡◌}
use Rattle.refusals.specs.Faults.{first_fault}
use Rattle.contents.specs.Segments.{entry_at, entry_fault}
use Rattle.contents.proofs.segment.Header.entries.Given as goal

abbrev pub invariant-loop : goal.invariant-loop
invariant-loop l = record {
  place : l.at ≡ entry_at l.self.file.now l.self.at l.counter;
  passed : first_fault l.counter (entry_fault l.self.file.now l.self.at) ≡ 0;
}
