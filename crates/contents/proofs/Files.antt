-- The search through the file's segments, one after the other: what is left to be found from a place on. Assumes nothing.
use mathlib.Core.Path.{◌≡◌, refl, sym, ap}
use mathlib.Core.List.{List}
use Prim.Native.Nat.{ℕ, ◌-◌, ◌≤◌, ◌<◌}
use native.Mathlib.Omega.{arith}
use lib.ListN.{length}
use borrow.Author.Tests.{lt-ltb, le-ltb}
use Rattle.refusals.specs.Results.{Result, ok, refused}
use Rattle.refusals.specs.Faults.{◌then◌, passing}
use Rattle.refusals.proofs.FaultSteps.{then_next, then_stop, passing_stop}
use Rattle.contents.specs.Segments.{Grid, count, grid_at, segment_end, segment_fault}
use Rattle.contents.specs.Contents.{segments_from, segments_fault, grid_of, file_fault, located}
use Rattle.contents.proofs.ContentsLaws.{segments_end, segments_step}
use Rattle.std.specs.Prelude.{Ok, Err, Result as Answer}
use Rattle.contents.specs.declared.Grid as Code
use Rattle.std.specs.Result.{result_or}
use Rattle.refusals.specs.declared.Refusal.{Refusal}
use Rattle.refusals.specs.declared.Refusal.TheVariants.{NoGrid}
use Rattle.contents.specs.Inner.{as_grid, grid_said, answer_of, or_in, Passed}

-- what the segments from `at` on make of the search s
abbrev pub answer_from : List ℕ → ℕ → Answer Code.Grid ℕ → Result Grid
answer_from b at s = passing (segments_fault b (segments_from b at)) (answer_of (grid_of b (segments_from b at)) s)

-- a search that ends without a grid
pub or_none : (s : Answer Code.Grid ℕ) → grid_said (result_or {D = Refusal} s (Err NoGrid)) ≡ answer_of (λ (n : ℕ). refused 21) s
or_none (Ok g) = refl
or_none (Err k) = refl

module _ (b : List ℕ) where
  pub empty_file : (n : ℕ) → length b ≡ 0 → located b n ≡ refused 19
  unfolding located file_fault
  empty_file n e = rw (le-ltb 0 (length b) (omega arith))

  pub from_start : (n : ℕ) → 0 < length b → located b n ≡ answer_from b 0 (Err n)
  unfolding located file_fault
  from_start n h = rw (lt-ltb 0 (length b) h)

  -- no segment is left
  pub at_end : (at : ℕ) (s : Answer Code.Grid ℕ) → length b ≤ at → answer_from b at s ≡ answer_of (λ (n : ℕ). refused 21) s
  unfolding segments_fault grid_of
  at_end at s h = rw (segments_end b at h)

  module _ (at : ℕ) (inside : at < length b) where
    faults_step : segments_fault b (segments_from b at) ≡ (segment_fault b at then segments_fault b (segments_from b (segment_end b at)))
    unfolding segments_fault
    faults_step = rw (segments_step b at inside)

    grids_step : grid_of b (segments_from b at) ≡ or_in b at (grid_of b (segments_from b (segment_end b at)))
    unfolding grid_of
    grids_step = rw (segments_step b at inside)

    -- the segment has a fault
    pub stopped_at : (s : Answer Code.Grid ℕ) → (segment_fault b at ≡ 0 → ⊥) → answer_from b at s ≡ refused (segment_fault b at)
    stopped_at s z = rw (faults_step, then_stop (segment_fault b at) _ z) (passing_stop (segment_fault b at) _ z)

    -- the segment has none, and the search goes past it
    pub gone_past : (k : ℕ) (t : Answer Code.Grid ℕ) → segment_fault b at ≡ 0 → Passed b at k t → answer_from b at (Err k) ≡ answer_from b (segment_end b at) t
    gone_past k t z p = rw (faults_step, then_next (segment_fault b at) _ z, grids_step, p.same (grid_of b (segments_from b (segment_end b at))))

    -- what was found stays so
    pub stays : (g : Code.Grid) → segment_fault b at ≡ 0 → answer_from b at (Ok g) ≡ answer_from b (segment_end b at) (Ok g)
    stays g z = rw (faults_step, then_next (segment_fault b at) _ z)

-- ---- how a search goes past the segment at `at`

module _ (b : List ℕ) (at k : ℕ) where
  pub finds : (g : Code.Grid) → k < count b at → as_grid g ≡ grid_at b at k → Passed b at k (Ok g)
  finds g h e = record { same = λ rest. rw (lt-ltb k (count b at) h) (ap ok (sym e)) }

  pub passes_by : (n : ℕ) → n ≡ count b at → n ≤ k → Passed b at k (Err (k - n))
  passes_by n e h = record { same = λ rest. rw (e, le-ltb k (count b at) (omega arith)) }
