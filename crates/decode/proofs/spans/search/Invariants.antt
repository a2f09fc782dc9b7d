-- No node past v in the chain passes the test, whatever test it is that the closure makes.
use Rattle.std.proofs.Common.{◌≡◌, ◌≤◌, ℕ, Bool, ◌+◌, ◌*◌}
use Rattle.std.specs.Prelude.{get_or}
use Rattle.decode.proofs.spans.Laws.{Walk}
use Rattle.decode.proofs.spans.search.Given as goal

abbrev pub invariant-loop-v : goal.invariant-loop-v
invariant-loop-v g l =
    record {
      below : l.v ≤ l.count;
      walk : (test : ℕ → Bool)
          → ((i : ℕ) (b : Bool) → g.F.Fn.post l.passes (get_or l.work (i * 4) 0, (get_or l.work (i * 4 + 1) 0, tt)) b → b ≡ test i)
          → Walk l.work l.count l.h test l.v;
    }

abbrev pub decreases-loop-v : goal.decreases-loop-v
decreases-loop-v g l = l.v
