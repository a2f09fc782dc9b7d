-- `sound` says whether the figures before the index pass.
use Rattle.std.proofs.Common.{◌≡◌, Bool}
use Rattle.std.specs.Prelude.{Float}
use Rattle.figures.proofs.Tested.{Tested}
use Rattle.figures.proofs.all_pass.Given as goal

abbrev pub invariant-loop-v : goal.invariant-loop-v
invariant-loop-v g l = (p : Float → Bool) → ((v : Float) (t : Bool) → g.F.Fn.post l.passes (v, tt) t → t ≡ p v) → Tested l.figures p l.sound l.v-index
