-- The heads below h are 0.
use Rattle.std.proofs.Common.{◌≡◌, ℕ, ◌<◌, length}
use Rattle.decode.specs.Inner.WorkTable.{chain_head}
use Rattle.decode.proofs.spans.clear.Given as goal

abbrev pub invariant-loop-h : goal.invariant-loop-h
invariant-loop-h l = (length l.work ≡ length l.initial.work) × ((j : ℕ) → j < l.h → chain_head l.work j ≡ 0)
