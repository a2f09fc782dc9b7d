-- A part that was located is inside the file. Assumes nothing.
use mathlib.Core.Path.{◌≡◌, sym}
use mathlib.Core.List.{List}
use Prim.Native.Nat.{ℕ, ◌+◌, ◌≤◌}
use lib.ListN.{length}
use Rattle.std.specs.Prelude.{Ok, Err, IfOk, Result as Answer}
use Rattle.refusals.specs.declared.Refusal.{Refusal}
use Rattle.contents.specs.Contents.{pick, pick_name}
use Rattle.contents.specs.Answers.{span_said}
use Rattle.contents.proofs.ContentsLaws.{pick_inside, pick_name_inside}
use Rattle.contents.specs.declared.Span.{Span}

module _ (b : List ℕ) (n : ℕ) where
  pub grid_fits : (r : Answer Span Refusal) → span_said r ≡ pick b n → IfOk r (λ p. p.start + p.length ≤ length b)
  grid_fits (Ok p) e = (pick_inside b n (sym e)).0
  grid_fits (Err e) h = tt

  pub name_fits : (r : Answer Span Refusal) → span_said r ≡ pick_name b n → IfOk r (λ p. p.start + p.length ≤ length b)
  name_fits (Ok p) e = (pick_name_inside b n (sym e)).0
  name_fits (Err e) h = tt
