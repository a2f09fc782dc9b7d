-- A list whose figures must all pass one test, gone through to its end: `sound` says whether those before place i pass. Assumes nothing.
use mathlib.Core.Path.{◌≡◌, refl, sym, ap, ◌∙◌}
use mathlib.Core.Bool.{Bool, true, false, ◌&&◌}
use mathlib.Core.List.{List}
use Prim.Native.Nat.{ℕ, suc, ◌+◌, ◌≤◌, ◌<◌}
use native.Mathlib.Numerals.{add-one}
use native.Mathlib.Omega.{arith}
use lib.ListN.{length, get_or, drop, drop_of_length-le}
use lib.Seq.{drop-cons}
use lib.Ieee.{Float, nan}
use Rattle.figures.specs.Figures.{every}

pub record Tested (l : List Float) (p : Float → Bool) (sound : Bool) (i : ℕ) : Type 0 where
  pub inside : i ≤ length l
  pub whole : (sound && every p (drop i l)) ≡ every p l

module _ {l : List Float} {p : Float → Bool} where
  pub begun : Tested l p true 0
  begun = record { inside = omega arith; whole = refl }

  -- place i, of whose figure t says whether it passes
  pub turned : {i : ℕ} {s t : Bool} → Tested l p s i → i < length l → t ≡ p (get_or l i nan) → Tested l p (s && t) (i + 1)
  unfolding every
  turned {i} {s} {t} tested within here = record {
    inside = omega arith;
    whole =
        joined s t (every p (drop (i + 1) l))
        ∙ ap (λ (k : ℕ). s && (t && every p (drop k l))) (add-one i)
        ∙ ap (λ (u : Bool). s && (u && every p (drop (suc i) l))) here
        ∙ ap (λ (k : List Float). s && every p k) (sym (drop-cons l i nan within))
        ∙ tested.whole;
  }
    where
      joined : (a b c : Bool) → ((a && b) && c) ≡ (a && (b && c))
      joined true b c = refl
      joined false b c = refl

  pub ended : {i : ℕ} {s : Bool} → Tested l p s i → length l ≤ i → s ≡ every p l
  unfolding every
  ended {i} {s} tested h = all s ∙ ap (λ (k : List Float). s && every p k) (sym (drop_of_length-le l h)) ∙ tested.whole
    where
      all : (b : Bool) → b ≡ (b && true)
      all true = refl
      all false = refl
