-- What the tests of a list of figures tell of each of them and of its parts. Assumes nothing.
use Rattle.std.specs.Prelude.{◌≡◌, Bool, true, not, List, [], ◌∷◌, ℕ, zero, suc, ◌<◌, T, length, get_or, take, drop, Float}
use Rattle.std.proofs.Common.{not-suc-le-zero, le_of_suc-le-suc}
use Rattle.std.specs.Float.Ieee.{lt}
use Rattle.std.specs.Float.Ieee.Scale.{finite}
use Rattle.std.specs.Float.Ieee.Bits.{is_true}
use Rattle.refusals.specs.TestLaws.{and_l, and_r, and_i}
use Rattle.refusals.specs.Faults.{unless}
use Rattle.refusals.specs.FaultLaws.{then_zero, unless_zero}
use Rattle.float.specs.Zero.{+0}
use Rattle.figures.specs.Figures.{every, figures_fault}

-- each figure of a list that passes does
pub every_at : (p : Float → Bool) (l : List Float) → T (every p l) → (i : ℕ) (d : Float) → i < length l → T (p (get_or l i d))
unfolding every
every_at p [] t i d h = absurd (not-suc-le-zero h)
every_at p (v ∷ l) t zero d h = and_l (p v) (every p l) t
every_at p (v ∷ l) t (suc i) d h = every_at p l (and_r (p v) (every p l) t) i d (le_of_suc-le-suc h)

-- and so do those of a part
pub every_take : (p : Float → Bool) (n : ℕ) (l : List Float) → T (every p l) → T (every p (take n l))
unfolding every
every_take p zero l t = tt
every_take p (suc n) [] t = tt
every_take p (suc n) (v ∷ l) t = and_i (p v) (every p (take n l)) (and_l (p v) (every p l) t) (every_take p n l (and_r (p v) (every p l) t))

pub every_drop : (p : Float → Bool) (n : ℕ) (l : List Float) → T (every p l) → T (every p (drop n l))
unfolding every
every_drop p zero l t = t
every_drop p (suc n) [] t = tt
every_drop p (suc n) (v ∷ l) t = every_drop p n l (and_r (p v) (every p l) t)

-- figures without a fault: each is finite, and none is below zero
pub record Sound (l : List Float) : Type 0 where
  pub real : every finite l ≡ true
  pub dense : every (λ v. not (lt v +0)) l ≡ true

pub sound : (l : List Float) → figures_fault l ≡ 0 → Sound l
unfolding figures_fault
sound l e =
    let dense : Float → Bool = λ v. not (lt v +0) in
    let faults = then_zero (unless (every finite l) 12) (unless (every dense l) 15) e in
    record {
      real = is_true (every finite l) (unless_zero (every finite l) 11 faults.0);
      dense = is_true (every dense l) (unless_zero (every dense l) 14 faults.1);
    }
