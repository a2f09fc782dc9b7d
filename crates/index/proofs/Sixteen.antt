-- What is a value, or refused by 16 and by nothing else. Assumes nothing.
use Rattle.std.specs.Prelude.{◌≡◌, refl, ◌⊎◌, Bool, true, false, ◌&&◌, ℤ, pos, negsuc, Float}
use Rattle.std.proofs.Common.{ap, inl, inr}
use Rattle.std.specs.Float.{binary64}
use Rattle.std.specs.Float.Ieee.{le, of_int, to_signed}
use Rattle.std.specs.Float.Ieee.Scale.{finite}
use Rattle.refusals.specs.Results.{Result, ok, refused, number_of, bind, need}
use Rattle.refusals.specs.ResultLaws.{stopped}
use Rattle.float.specs.Coordinate.{coordinate}

abbrev pub Only : {A : Type 0} → Result A → Type 0
Only {A = A} r = ((a : A) × (r ≡ ok a)) ⊎ (r ≡ refused 16)

only_need : {A : Type 0} (t : Bool) (a : A) → Only (need t 16 (ok a))
only_need true a = inl (a, refl)
only_need false a = inr refl

pub only_bind : {A B : Type 0} (r : Result A) (f : A → Result B) → Only r → ((a : A) → Only (f a)) → Only (bind r f)
only_bind (ok a) f h g = g a
only_bind (refused n) f (inl (a, e)) g = absurd (stopped e)
only_bind (refused n) f (inr e) g = inr (ap refused (ap number_of e))

pub only_coordinate : (v : Float) → Only (coordinate v)
unfolding coordinate
only_coordinate v = only_need (finite v && le (of_int binary64 (negsuc 2147483647)) v && le v (of_int binary64 (pos 2147483647))) (to_signed 31 v)

-- two coordinates, one after the other
pub only_two : {A : Type 0} (v w : Float) (make : ℤ → ℤ → A) → Only (bind (coordinate v) (λ (l : ℤ). bind (coordinate w) (λ (h : ℤ). ok (make l h))))
only_two {A} v w make =
    only_bind (coordinate v) (λ (l : ℤ). bind (coordinate w) (λ (h : ℤ). ok (make l h))) (only_coordinate v)
    (λ l. only_bind (coordinate w) (λ (h : ℤ). ok (make l h)) (only_coordinate w) (λ h. inl (make l h, refl)))
