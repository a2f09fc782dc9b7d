-- What the loop over a list of boxes keeps, and what `box_maxima` answers from the fault before the boxes. Assumes nothing.
use Rattle.std.proofs.Common.{◌≡◌, ℕ, ◌+◌, ◌*◌, ◌<◌, ◌==◌, List, [], ◌∷◌, ◌++◌, length, take, set, replicate, ℤ, sym, refl, ap, ◌∙◌, le_of_eq, add-one, eqb→eq, take_all, take-suc-set}
use lib.Ieee.{Float}
use Rattle.refusals.specs.Results.{Result, ok, refused, bind, value_or}
use Rattle.refusals.specs.Faults.{◌then◌, unless, passing}
use Rattle.refusals.specs.FaultLaws.{then_zero, unless_zero}
use Rattle.float.specs.Zero.{+0}
use Rattle.sparse_grid.specs.Tables.{Grid}
use Rattle.sparse_grid.specs.Validate.{validate}
use Rattle.sparse_grid.specs.Lookup.{read_in}
use Rattle.boxes.specs.Boxes.{Box, greater, box_maximum}
use Rattle.majorant.specs.Maxima.{box_at, maxima_of, maxima_into, greatest_from, greatest_of, greatest_into}
use Rattle.majorant.proofs.MaximaLaws.{greatest_more}
use Rattle.refusals.proofs.FaultSteps.{passing_stop, passing_on}

-- ---- the loop: the first i places hold the maxima of the first i boxes, and m is the greatest of them
pub record Listed (maximum : Box → Float) (boxes : List ℤ) (t : List Float) (m : Float) (i : ℕ) : Type 0 where
  pub held : take i t ≡ maxima_of maximum boxes i
  pub greatest : m ≡ greatest_of (maxima_of maximum boxes i)

module _ (maximum : Box → Float) (boxes : List ℤ) where
  pub none_yet : (t : List Float) → Listed maximum boxes t +0 0
  unfolding maxima_of greatest_from
  none_yet t = record { held = refl; greatest = refl }

  pub one_more : {t : List Float} {m v r : Float} {i : ℕ} → i < length t → Listed maximum boxes t m i → v ≡ maximum (box_at boxes i) → r ≡ greater m v
      → Listed maximum boxes (set t i v) r (i + 1)
  unfolding maxima_of
  one_more {t} {m} {v} {r} {i} l h e q =
      let listed = ap (maxima_of maximum boxes) (sym (add-one i)) in
      record {
        held = ap (λ (k : ℕ). take k (set t i v)) (add-one i) ∙ take-suc-set t i v l ∙ (λ j. h.held j ++ (e j ∷ [])) ∙ listed;
        greatest = q ∙ (λ j. greater (h.greatest j) (e j)) ∙ sym (greatest_more +0 (maxima_of maximum boxes i) (maximum (box_at boxes i)))
            ∙ ap greatest_of listed;
      }

  pub all_there : {t : List Float} {m : Float} {i n : ℕ} → length t ≡ n → i ≡ n → Listed maximum boxes t m i
      → (t ≡ maxima_of maximum boxes n) × (m ≡ greatest_of (maxima_of maximum boxes n))
  all_there {t} {m} {i} l q h = (
    sym (take_all i t (le_of_eq (l ∙ sym q))) ∙ h.held ∙ ap (maxima_of maximum boxes) q,
    h.greatest ∙ ap (λ (k : ℕ). greatest_of (maxima_of maximum boxes k)) q,
  )

-- ---- the answer
module _ (g : Grid) (boxes : List ℤ) (places : ℕ) where
  abbrev faults : ℕ
  faults = unless (length boxes == 6 * places) 18 then validate g

  abbrev found : List Float
  found = maxima_of (box_maximum (read_in g)) boxes places

  into_is : maxima_into g boxes places ≡ passing faults (ok found)
  unfolding maxima_into
  into_is = refl

  greatest_is : {r : Result (List Float)} → maxima_into g boxes places ≡ r → greatest_into g boxes places ≡ bind r (λ (l : List Float). ok (greatest_of l))
  unfolding greatest_into
  greatest_is q = ap (λ (r : Result (List Float)). bind r (λ (l : List Float). ok (greatest_of l))) q

  module _ {f : ℕ} (e : f ≡ faults) (h : f ≡ 0 → ⊥) where
    stop : maxima_into g boxes places ≡ refused f
    stop = into_is ∙ ap (λ (k : ℕ). passing k (ok found)) (sym e) ∙ passing_stop f (ok found) h

    pub list_stops : (t : List Float) → passing f (ok t) ≡ maxima_into g boxes places
    list_stops t = passing_stop f (ok t) h ∙ sym stop

    pub greatest_stops : refused f ≡ greatest_into g boxes places
    greatest_stops = sym (greatest_is stop)

  module _ (e : 0 ≡ faults) where
    pub list_passed : (validate g ≡ 0) × (length boxes ≡ 6 * places)
    list_passed =
        let p = then_zero (unless (length boxes == 6 * places) 18) (validate g) (sym e) in
        (p.1, eqb→eq (length boxes) (6 * places) (unless_zero (length boxes == 6 * places) 17 p.0))

    pub maxima_given : {t : List Float} {m : Float} → (t ≡ found) × (m ≡ greatest_of found)
        → (ok m ≡ greatest_into g boxes places) × (ok t ≡ maxima_into g boxes places)
    maxima_given h =
        let s : maxima_into g boxes places ≡ ok found = into_is ∙ passing_on faults (ok found) (sym e) in
        (ap ok h.1 ∙ sym (greatest_is s), ap ok h.0 ∙ sym s)
