-- The maxima of a list of boxes, six numbers each, minima first: one for each box, and the greatest of the list.
use Rattle.std.specs.Prelude.{ℕ, zero, suc, ◌+◌, ◌*◌, List, [], ◌∷◌, ◌++◌, length, ℤ, pos, ◌==◌, slice_index_or, Float}
use Rattle.refusals.specs.Results.{Result, ok, bind}
use Rattle.refusals.specs.Faults.{◌then◌, unless, passing}
use Rattle.float.specs.Zero.{+0}
use Rattle.sparse_grid.specs.Tables.{Grid}
use Rattle.sparse_grid.specs.Validate.{validate}
use Rattle.sparse_grid.specs.Lookup.{read_in}
use Rattle.boxes.specs.Boxes.{Box, between, greater, box_maximum}

-- box i of the list
abbrev pub box_at : List ℤ → ℕ → Box
box_at boxes i =
    between (slice_index_or boxes (6 * i) (pos 0)) (slice_index_or boxes (6 * i + 1) (pos 0)) (slice_index_or boxes (6 * i + 2) (pos 0))
    (slice_index_or boxes (6 * i + 3) (pos 0)) (slice_index_or boxes (6 * i + 4) (pos 0)) (slice_index_or boxes (6 * i + 5) (pos 0))

-- the maxima of the first n boxes, in order
unfoldable pub maxima_of : (Box → Float) → List ℤ → ℕ → List Float
maxima_of maximum boxes zero = []
maxima_of maximum boxes (suc n) = maxima_of maximum boxes n ++ (maximum (box_at boxes n) ∷ [])

-- into so many places: 18 for a list that is not six to a place, then `validate`, once for the list and for an empty one too
unfoldable pub maxima_into : Grid → List ℤ → ℕ → Result (List Float)
maxima_into g boxes places =
    passing (unless (length boxes == 6 * places) 18 then validate g) (ok (maxima_of (box_maximum (read_in g)) boxes places))

-- the greatest of m and a list
unfoldable pub greatest_from : Float → List Float → Float
greatest_from m [] = m
greatest_from m (v ∷ vs) = greatest_from (greater m v) vs

-- the greatest of a list of maxima, and +0 where it is empty
abbrev pub greatest_of : List Float → Float
greatest_of l = greatest_from +0 l

-- the greatest of the list's maxima, or the refusal
unfoldable pub greatest_into : Grid → List ℤ → ℕ → Result Float
unfolding maxima_into greatest_from
greatest_into g boxes places = bind (maxima_into g boxes places) (λ (l : List Float). ok (greatest_of l))
