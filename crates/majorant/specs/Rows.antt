-- What only the contracts of the build's private functions cite: a cell by the ends on its three axes, and the cells row after row.
use Rattle.std.specs.Prelude.{ℕ, zero, suc, ◌%◌, ◌/◌, Bool, not, ◌&&◌, List, [], ◌∷◌, ◌++◌, int_le, slice_index_or, Float, pos, Ok, Result as Answer}
use Rattle.std.specs.Float.Ieee.{lt}
use Rattle.refusals.specs.Results.{Result, ok, bind, need}
use Rattle.refusals.specs.declared.Refusal.{Refusal}
use Rattle.index.specs.Cells.{Ends}
use Rattle.index.specs.Axes.{Both}
use Rattle.index.specs.Outcomes.{as_both, said_as}
use Rattle.index.specs.declared.Ends as CodeEnds
use Rattle.index.specs.declared.CellEnds.{CellEnds}
use Rattle.boxes.specs.Boxes.{Box}

-- the box of three axes
abbrev pub box_made : Ends → Ends → Ends → Box
box_made x y z = record { lo = record { x = x.lo; y = y.lo; z = z.lo }; hi = record { x = x.hi; y = y.hi; z = z.hi } }

abbrev pub first_box : Both → Both → Both → Box
first_box x y z = box_made x.first y.first z.first

abbrev pub second_box : Both → Both → Both → Box
second_box x y z = box_made x.second y.second z.second

-- on one axis the second box lies within the first
abbrev pub first_holds : Both → Bool
first_holds a = int_le a.first.lo a.second.lo && int_le a.second.hi a.first.hi

-- the ends at one place of an axis's table
abbrev no_ends : CodeEnds.Ends
no_ends = record { lo = pos 0; hi = pos 0 }

abbrev pub none : Answer CellEnds Refusal
none = Ok (record { first = no_ends; second = no_ends })

abbrev pub ends_in : List (Answer CellEnds Refusal) → ℕ → Result Both
ends_in t i = said_as as_both (slice_index_or t i none)

-- the maximum of the first box; 17 where that of the second is greater
abbrev pub box_figure : (Box → Float) → Box → Box → Result Float
box_figure maximum f s = need (not (lt (maximum f) (maximum s))) 17 (ok (maximum f))

unfoldable pub cell_figure : (Box → Float) → Result Both → Result Both → Result Both → Result Float
cell_figure maximum x y z =
    bind x (λ (a : Both). bind y (λ (b : Both). bind z (λ (c : Both).
    box_figure maximum (first_box a b c) (second_box a b c))))

-- steps 0 to c - 1, each from what the one before gave
unfoldable pub chain : {A : Type 0} → (ℕ → A → Result A) → ℕ → A → Result A
chain step zero l = ok l
chain step (suc c) l = bind (chain step c l) (step c)

-- one figure more
abbrev pub push : Result Float → List Float → Result (List Float)
push r l = bind r (λ (v : Float). ok (l ++ (v ∷ [])))

unfoldable pub row_of : (Box → Float) → (ℕ → Result Both) → Result Both → Result Both → ℕ → List Float → Result (List Float)
row_of maximum xs y z n l = chain (λ i. push (cell_figure maximum (xs i) y z)) n l

unfoldable pub plane_of : (Box → Float) → (ℕ → Result Both) → (ℕ → Result Both) → Result Both → ℕ → ℕ → List Float → Result (List Float)
plane_of maximum xs ys z nx ny l = chain (λ j. row_of maximum xs (ys j) z nx) ny l

unfoldable pub volume_of : (Box → Float) → (ℕ → Result Both) → (ℕ → Result Both) → (ℕ → Result Both) → ℕ → ℕ → ℕ → List Float → Result (List Float)
volume_of maximum xs ys zs nx ny nz l = chain (λ k. plane_of maximum xs ys (zs k) nx ny) nz l

-- n rows, row r on y's place r mod ny and z's place r / ny
unfoldable pub rows_of : (Box → Float) → (ℕ → Result Both) → (ℕ → Result Both) → (ℕ → Result Both) → ℕ → ℕ → ℕ → List Float → Result (List Float)
rows_of maximum xs ys zs nx ny n l = chain (λ r. row_of maximum xs (ys (r % ny)) (zs (r / ny)) nx) n l
