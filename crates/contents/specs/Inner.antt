-- What the contracts of private functions say: the code's values in the terms of the definition.
use Rattle.std.specs.Prelude.{ℕ, ◌-◌, List, ◌≡◌, cond, ltb, Ok, Err, Result as Answer}
use Rattle.refusals.specs.Results.{Result, ok, refused}
use Rattle.refusals.specs.Numbers.{number}
use Rattle.refusals.specs.declared.Refusal.{Refusal}
use Rattle.contents.specs.Segments as S
use Rattle.contents.specs.Answers.{as_span}
use Rattle.contents.specs.declared.Grid.{Grid}

abbrev pub as_grid : Grid → S.Grid
as_grid g = record { name = as_span g.name; body = as_span g.body }

abbrev pub grid_said : Answer Grid Refusal → Result S.Grid
grid_said (Ok g) = ok (as_grid g)
grid_said (Err e) = refused (number e)

-- what a search comes to, with what the segments to come answer: the grid, or how many are left to be passed before it
abbrev pub answer_of : (ℕ → Result S.Grid) → Answer Grid ℕ → Result S.Grid
answer_of rest (Ok g) = ok (as_grid g)
answer_of rest (Err k) = rest k

-- the answer of the segment at `at`, and of the rest for a number past its grids
abbrev pub or_in : List ℕ → ℕ → (ℕ → Result S.Grid) → ℕ → Result S.Grid
or_in b at rest n = cond (ltb n (S.count b at)) (ok (S.grid_at b at n)) (rest (n - S.count b at))

-- what grid k comes to in the segment at `at`: with the segments to come t gives what k gives with this one before them
pub record Passed (b : List ℕ) (at k : ℕ) (t : Answer Grid ℕ) : Type 0 where
  pub same : (rest : ℕ → Result S.Grid) → or_in b at rest k ≡ answer_of rest t
