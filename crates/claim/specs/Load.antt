-- A load: the decode, and the build of the grid that it accepted. Each has its own number, so that a refused build leaves the grid.
use Rattle.std.specs.Prelude.{◌≡◌, List, ℕ, replicate, Float}
use Rattle.refusals.specs.Results.{Result, number_of, value_or, bind}
use Rattle.float.specs.Zero.{+0}
use Rattle.medium.specs.Medium.{Point}
use Rattle.nanovdb.specs.Decode.{Accepted, decode_density}
use Rattle.nanovdb.specs.Lent as Lent
use Rattle.nanovdb.specs.Lent.{Lent, Tables, decode_into, answer_of, left_of}
use Rattle.majorant.specs.Build.{build_into}
use Rattle.claim.specs.Claim.{Inside, Bounds}
use Rattle.claim.specs.Promises.{Handed}

-- after a refused decode the build has the decode's number
pub record Loaded : Type 0 where
  pub decoded : Result Accepted
  pub built : Result (List Float)

abbrev pub with_build : ℕ → Result Accepted → Loaded
with_build places r = record { decoded = r; built = bind r (λ (t : Accepted). build_into t.grid t.medium places) }

-- the decode into the lent tables, and the build into a table of so many places
unfoldable pub load : List ℕ → Lent → ℕ → Loaded
load b l places = with_build places (decode_into decode_density b l)

-- what it answers: what the decode says (number, counts, background, medium), and the number of the build
pub record Answer : Type 0 where
  pub decode : Lent.Answer
  pub build : ℕ

abbrev pub load_answer : Loaded → Answer
load_answer r = record { decode = answer_of r.decoded; build = number_of r.built }

-- what is left in the lent tables, by the decode alone, and in the table of figures: zeros where the build was refused
abbrev pub tables_left : Lent → Loaded → Tables
tables_left l r = left_of l r.decoded

abbrev pub figures_left : ℕ → Loaded → List Float
figures_left places r = value_or (replicate places +0) r.built

-- The claim of a load whose decode answered 0: of the grid whatever the build answered, and of the figures where it answered 0.
pub record Claimed (b : List ℕ) (l : Lent) (a : Answer) (left : Tables) (table : List Float) : Type 0 where
  pub grid : Handed b l a.decode left
  pub figures : a.build ≡ 0 → (p : Point) → Inside b p → Bounds b a.decode.medium.cells table p

-- What `load` promises of bytes, the lengths of the lent tables and the places for figures: what it answers and leaves, and the claim.
pub record Loads (b : List ℕ) (l : Lent) (places : ℕ) (a : Answer) (left : Tables) (table : List Float) : Type 0 where
  pub answer_is : a ≡ load_answer (load b l places)
  pub tables_are : left ≡ tables_left l (load b l places)
  pub figures_are : table ≡ figures_left places (load b l places)
  pub claim : a.decode.number ≡ 0 → Claimed b l a left table
