-- Rays over what the contracts of the C interface say: an opening that answers 0, and then calls for pieces, each handed the two arrays that the one before
-- left. The state in the arrays is that of `calls`, so every theorem of `rays/proofs/Theorems` speaks of what C is told.
use Rattle.std.specs.Prelude.{ℕ, zero, suc, ◌≤◌, ◌≡◌, List, ℤ, pos, length, replicate, Float}
use Rattle.refusals.specs.Results.{ok}
use Rattle.medium.specs.Medium.{Medium}
use Rattle.rays.specs.Ray.{State, next}
use Rattle.rays.specs.Open.{Beam, open_ray}
use Rattle.rays.specs.Run.{calls, most}
use Rattle.smokegrid.specs.Flat.{medium_from}
use Rattle.smokegrid.specs.FlatRay.{ray_state_from, more_of, piece_in}
use Rattle.smokegrid.specs.Promises.{OpensRay, RayLeft, NextPiece}

-- i calls of smokegrid_ray_next lead from the arrays t and n to t' and n'
abbrev pub Called : List Float → ℕ → List Float → List ℤ → List Float → List ℤ → Type 0
Called table zero t n t' n' = (t' ≡ t) × (n' ≡ n)
Called table (suc i) t n t' n' = (number : ℕ) × (left : RayLeft) × NextPiece table t n number left × Called table i left.times left.numbers t' n'

-- what call i + 1 answers: no refusal, the piece of the ray's definition, and from X + Y + Z - 2 calls on none
pub record Answered (table : List Float) (s : State) (pieces i number : ℕ) (left : RayLeft) : Type 0 where
  pub number_is : number ≡ 0
  pub more_is : left.more ≡ more_of (next (calls i s table) table)
  pub t0_is : left.t0 ≡ (piece_in (next (calls i s table) table)).from
  pub t1_is : left.t1 ≡ (piece_in (next (calls i s table) table)).to
  pub figure_is : left.figure ≡ (piece_in (next (calls i s table) table)).figure
  pub none_after : pieces ≤ i → left.more ≡ 0

-- what holds of the arrays that an opening left
pub record RayKept (m : Medium) (b : Beam) (table : List Float) (t : List Float) (n : List ℤ) : Type 0 where
  pub opened : State
  pub is : open_ray m b (length table) ≡ ok opened
  pub states : (i : ℕ) (t' : List Float) (n' : List ℤ) → Called table i t n t' n' → ray_state_from t' n' ≡ calls i opened table
  pub answers : (i : ℕ) (t' : List Float) (n' : List ℤ) → Called table i t n t' n'
      → (number : ℕ) (left : RayLeft) → NextPiece table t' n' number left → Answered table opened (most m.cells) i number left

abbrev pub RaysThroughC : Type 0
RaysThroughC = (medium : List Float) (cells : List ℕ) (b : Beam) (table : List Float) (times numbers : ℕ) (t : List Float) (n : List ℤ)
    → OpensRay medium cells b (length table) times numbers 0 t n → RayKept (medium_from medium (replicate 6 (pos 0)) cells) b table t n
