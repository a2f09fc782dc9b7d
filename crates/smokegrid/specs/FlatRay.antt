-- A ray's state in the flat arrays of the C interface: 8 times (t_min, t_max, next crossing 3, delta 3) and 9 numbers (step 3, cell 3, cells on each axis 3).
use Rattle.std.specs.Prelude.{ℕ, ◌+◌, ◌&&◌, List, [], ◌∷◌, eqb, ℤ, pos, negsuc, length, get_or, replicate, Float}
use Rattle.std.specs.Float.{nan}
use Rattle.refusals.specs.Results.{Result, ok, refused}
use Rattle.refusals.specs.Faults.{unless, passing}
use Rattle.float.specs.Zero.{+0}
use Rattle.rays.specs.Ray.{Track, State, Piece, Step, piece, over, next}
use Rattle.rays.specs.Open.{Beam, open_ray}
use Rattle.smokegrid.specs.Flat.{medium_from}

-- how many cells a number says: none where it is negative, which 23 turns away
abbrev pub count_of : ℤ → ℕ
count_of (pos n) = n
count_of (negsuc n) = 0

-- one axis of the arrays, which have every place that is read: the defaults are never met
abbrev pub track_from : List Float → List ℤ → ℕ → Track
track_from t n i = record {
  next = get_or t (2 + i) nan;
  delta = get_or t (5 + i) nan;
  step = get_or n i (pos 0);
  cell = get_or n (3 + i) (pos 0);
  cells = count_of (get_or n (6 + i) (pos 0));
}

abbrev pub ray_state_from : List Float → List ℤ → State
ray_state_from t n = record { t_min = get_or t 0 nan; t_max = get_or t 1 nan; x = track_from t n 0; y = track_from t n 1; z = track_from t n 2 }

abbrev pub times_of : State → List Float
times_of s = s.t_min ∷ s.t_max ∷ s.x.next ∷ s.y.next ∷ s.z.next ∷ s.x.delta ∷ s.y.delta ∷ s.z.delta ∷ []

abbrev pub words_of : State → List ℤ
words_of s = s.x.step ∷ s.y.step ∷ s.z.step ∷ s.x.cell ∷ s.y.cell ∷ s.z.cell
    ∷ pos s.x.cells ∷ pos s.y.cells ∷ pos s.z.cells ∷ []

-- a ray as C asks for it
abbrev pub beam : Float → Float → Float → Float → Float → Float → Float → Float → Beam
beam ox oy oz dx dy dz a e = record { origin = record { x = ox; y = oy; z = oz }; direction = record { x = dx; y = dy; z = dz }; t_min = a; t_max = e }

-- ---- the functions

-- 18 for times or numbers of another length
abbrev pub ray_fault : ℕ → ℕ → ℕ
ray_fault times numbers = unless (eqb times 8 && eqb numbers 9) 18

-- 18 for a small array of another length, before anything else; the corners play no part
unfoldable pub ray_open_flat : List Float → List ℕ → Beam → ℕ → ℕ → ℕ → Result State
ray_open_flat m c b places times numbers =
    passing (unless (eqb (length m) 18 && eqb (length c) 3 && eqb times 8 && eqb numbers 9) 18)
    (open_ray (medium_from m (replicate 6 (pos 0)) c) b places)

unfoldable pub next_flat : List Float → List ℤ → List Float → Result Step
next_flat t n table = passing (ray_fault (length t) (length n)) (next (ray_state_from t n) table)

-- ---- what is left in the arrays, of so many places

abbrev pub times_opened : ℕ → Result State → List Float
times_opened n (ok s) = times_of s
times_opened n (refused k) = replicate n +0

abbrev pub numbers_opened : ℕ → Result State → List ℤ
numbers_opened n (ok s) = words_of s
numbers_opened n (refused k) = replicate n (pos 0)

-- at the ray's end the state stays
abbrev pub state_after : State → Result Step → Result State
state_after s (ok (piece p s')) = ok s'
state_after s (ok over) = ok s
state_after s (refused k) = refused k

-- the piece, where there is one
abbrev pub more_of : Result Step → ℕ
more_of (ok (piece p s)) = 1
more_of (ok over) = 0
more_of (refused k) = 0

abbrev pub piece_in : Result Step → Piece
piece_in (ok (piece p s)) = p
piece_in (ok over) = record { from = +0; to = +0; figure = +0 }
piece_in (refused k) = record { from = +0; to = +0; figure = +0 }
