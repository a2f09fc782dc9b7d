-- A ray piece by piece: what a row of calls of `next` gives, each handed the state that the one before left.
use Rattle.std.specs.Prelude.{◌≡◌, ℕ, zero, suc, ◌+◌, ◌-◌, List, [], ◌∷◌, pos, Float}
use Rattle.refusals.specs.Results.{Result, ok, refused}
use Rattle.float.specs.Zero.{+0}
use Rattle.cells.specs.Cells.{Cells}
use Rattle.rays.specs.Ray.{Track, State, Piece, Step, piece, over, next}

-- after a refusal
abbrev pub zero_track : Track
zero_track = record { next = +0; delta = +0; step = pos 0; cell = pos 0; cells = 0 }

abbrev pub zero_state : State
zero_state = record { t_min = +0; t_max = +0; x = zero_track; y = zero_track; z = zero_track }

-- the state that a call leaves: the old one at the end of the ray
abbrev pub left : State → Result Step → State
left s (ok (piece p s')) = s'
left s (ok over) = s
left s (refused n) = zero_state

-- the state after n calls
unfoldable pub calls : ℕ → State → List Float → State
calls zero s table = s
calls (suc n) s table = calls n (left s (next s table)) table

abbrev pub follow : Result Step → (State → List Piece) → List Piece
follow (ok (piece p s)) rest = p ∷ rest s
follow (ok over) rest = []
follow (refused n) rest = []

-- the pieces that n calls give, up to the first that gives none
unfoldable pub pieces : ℕ → State → List Float → List Piece
pieces zero s table = []
pieces (suc n) s table = follow (next s table) (λ s'. pieces n s' table)

-- each begins where the one before it ended, and the first at t
abbrev pub Chained : Float → List Piece → Type 0
Chained t [] = Unit {0}
Chained t (p ∷ l) = (p.from ≡ t) × Chained p.to l

-- the most pieces that a ray through so many cells can have
abbrev pub most : Cells → ℕ
most n = n.x + n.y + n.z - 2
