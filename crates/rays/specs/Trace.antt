-- A whole ray at one call: its pieces, where the tables that are lent for their ends and their figures hold them. Where each piece begins is not
-- written: at the end of the one before, and the first at t_min (Theorems.end_to_end).
use Rattle.std.specs.Prelude.{◌≡◌, ℕ, ◌&&◌, List, [], ◌∷◌, length, nat_le, Float}
use Rattle.refusals.specs.Results.{Result, ok, number_of, value_or, bind, need}
use Rattle.float.specs.Zero.{+0}
use Rattle.lent.specs.Padded.{padded}
use Rattle.medium.specs.Medium.{Medium}
use Rattle.rays.specs.Ray.{State, Piece}
use Rattle.rays.specs.Open.{Beam, open_ray}
use Rattle.rays.specs.Run.{pieces, most}

-- 9 where one of two tables, with e and f places, is too short
abbrev pub fitted : List Piece → ℕ → ℕ → Result (List Piece)
fitted l e f = need (nat_le (length l) e && nat_le (length l) f) 9 (ok l)

unfoldable pub traced : Medium → Beam → List Float → ℕ → ℕ → Result (List Piece)
traced m b table e f = bind (open_ray m b (length table)) (λ (s : State). fitted (pieces (most m.cells) s table) e f)

-- the ends of pieces, and their figures
unfoldable pub ends_of : List Piece → List Float
ends_of [] = []
ends_of (p ∷ l) = p.to ∷ ends_of l

unfoldable pub figures_of : List Piece → List Float
figures_of [] = []
figures_of (p ∷ l) = p.figure ∷ figures_of l

-- What a trace writes and answers: the number, the count of the pieces, and in tables of e and f places their ends and figures with zeros past them.
-- After a refusal nothing but zeros.
pub record Written (o : Result (List Piece)) (e f n k : ℕ) (ends figures : List Float) : Type 0 where
  pub number : n ≡ number_of o
  pub counted : k ≡ length (value_or [] o)
  pub written : ends ≡ padded e +0 (ends_of (value_or [] o))
  pub figured : figures ≡ padded f +0 (figures_of (value_or [] o))
