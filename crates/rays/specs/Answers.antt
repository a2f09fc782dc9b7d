-- The states that the code's records stand for, and what its answers say.
use Rattle.std.specs.Prelude.{List, Ok, Err, Option, None, Some, Result as Said, Float}
use Rattle.refusals.specs.Results.{Result, ok, refused}
use Rattle.refusals.specs.Numbers.{number}
use Rattle.refusals.specs.declared.Refusal.{Refusal}
use Rattle.medium.specs.Record.{point_of}
use Rattle.rays.specs.Ray.{Track, State, Piece, Step, piece, over}
use Rattle.rays.specs.Open.{Beam}
use Rattle.rays.specs.declared.Beam as CodeBeam
use Rattle.rays.specs.declared.Piece as CodePiece
use Rattle.rays.specs.declared.state.Track as CodeTrack
use Rattle.rays.specs.declared.state.Ray as CodeRay

abbrev pub beam_of : List Float → List Float → Float → Float → Beam
beam_of o d a e = record { origin = point_of o; direction = point_of d; t_min = a; t_max = e }

abbrev pub as_beam : CodeBeam.Beam → Beam
as_beam b = beam_of b.origin b.direction b.t_min b.t_max

abbrev pub as_piece : CodePiece.Piece → Piece
as_piece p = record { from = p.from; to = p.to; figure = p.figure }

abbrev pub as_track : CodeTrack.Track → Track
as_track t = record { next = t.next; delta = t.delta; step = t.step; cell = t.cell; cells = t.cells }

abbrev pub as_state : CodeRay.Ray → State
as_state r = record { t_min = r.t_min; t_max = r.t_max; x = as_track r.x; y = as_track r.y; z = as_track r.z }

-- what an opening says
abbrev pub ray_said : Said CodeRay.Ray Refusal → Result State
ray_said (Ok r) = ok (as_state r)
ray_said (Err e) = refused (number e)

-- what a call for the next piece says
abbrev pub step_said : Said (Option (CodePiece.Piece × CodeRay.Ray)) Refusal → Result Step
step_said (Ok None) = ok over
step_said (Ok (Some s)) = ok (piece (as_piece s.0) (as_state s.1))
step_said (Err e) = refused (number e)
