-- What `smokegrid_ray_open` and `smokegrid_ray_next` leave, from what the functions on records answer. Assumes nothing.
use Rattle.std.specs.Prelude.{◌≡◌, ℕ, true, false, ◌&&◌, eqb, List, ℤ, pos, length, replicate, Float}
use Rattle.std.proofs.Common.{sym, ap, ◌∙◌, subst}
use Rattle.refusals.specs.Results.{Result, ok, refused, number_of, value_or}
use Rattle.rays.specs.Ray.{State, Step, Piece, piece, over, next, cells_in}
use Rattle.rays.specs.Open.{Beam, open_ray}
use Rattle.rays.specs.Run.{zero_state, left}
use Rattle.rays.proofs.Theorems.{Within, open_within, next_within}
use Rattle.medium.specs.Medium.{Medium}
use Rattle.smokegrid.specs.Flat.{medium_from}
use Rattle.smokegrid.specs.FlatRay.{ray_state_from, ray_open_flat, next_flat, times_opened, numbers_opened, state_after, more_of, piece_in}
use Rattle.smokegrid.specs.Promises.{OpensRay, RayLeft, NextPiece}
use Rattle.smokegrid.proofs.Flats.{stops, goes}

-- ---- the opening

module _ (m : List Float) (c : List ℕ) (b : Beam) (places times numbers : ℕ) where
  abbrev opening : Result State
  opening = open_ray (medium_from m (replicate 6 (pos 0)) c) b places

  pub open_stops : (eqb (length m) 18 && eqb (length c) 3 && eqb times 8 && eqb numbers 9) ≡ false → refused 18 ≡ ray_open_flat m c b places times numbers
  unfolding ray_open_flat
  open_stops = stops opening

  pub open_goes : (eqb (length m) 18 && eqb (length c) 3 && eqb times 8 && eqb numbers 9) ≡ true → opening ≡ ray_open_flat m c b places times numbers
  unfolding ray_open_flat
  open_goes = goes opening

  pub open_out : {r : Result State} {k : ℕ} {t : List Float} {n : List ℤ} → r ≡ ray_open_flat m c b places times numbers → k ≡ number_of r
      → t ≡ times_opened times r → n ≡ numbers_opened numbers r → OpensRay m c b places times numbers k t n
  open_out e k t n = record {
    number_is = k ∙ ap number_of e;
    times_are = t ∙ ap (times_opened times) e;
    numbers_are = n ∙ ap (numbers_opened numbers) e;
  }

-- a state that was opened says few cells
pub few_opened : (m : Medium) (b : Beam) (table : List Float) {s : State} → ok s ≡ open_ray m b (length table) → Within (cells_in s)
few_opened m b table e = subst (λ (r : Result State). Within (cells_in (value_or zero_state r))) (sym e) (open_within m b table)

-- ---- a piece

module _ (table : List Float) (t : List Float) (n : List ℤ) where
  pub next_stops : (eqb (length t) 8 && eqb (length n) 9) ≡ false → refused 18 ≡ next_flat t n table
  unfolding next_flat
  next_stops = stops (next (ray_state_from t n) table)

  pub next_goes : (eqb (length t) 8 && eqb (length n) 9) ≡ true → next (ray_state_from t n) table ≡ next_flat t n table
  unfolding next_flat
  next_goes = goes (next (ray_state_from t n) table)

  -- what is left of a step r that is the definition's
  pub record After (r : Result Step) (k : ℕ) (left : RayLeft) : Type 0 where
    pub number : k ≡ number_of r
    pub times : left.times ≡ times_opened (length t) (state_after (ray_state_from t n) r)
    pub numbers : left.numbers ≡ numbers_opened (length n) (state_after (ray_state_from t n) r)
    pub more : left.more ≡ more_of r
    pub from : left.t0 ≡ (piece_in r).from
    pub to : left.t1 ≡ (piece_in r).to
    pub figure : left.figure ≡ (piece_in r).figure

  pub next_out : {r : Result Step} {k : ℕ} {left : RayLeft} → r ≡ next_flat t n table → After r k left → NextPiece table t n k left
  next_out e a = record {
    number_is = a.number ∙ ap number_of e;
    times_are = a.times ∙ ap (λ (x : Result Step). times_opened (length t) (state_after (ray_state_from t n) x)) e;
    numbers_are = a.numbers ∙ ap (λ (x : Result Step). numbers_opened (length n) (state_after (ray_state_from t n) x)) e;
    more_is = a.more ∙ ap more_of e;
    t0_is = a.from ∙ ap (λ (x : Result Step). (piece_in x).from) e;
    t1_is = a.to ∙ ap (λ (x : Result Step). (piece_in x).to) e;
    figure_is = a.figure ∙ ap (λ (x : Result Step). (piece_in x).figure) e;
  }

-- so does the state after a piece, and that of a ray at its end
pub few_after : (s : State) (table : List Float) {p : Piece} {s' : State} → ok (piece p s') ≡ next s table → Within (cells_in s')
few_after s table e = subst (λ (r : Result Step). Within (cells_in (left s r))) (sym e) (next_within s table)

pub few_over : (s : State) (table : List Float) → ok over ≡ next s table → Within (cells_in s)
few_over s table e = subst (λ (r : Result Step). Within (cells_in (left s r))) (sym e) (next_within s table)
