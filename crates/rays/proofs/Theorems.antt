-- What holds of every ray: at most X + Y + Z - 2 pieces come and then none for ever, each piece begins where the one before ended and the first at t_min,
-- the last ends at t_max or leaves the table, no call is refused, and every cell that is read lies inside the table. It is not claimed that a piece ends at
-- or above its beginning: by rounding (Examples.falls), and from outside the box (Examples.outside), t may stand still or fall. Assumes nothing.
use Rattle.std.specs.Prelude.{◌≡◌, ℕ, ◌*◌, ◌<◌, ◌≤◌, Bool, true, false, cond, ◌⊎◌, List, length, slice_index_or, unsigned_abs, refl, Float}
use Rattle.std.proofs.Common.{sym, ap, ◌∙◌, subst, inl, inr, zero-le, le_trans, le_of_eq, mul_assoc, mul_comm, mul_left_comm, arith}
use Rattle.std.proofs.Math.Arith.{digits_lt}
use Rattle.std.specs.Float.Ieee.{lt, le}
use Rattle.std.specs.Float.Ieee.Bits.{is_true}
use Rattle.refusals.specs.Results.{Result, ok, refused, need, number_of, value_or}
use Rattle.refusals.specs.ResultLaws.{need_ok}
use Rattle.refusals.specs.FaultLaws.{passing_ok}
use Rattle.float.specs.Zero.{+0}
use Rattle.float.proofs.Tests.{yes, clash}
use Rattle.float.proofs.Ordered.{lt_turned, le→not_lt}
use Rattle.cells.specs.Cells.{Cells, cells, table_fault}
use Rattle.cells.specs.Counted.{tabled}
use Rattle.medium.specs.Medium.{Medium, Axis, x_axis, y_axis, z_axis}
use Rattle.index.specs.Cells.{cell_of}
use Rattle.rays.specs.Ray.{Track, State, on_state, cells_in, sound, sound_state, leaves, exit_at, goes_on}
use Rattle.rays.specs.Ray.{Piece, Step, piece, over, place_of, piece_of, axis_in, step_on, next}
use Rattle.rays.specs.Open.{Beam, open_ray}
use Rattle.rays.specs.Run.{zero_state, left, calls, pieces, Chained, most}
use Rattle.rays.proofs.Remaining.{inside_lt, sound_cell}
use Rattle.rays.proofs.Turns.{sounds, same_cells_lem, same_end}
use Rattle.rays.proofs.Runs.{stays_over, few, over_after, unrefused, chained}
use Rattle.rays.proofs.OpenedLaws.{opened_ready, opened_at}

-- ---- an opened ray, with the table that it was opened for

module _ (m : Medium) (b : Beam) (table : List Float) (s : State) (e : open_ray m b (length table) ≡ ok s) where
  -- however often it is called: X + Y + Z - 2
  pub at_most : (i : ℕ) → length (pieces i s table) ≤ most m.cells
  at_most i = few table i s (most m.cells) (opened_ready m b table s e)

  pub none_after : (i : ℕ) → most m.cells ≤ i → next (calls i s table) table ≡ ok over
  none_after i h = over_after table i s (most m.cells) (opened_ready m b table s e) h

  pub never_refused : (i : ℕ) → number_of (next (calls i s table) table) ≡ 0
  never_refused i = unrefused table i s (most m.cells) (opened_ready m b table s e)

  pub end_to_end : (i : ℕ) → Chained b.t_min (pieces i s table)
  end_to_end i =
      subst (λ (t : Float). Chained t (pieces i s table)) (opened_at m b table s e)
      (chained table i s (most m.cells) (opened_ready m b table s e))

-- 190 where there are 64 cells on each axis
pub at_most_190 : (m : Medium) → m.cells ≡ cells 64 64 64 → (b : Beam) (table : List Float) (s : State) → open_ray m b (length table) ≡ ok s → (i : ℕ)
    → length (pieces i s table) ≤ 190
at_most_190 m h b table s e i = subst (λ (n : Cells). length (pieces i s table) ≤ most n) h (at_most m b table s e i)

-- ---- any state, also one that a caller made up

-- once there is no piece, none comes ever after
pub over_for_ever : (s : State) (table : List Float) → next s table ≡ ok over → (i : ℕ) → next (calls i s table) table ≡ ok over
over_for_ever s table e i = ap (λ (t : State). next t table) (stays_over table i s e) ∙ e

-- what a call gives past the table's test, where the end is asked
rest : State → List Float → Bool → Result Step
rest s table t = cond t (ok over) (need (sound_state s) 18 (ok (piece (piece_of s table) (step_on s (axis_in s)))))

asked : (s : State) (table : List Float) (r : Step) → next s table ≡ ok r
    → (table_fault (cells_in s) (length table) ≡ 0) × (rest s table (le s.t_max s.t_min) ≡ ok r)
unfolding next rest
asked s table r e = passing_ok (table_fault (cells_in s) (length table)) (rest s table (le s.t_max s.t_min)) e

-- a piece is that of the definition, from a sound state
pub record Went (s : State) (table : List Float) (p : Piece) (s' : State) : Type 0 where
  pub fitting : table_fault (cells_in s) (length table) ≡ 0
  pub steady : sound_state s ≡ true
  pub part : p ≡ piece_of s table
  pub onto : s' ≡ step_on s (axis_in s)

pub from_sound : (s : State) (table : List Float) (p : Piece) (s' : State) → next s table ≡ ok (piece p s') → Went s table p s'
unfolding rest
from_sound s table p s' e = go (le s.t_max s.t_min) (asked s table (piece p s') e).1
  where
    go : (t : Bool) → rest s table t ≡ ok (piece p s') → Went s table p s'
    go true h = let z : ◌≡◌ {A = ℕ} 0 1 = cc in absurd (omega arith)
    go false h =
        let w = need_ok (sound_state s) 18 (ok (piece (piece_of s table) (step_on s (axis_in s)))) h in
        record { fitting = (asked s table (piece p s') e).0; steady = is_true (sound_state s) w.0; part = cc; onto = cc }

-- no piece comes where t_min is not below t_max, and nowhere else
pub at_its_end : (s : State) (table : List Float) → next s table ≡ ok over → le s.t_max s.t_min ≡ true
unfolding rest
at_its_end s table e = go (le s.t_max s.t_min) (asked s table over e).1
  where
    go : (t : Bool) → rest s table t ≡ ok over → t ≡ true
    go true h = refl
    go false h =
        let w = need_ok (sound_state s) 18 (ok (piece (piece_of s table) (step_on s (axis_in s)))) h in
        let z : ◌≡◌ {A = ℕ} 1 0 = cc in absurd (omega arith)

-- ---- the last piece

goes_at : (s : State) (a : Axis) → (step_on s a).t_min ≡ goes_on s.t_max (on_state s a)
goes_at s x_axis = refl
goes_at s y_axis = refl
goes_at s z_axis = refl

ends : (t_max : Float) (t : Track) → le t_max (goes_on t_max t) ≡ true → (exit_at t_max t.next ≡ t_max) ⊎ (leaves t ≡ true)
ends t_max t h = go (leaves t) (lt t.next t_max) refl refl
  where
    go : (l x : Bool) → leaves t ≡ l → lt t.next t_max ≡ x → (cond x t.next t_max ≡ t_max) ⊎ (l ≡ true)
    go true x p q = inr refl
    go false false p q = inl refl
    go false true p q =
        let at : goes_on t_max t ≡ t.next = λ i. cond (p i) t_max (cond (lt_turned t.next t_max q i) t_max (cond (q i) t.next t_max)) in
        absurd (clash (lt t.next t_max) (le→not_lt t.next t_max (yes (sym (ap (le t_max) at) ∙ h))) (yes q))

-- it ends at t_max, or the ray leaves the table with it
pub last_piece : (s : State) (table : List Float) (p : Piece) (s' : State) → next s table ≡ ok (piece p s') → next s' table ≡ ok over
    → (p.to ≡ s.t_max) ⊎ (leaves (on_state s (axis_in s)) ≡ true)
last_piece s table p s' e f =
    let w = from_sound s table p s' e in
    let a = axis_in s in
    let stop = subst (λ (t : State). le t.t_max t.t_min ≡ true) w.onto (at_its_end s' table f) in
    elim (ends s.t_max (on_state s a) (sym (λ i. le (same_end s a i) (goes_at s a i)) ∙ stop)) [
      | inl q ↦ inl (ap (λ (x : Piece). x.to) w.part ∙ q)
      | inr q ↦ inr q
    ]

-- ---- the place that is read

cell_lt : (n : Cells) (x y z : ℕ) → x < n.x → y < n.y → z < n.z → cell_of n x y z < n.x * n.y * n.z
cell_lt n x y z X Y Z = le_trans (digits_lt (digits_lt Z Y) X) (le_of_eq (turned n.x n.y n.z))
  where
    turned : (x y z : ℕ) → z * y * x ≡ x * y * z
    turned x y z = simp (mul_assoc, mul_comm, mul_left_comm)

below : (t : Track) → sound t ≡ true → unsigned_abs t.cell < t.cells
below t h = inside_lt t.cell t.cells (sound_cell t h)

-- the cell that is read lies inside the table
pub place_lt : (s : State) (l : ℕ) → table_fault (cells_in s) l ≡ 0 → sound_state s ≡ true → place_of s < l
place_lt s l f h =
    let g = sounds s h in
    le_trans (cell_lt (cells_in s) _ _ _ (below s.x g.0) (below s.y g.1.0) (below s.z g.1.1))
    (le_of_eq (sym (tabled (cells_in s) l f).places_is))

pub inside_table : (s : State) (table : List Float) (p : Piece) (s' : State) → next s table ≡ ok (piece p s')
    → (place_of s < length table) × (p.figure ≡ slice_index_or table (place_of s) +0)
inside_table s table p s' e =
    let w = from_sound s table p s' e in
    (place_lt s (length table) w.fitting w.steady, ap (λ (q : Piece). q.figure) w.part)

-- ---- the numbers of cells that a call leaves in the state

-- 128 at most: they can be held in 32 bits with a sign
pub record Within (n : Cells) : Type 0 where
  pub x : n.x ≤ 128
  pub y : n.y ≤ 128
  pub z : n.z ≤ 128

within : {n : Cells} (places : ℕ) → table_fault n places ≡ 0 → Within n
within {n} places e = let N = (tabled n places e).count in record { x = N.x.most; y = N.y.most; z = N.z.most }

none_within : Within (cells_in zero_state)
none_within = record { x = zero-le; y = zero-le; z = zero-le }

pub next_within : (s : State) (table : List Float) → Within (cells_in (left s (next s table)))
next_within s table = go (next s table) refl
  where
    go : (r : Result Step) → next s table ≡ r → Within (cells_in (left s r))
    go (ok (piece p s')) e =
        let w = from_sound s table p s' e in
        subst Within (sym (ap cells_in w.onto ∙ same_cells_lem s (axis_in s))) (within (length table) w.fitting)
    go (ok over) e = within (length table) (asked s table over e).0
    go (refused n) e = none_within

pub open_within : (m : Medium) (b : Beam) (table : List Float) → Within (cells_in (value_or zero_state (open_ray m b (length table))))
open_within m b table = go (open_ray m b (length table)) refl
  where
    go : (r : Result State) → open_ray m b (length table) ≡ r → Within (cells_in (value_or zero_state r))
    go (ok s) e = within (length table) (opened_ready m b table s e).fitting
    go (refused n) e = none_within
