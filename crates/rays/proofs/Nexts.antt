-- The ways out of a call for the next piece, past the test of the table. Assumes nothing.
use Rattle.std.proofs.Common.{◌≡◌, ℕ, ◌≤◌, ◌<◌, Bool, true, false, ◌&&◌, List, length, get_or, sym, ap, ◌∙◌, subst, arith}
use lib.Ieee.{Float, nan, le}
use Rattle.refusals.specs.Results.{ok, refused}
use Rattle.refusals.specs.TestLaws.{and_same}
use Rattle.refusals.proofs.FaultSteps.{passing_stop}
use Rattle.refusals.proofs.ListLaws.{get_d_any}
use Rattle.float.specs.Zero.{+0}
use Rattle.cells.specs.Cells.{table_fault}
use Rattle.cells.specs.Counted.{Tabled, tabled, count_small}
use Rattle.medium.specs.Medium.{Axis, x_axis, y_axis, z_axis}
use Rattle.rays.specs.Ray.{State, on_state, cells_in, sound, sound_state, exit_at, axis_in, place_of, step_on, Piece, piece, over, next}
use Rattle.rays.specs.Held.{Held}
use Rattle.rays.proofs.Turns.{next_over, next_piece, next_unsound, sounds}
use Rattle.rays.proofs.Theorems.{place_lt}

-- what the three tests as the code joins them say
pub sound_by : (s : State) {x y z b : Bool} → x ≡ sound s.x → y ≡ sound s.y → z ≡ sound s.z → (x && y && z) ≡ b → sound_state s ≡ b
sound_by s p q r h = sym (and_same (and_same p q) r) ∙ h

module _ (s : State) (table : List Float) where
  pub table_stops : {k : ℕ} → k ≡ table_fault (cells_in s) (length table) → (k ≡ 0 → ⊥) → refused k ≡ next s table
  unfolding next
  table_stops e h = ap refused e ∙ sym (passing_stop (table_fault (cells_in s) (length table)) _ (λ z. h (e ∙ z)))

  module _ (fits : 0 ≡ table_fault (cells_in s) (length table)) where
    whole : Tabled (cells_in s) (length table)
    whole = tabled (cells_in s) (length table) (sym fits)

    pub table_small : length table ≤ 2097152
    table_small = omega (arith, whole.places_is, count_small (cells_in s) whole.count)

    pub ended : le s.t_max s.t_min ≡ true → ok over ≡ next s table
    ended h = sym (next_over table s (sym fits) h)

    pub unsound : le s.t_max s.t_min ≡ false → sound_state s ≡ false → refused 18 ≡ next s table
    unsound h g = sym (next_unsound table s (sym fits) h g)

    pub held : sound_state s ≡ true → (a : Axis) → Held (on_state s a)
    held g x_axis = record { fine = (sounds s g).0; few = whole.count.x.most }
    held g y_axis = record { fine = (sounds s g).1.0; few = whole.count.y.most }
    held g z_axis = record { fine = (sounds s g).1.1; few = whole.count.z.most }

    pub inside : sound_state s ≡ true → {at : ℕ} → at ≡ place_of s → at < length table
    inside g e = subst (λ (n : ℕ). n < length table) (sym e) (place_lt s (length table) (sym fits) g)

    -- the piece along an axis
    pub went : le s.t_max s.t_min ≡ false → sound_state s ≡ true → (a : Axis) → a ≡ axis_in s → {at : ℕ} → at ≡ place_of s → {p : Piece} {s' : State}
        → p ≡ record { from = s.t_min; to = exit_at s.t_max (on_state s a).next; figure = get_or table at nan } → s' ≡ step_on s a
        → ok (piece p s') ≡ next s table
    went h g a e {at} f q r =
        let figure : get_or table at nan ≡ get_or table (place_of s) +0 =
        get_d_any table at nan +0 (inside g f) ∙ ap (λ (n : ℕ). get_or table n +0) f in
        (λ i. ok (piece (q i) (r i)))
        ∙ (λ i. ok (piece (record { from = s.t_min; to = exit_at s.t_max (on_state s (e i)).next; figure = figure i }) (step_on s (e i))))
        ∙ sym (next_piece table s (sym fits) h g)
