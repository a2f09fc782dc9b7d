-- A ray that was opened: its cells are inside, its steps are 1 or -1, and it has at most X + Y + Z cells left. Assumes nothing.
use Rattle.std.specs.Prelude.{◌≡◌, ℕ, zero, suc, ◌-◌, ◌<◌, ◌≤◌, Bool, true, false, cond, not, ◌&&◌, T, List, length, ℤ, pos, negsuc, refl, Float}
use Rattle.std.proofs.Common.{sym, ap, ◌∙◌, subst, inl, inr, zero-le, arith, lt-ltb, le-ltb}
use Rattle.std.specs.Float.{nan, inf, fin, binary32}
use Rattle.std.specs.Float.Ieee.{le, mul, is_nan}
use Rattle.std.specs.Float.Ieee.Scale.{finite}
use Rattle.refusals.specs.Results.{ok, number_of, value_or}
use Rattle.refusals.specs.ResultLaws.{ok_injective}
use Rattle.refusals.specs.Faults.{◌then◌, passing}
use Rattle.refusals.specs.FaultLaws.{then_zero, unless_zero, passing_ok}
use Rattle.refusals.specs.TestLaws.{and_l, and_r}
use Rattle.float.proofs.Tests.{decide}
use Rattle.float.specs.Zero.{+0}
use Rattle.float.specs.Saturated.{clamp_z, saturated}
use Rattle.cells.specs.Cells.{Cells, cells, table_fault}
use Rattle.cells.specs.Counted.{Few, Counted, tabled}
use Rattle.medium.specs.Medium.{Medium, Axis, x_axis, y_axis, z_axis, each, bounds_fault}
use Rattle.index.specs.Cells.{cells_on}
use Rattle.rays.specs.Ray.{State, cells_in, inside, is_step, sound}
use Rattle.rays.specs.Open.{Beam, all_finite, all_zero, beam_fault, count, cell_at, track_from, track_on, track_of, start_of, open_ray}
use Rattle.rays.specs.Run.{zero_state, most}
use Rattle.rays.proofs.Remaining.{remaining, left_most}
use Rattle.rays.proofs.Turns.{Ready}

-- ---- one axis

-- a number held between 0 and n - 1 is a cell of n
clamped : (z : ℤ) (n : ℕ) → 0 < n → inside (clamp_z (pos 0) (pos (n - 1)) z) n ≡ true
clamped (negsuc k) n h = lt-ltb 0 n h
clamped (pos k) n h = elim (decide (n - 1) k) [
  | inl l ↦ rw (le-ltb k 0 zero-le, lt-ltb (n - 1) k l) (lt-ltb (n - 1) n (omega arith))
  | inr l ↦ rw (le-ltb k 0 zero-le, le-ltb (n - 1) k l) (lt-ltb k n (omega arith))
]

one_way : (b : Bool) → is_step (cond b (pos 1) (negsuc 0)) ≡ true
one_way true = refl
one_way false = refl

from_sound : (p d t : Float) (n : ℕ) → 0 < n → sound (track_from p d t n) ≡ true
unfolding track_from cell_at
from_sound p d t n h = λ i. clamped (saturated (mul binary32 p (count n))) n h i && one_way (le +0 d) i

from_cells : (p d t : Float) (n : ℕ) → (track_from p d t n).cells ≡ n
unfolding track_from
from_cells p d t n = refl

module _ (m : Medium) (b : Beam) (a : Axis) where
  track_sound : 0 < cells_on m.cells a → sound (track_of m b a) ≡ true
  unfolding track_on
  track_sound h = from_sound _ _ b.t_min (cells_on m.cells a) h

  track_cells : (track_of m b a).cells ≡ cells_on m.cells a
  unfolding track_on
  track_cells = from_cells _ _ b.t_min (cells_on m.cells a)

  track_most : 0 < cells_on m.cells a → remaining (track_of m b a) ≤ cells_on m.cells a
  track_most h = subst (λ (k : ℕ). remaining (track_of m b a) ≤ k) track_cells (left_most (track_of m b a) (track_sound h))

-- ---- the faults

-- each number of a table without a fault is 1 to 128
pub few_on : {n : Cells} → Counted n → (a : Axis) → Few (cells_on n a)
few_on N x_axis = N.x
few_on N y_axis = N.y
few_on N z_axis = N.z

finite_number : (x : Float) → T (finite x) → T (not (is_nan x))
unfolding is_nan
finite_number nan h = absurd h
finite_number (inf s) h = tt
finite_number (fin s m e) h = tt

end_finite : (b : Beam) → beam_fault b ≡ 0 → T (finite b.t_max)
end_finite b e =
    let first = all_finite b.origin && all_finite b.direction && finite b.t_min in
    and_r first (finite b.t_max)
    (and_l (first && finite b.t_max) (not (all_zero b.direction))
    (unless_zero (first && finite b.t_max && not (all_zero b.direction)) 21 e))

-- ---- the ray

module _ (m : Medium) (b : Beam) (table : List Float) (s : State) (e : open_ray m b (length table) ≡ ok s) where
  halves : (table_fault m.cells (length table) ≡ 0) × ((beam_fault b ≡ 0) × (start_of m b ≡ s))
  unfolding open_ray
  halves =
      let p = passing_ok (table_fault m.cells (length table) then each (bounds_fault m) then beam_fault b) (ok (start_of m b)) e in
      let t = then_zero (table_fault m.cells (length table)) (each (bounds_fault m) then beam_fault b) p.0 in
      (t.0, ((then_zero (each (bounds_fault m)) (beam_fault b) t.1).1, ok_injective p.1))

  cells_kept : cells_in (start_of m b) ≡ m.cells
  cells_kept = λ i. cells (track_cells m b x_axis i) (track_cells m b y_axis i) (track_cells m b z_axis i)

  pub opened_at : s.t_min ≡ b.t_min
  opened_at = ap (λ (t : State). t.t_min) (sym halves.1.1)

  start_ready : Ready table (start_of m b) (most m.cells)
  start_ready =
      let some : (a : Axis) → 1 ≤ cells_on m.cells a = λ a. (few_on (tabled m.cells (length table) halves.0).count a).some in
      let few : (a : Axis) → remaining (track_of m b a) ≤ cells_on m.cells a = λ a. track_most m b a (some a) in
      record {
        fitting = ap (λ (c : Cells). table_fault c (length table)) cells_kept ∙ halves.0;
        number = finite_number b.t_max (end_finite b halves.1.0);
        going = inr (
          λ i. track_sound m b x_axis (some x_axis) i && track_sound m b y_axis (some y_axis) i && track_sound m b z_axis (some z_axis) i,
          omega (arith, few x_axis, few y_axis, few z_axis, some x_axis, some y_axis, some z_axis),
        );
      }

  pub opened_ready : Ready table s (most m.cells)
  opened_ready = subst (λ (t : State). Ready table t (most m.cells)) halves.1.1 start_ready

-- an opening with no number has a state
pub opened_state : (m : Medium) (b : Beam) (l : ℕ) → number_of (open_ray m b l) ≡ 0 → open_ray m b l ≡ ok (value_or zero_state (open_ray m b l))
unfolding open_ray
opened_state m b l e = go (table_fault m.cells l then each (bounds_fault m) then beam_fault b) e
  where
    go : (f : ℕ) → number_of (passing f (ok (start_of m b))) ≡ 0
        → passing f (ok (start_of m b)) ≡ ok (value_or zero_state (passing f (ok (start_of m b))))
    go zero e = refl
    go (suc f) e = absurd (omega arith)
