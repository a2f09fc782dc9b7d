-- The ways out of an opening: 23 or 18 for the table, 4 for the world box, 22 for the beam, or the three axes. Assumes nothing.
use Rattle.std.proofs.Common.{◌≡◌, ℕ, ◌≤◌, sym, ap, ◌∙◌}
use Rattle.refusals.specs.Results.{ok, refused}
use Rattle.refusals.specs.Faults.{◌then◌}
use Rattle.refusals.proofs.FaultSteps.{then_next, then_stop, passing_stop, passing_on}
use Rattle.cells.specs.Cells.{table_fault}
use Rattle.cells.specs.Counted.{tabled}
use Rattle.medium.specs.Medium.{Medium, Axis, each, bounds_fault}
use Rattle.index.specs.Cells.{cells_on}
use Rattle.rays.specs.Open.{Beam, beam_fault, start_of, open_ray}
use Rattle.rays.proofs.OpenedLaws.{few_on}

-- past the first test each number of cells is one of 1 to 128
pub few_cells : (m : Medium) (l : ℕ) (a : Axis) → 0 ≡ table_fault m.cells l → (1 ≤ cells_on m.cells a) × (cells_on m.cells a ≤ 128)
few_cells m l a e = let few = few_on (tabled m.cells l (sym e)).count a in (few.some, few.most)

module _ (m : Medium) (b : Beam) (l : ℕ) where
  abbrev table : ℕ
  table = table_fault m.cells l

  abbrev bounds : ℕ
  bounds = each (bounds_fault m)

  -- a fault is the opening's refusal
  by_fault : {k : ℕ} → k ≡ (table then bounds then beam_fault b) → (k ≡ 0 → ⊥) → refused k ≡ open_ray m b l
  unfolding open_ray
  by_fault e h = ap refused e ∙ sym (passing_stop (table then bounds then beam_fault b) (ok (start_of m b)) (λ z. h (e ∙ z)))

  pub table_stops : {k : ℕ} → k ≡ table → (k ≡ 0 → ⊥) → refused k ≡ open_ray m b l
  table_stops e h = by_fault (e ∙ sym (then_stop table (bounds then beam_fault b) (λ z. h (e ∙ z)))) h

  pub bounds_stop : {k : ℕ} → 0 ≡ table → k ≡ bounds → (k ≡ 0 → ⊥) → refused k ≡ open_ray m b l
  bounds_stop t e h =
      by_fault (e ∙ sym (then_stop bounds (beam_fault b) (λ z. h (e ∙ z))) ∙ sym (then_next table (bounds then beam_fault b) (sym t))) h

  pub beam_stops : {k : ℕ} → 0 ≡ table → 0 ≡ bounds → k ≡ beam_fault b → (k ≡ 0 → ⊥) → refused k ≡ open_ray m b l
  beam_stops t s e h =
      by_fault (e ∙ sym (then_next bounds (beam_fault b) (sym s)) ∙ sym (then_next table (bounds then beam_fault b) (sym t))) h

  pub none_stops : 0 ≡ table → 0 ≡ bounds → 0 ≡ beam_fault b → ok (start_of m b) ≡ open_ray m b l
  unfolding open_ray
  none_stops t s e =
      let none = then_next table (bounds then beam_fault b) (sym t) ∙ then_next bounds (beam_fault b) (sym s) ∙ sym e in
      sym (passing_on (table then bounds then beam_fault b) (ok (start_of m b)) none)

pub ruleset stops = (table_stops, bounds_stop, beam_stops, none_stops)
