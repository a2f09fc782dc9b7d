-- The faults before the cells, and the answer of a build. Assumes nothing.
use Rattle.std.specs.Prelude.{◌≡◌, ℕ, zero, suc, List}
use Rattle.std.proofs.Common.{refl, sym, ap, ◌∙◌, arith}
use lib.Ieee.{Float}
use Rattle.refusals.specs.Results.{Result, ok}
use Rattle.refusals.specs.Faults.{◌then◌, passing}
use Rattle.refusals.specs.FaultLaws.{then_zero}
use Rattle.refusals.proofs.FaultSteps.{then_stop, passing_stop, passing_on}
use Rattle.sparse_grid.specs.Tables.{Grid}
use Rattle.sparse_grid.specs.Validate.{validate, density_fault}
use Rattle.sparse_grid.specs.Lookup.{read_in}
use Rattle.medium.specs.Medium.{Medium, bounds_fault, index_fault, map_fault, medium_fault, each}
use Rattle.cells.specs.Cells.{cell_count, table_fault}
use Rattle.cells.specs.Counted.{Tabled, tabled}
use Rattle.boxes.specs.Boxes.{box_maximum}
use Rattle.majorant.specs.Figures.{figures}
use Rattle.majorant.specs.Build.{build, build_into}

module _ (g : Grid) (m : Medium) (places : ℕ) where
  abbrev faults : ℕ
  faults = table_fault m.cells places then (validate g then (density_fault g then medium_fault m))

  abbrev every : Result (List Float)
  every = figures (box_maximum (read_in g)) m m.cells (cell_count m.cells)

  into_is : build_into g m places ≡ passing faults every
  unfolding build_into build
  into_is = sym (passing_then (table_fault m.cells places) (validate g then (density_fault g then medium_fault m)) every)
    where
      passing_then : {A : Type 0} (a b : ℕ) (r : Result A) → passing (a then b) r ≡ passing a (passing b r)
      passing_then zero b r = refl
      passing_then (suc a) b r = ap (λ (k : ℕ). passing k r) (then_stop (suc a) b (λ (e : suc a ≡ 0). omega arith))

  -- a fault before the cells is the answer, whatever stands in the table
  pub build_stops : {f : ℕ} (t : List Float) → f ≡ faults → (f ≡ 0 → ⊥) → passing f (ok t) ≡ build_into g m places
  build_stops {f} t e h = passing_stop f (ok t) h ∙ sym (into_is ∙ ap (λ (k : ℕ). passing k every) (sym e) ∙ passing_stop f every h)

  -- with none, the grid, the map and the table pass, and the figures are the answer
  pub build_passed : 0 ≡ faults → (validate g ≡ 0) × (map_fault m ≡ 0) × Tabled m.cells places
  build_passed e =
      let p = then_zero (table_fault m.cells places) (validate g then (density_fault g then medium_fault m)) (sym e) in
      let grid = then_zero (validate g) (density_fault g then medium_fault m) p.1 in
      let medium = (then_zero (density_fault g) (medium_fault m) grid.1).1 in
      let index = (then_zero (each (bounds_fault m)) (each (index_fault m) then map_fault m) medium).1 in
      (grid.0, (then_zero (each (index_fault m)) (map_fault m) index).1, tabled m.cells places p.0)

  pub build_figures : 0 ≡ faults → every ≡ build_into g m places
  build_figures e = sym (into_is ∙ passing_on faults every (sym e))
