-- The faults of a push and of an opening in their order. Assumes nothing.
use mathlib.Core.Path.{◌≡◌, sym, ◌∙◌, subst}
use mathlib.Core.Bool.{Bool, true, false, ◌&&◌}
use Prim.Native.Nat.{ℕ, ◌*◌, ◌≤◌}
use lib.Dec.{eqb}
use lib.ListN.{length}
use Rattle.refusals.specs.Faults.{◌then◌, unless}
use Rattle.refusals.proofs.FaultSteps.{then_next, then_stop}
use Rattle.cells.specs.Cells.{Cells, cells_fault, cell_count, table_length}
use Rattle.cells.specs.Counted.{counted, length_is, count_small}
use Rattle.figures.specs.Figures.{figures_fault}
use Rattle.window.specs.Window.{Table, width_in, fits_window, fits_lengths, fault_of, open_fault}
use Rattle.window.specs.declared.Window.{Window}

-- ---- a length that the code asks for behind the test of the numbers

pub count_is : (n : Cells) {m : ℕ} → cells_fault n ≡ 0 → m ≡ table_length n → m ≡ cell_count n
count_is n e f = f ∙ length_is n e

pub count_most : (n : Cells) {m : ℕ} → cells_fault n ≡ 0 → m ≡ table_length n → m ≤ 2097152
count_most n e f = subst (λ (k : ℕ). k ≤ 2097152) (sym (f ∙ length_is n e)) (count_small n (counted n e))

-- ---- a push

-- what it is asked of: the window, the lengths of memory and answer, the table
pub record Asked : Type 0 where
  pub window : Window
  pub memory : ℕ
  pub answer : ℕ
  pub table : Table

abbrev pub fault : Asked → ℕ
fault q = fault_of q.window q.memory q.answer q.table

abbrev pub fits : Asked → Bool
fits q = fits_window q.window q.table.cells

abbrev pub lengths : Asked → ℕ → Bool
lengths q n = fits_lengths q.window n (length q.table.figures) q.memory q.answer

abbrev figures : Asked → ℕ
figures q = figures_fault q.table.figures

module _ (q : Asked) where
  abbrev behind : Bool → Bool → ℕ
  behind s t = unless s 26 then unless t 18 then figures q

  pub cells_out : {r : ℕ} → r ≡ cells_fault q.table.cells → (r ≡ 0 → ⊥) → r ≡ fault q
  unfolding fault_of
  cells_out e h = e ∙ sym (then_stop (cells_fault q.table.cells) (behind (fits q) (lengths q (cell_count q.table.cells))) (λ z. h (e ∙ z)))

  by_tests : cells_fault q.table.cells ≡ 0 → {s t : Bool} → fits q ≡ s → lengths q (cell_count q.table.cells) ≡ t → behind s t ≡ fault q
  unfolding fault_of
  by_tests e f g =
      sym (then_next (cells_fault q.table.cells) (behind (fits q) (lengths q (cell_count q.table.cells))) e ∙ (λ i. behind (f i) (g i)))

  pub window_out : cells_fault q.table.cells ≡ 0 → fits q ≡ false → 26 ≡ fault q
  window_out e f = by_tests e f (λ i. lengths q (cell_count q.table.cells))

  pub lengths_out : cells_fault q.table.cells ≡ 0 → fits q ≡ true → lengths q (cell_count q.table.cells) ≡ false → 18 ≡ fault q
  lengths_out e f g = by_tests e f g

  pub figures_out : {r : ℕ} → cells_fault q.table.cells ≡ 0 → fits q ≡ true → lengths q (cell_count q.table.cells) ≡ true → r ≡ figures q → r ≡ fault q
  figures_out e f g h = h ∙ by_tests e f g

-- ---- an opening

module _ (w : ℕ) (n : Cells) (memory answer : ℕ) where
  abbrev long : Bool
  long = eqb memory (w * cell_count n) && eqb answer (cell_count n)

  pub open_cells : {r : ℕ} → r ≡ cells_fault n → (r ≡ 0 → ⊥) → r ≡ open_fault w n memory answer
  unfolding open_fault
  open_cells e h = e ∙ sym (then_stop (cells_fault n) (unless (width_in w) 26 then unless long 18) (λ z. h (e ∙ z)))

  pub open_out : cells_fault n ≡ 0 → {s t : Bool} → width_in w ≡ s → long ≡ t → (unless s 26 then unless t 18) ≡ open_fault w n memory answer
  unfolding open_fault
  open_out e f g = sym (then_next (cells_fault n) (unless (width_in w) 26 then unless long 18) e ∙ (λ i. unless (f i) 26 then unless (g i) 18))
