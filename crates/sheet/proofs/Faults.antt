-- Where a layer lies in its table, and how long its page is; and what a sheet without a fault has. Assumes nothing.
use mathlib.Core.Path.{◌≡◌, sym, ap, ◌∙◌}
use mathlib.Core.Bool.{Bool, true}
use mathlib.Core.List.{List}
use Prim.Native.Nat.{ℕ, ◌+◌, ◌*◌, ◌≤◌, ◌<◌}
use native.Mathlib.Nat.{le_trans, le_of_eq, mul_comm}
use native.Mathlib.Omega.{arith}
use lib.Dec.{leb, ltb, leb→le, ltb→lt}
use lib.ListN.{length}
use lib.Ieee.{Float}
use lib.Ieee.Scale.{finite}
use Rattle.refusals.specs.Faults.{◌then◌, unless}
use borrow.Author.Tests.{lt-ltb}
use Rattle.refusals.proofs.FaultSteps.{then_next, then_stop}
use Rattle.refusals.specs.FaultLaws.{then_zero, unless_zero}
use Rattle.cells.specs.Cells.{Cells, table_fault}
use Rattle.cells.specs.Counted.{Counted, tabled}
use Rattle.figures.specs.Figures.{every, figures_fault}
use Rattle.figures.proofs.FigureLaws.{sound}
use Rattle.figures.proofs.Parts.{place_in}
use Rattle.sheet.specs.Sheet.{layer_of, layer_page, sheet_fault}
use Rattle.sheet.proofs.SheetLaws.{row_long, page_length}

module _ (n : Cells) (places : ℕ) (e : table_fault n places ≡ 0) where
  counts : Counted n
  counts = (tabled n places e).count

  pub x_most : n.x ≤ 128
  x_most = counts.x.most

  pub y_most : n.y ≤ 128
  y_most = counts.y.most

  -- the layer is inside the table
  pub layer_fits : (k : ℕ) → k < n.z → k * (n.x * n.y) + n.x * n.y ≤ places
  layer_fits k low =
      le_trans (place_in (n.x * n.y) n.z k low) (le_of_eq (mul_comm n.z (n.x * n.y) ∙ sym (tabled n places e).places_is))

module _ (n : Cells) (k : ℕ) (table : List Float) (e : table_fault n (length table) ≡ 0) (low : k < n.z) where
  pub rows_fit : n.y * n.x ≤ length (layer_of n k table)
  rows_fit = le_of_eq (mul_comm n.y n.x ∙ sym (row_long (n.x * n.y) k table (layer_fits n (length table) e k low)))

  pub page_size : length (layer_page n k table) ≡ 19 + n.y * (n.x + 5)
  page_size =
      let N = counts n (length table) e in
      page_length n.x n.y k (layer_of n k table) (omega (arith, low, N.z.most)) (omega (arith, N.y.most)) rows_fit

  -- ---- the faults behind those of the table and of k

  abbrev lines : ℕ
  lines = length (layer_page n k table)

  behind : (room : ℕ) → sheet_fault n k table room ≡ (figures_fault (layer_of n k table) then unless (leb lines room) 9)
  unfolding sheet_fault
  behind room =
      then_next (table_fault n (length table)) _ e
      ∙ ap (λ (t : Bool). unless t 28 then (figures_fault (layer_of n k table) then unless (leb lines room) 9)) (lt-ltb k n.z low)

  pub figures_out : (room : ℕ) {m : ℕ} → m ≡ figures_fault (layer_of n k table) → (m ≡ 0 → ⊥) → m ≡ sheet_fault n k table room
  figures_out room f some = f ∙ sym (then_stop (figures_fault (layer_of n k table)) _ (λ z. some (f ∙ z))) ∙ sym (behind room)

  pub room_out : (room : ℕ) {t : Bool} → 0 ≡ figures_fault (layer_of n k table) → leb lines room ≡ t → unless t 9 ≡ sheet_fault n k table room
  room_out room f h =
      ap (λ (t : Bool). unless t 9) (sym h) ∙ sym (then_next (figures_fault (layer_of n k table)) _ (sym f)) ∙ sym (behind room)

-- a sheet without a fault
pub record Told (n : Cells) (k : ℕ) (table : List Float) (room : ℕ) : Type 0 where
  pub rows : n.y * n.x ≤ length (layer_of n k table)
  pub real : every finite (layer_of n k table) ≡ true
  pub fits : length (layer_page n k table) ≤ room

pub told : (n : Cells) (k : ℕ) (table : List Float) (room : ℕ) → sheet_fault n k table room ≡ 0 → Told n k table room
unfolding sheet_fault
told n k table room e =
    let figures = figures_fault (layer_of n k table) in
    let last = unless (leb (length (layer_page n k table)) room) 9 in
    let p = then_zero (table_fault n (length table)) (unless (ltb k n.z) 28 then (figures then last)) e in
    let s = then_zero (unless (ltb k n.z) 28) (figures then last) p.1 in
    let r = then_zero figures last s.1 in
    record {
      rows = rows_fit n k table p.0 (ltb→lt k n.z (unless_zero (ltb k n.z) 27 s.0));
      real = (sound (layer_of n k table) r.0).real;
      fits = leb→le (length (layer_page n k table)) room (unless_zero (leb (length (layer_page n k table)) room) 8 r.1);
    }
