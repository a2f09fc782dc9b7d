-- The cell that the three axes find, and that there is none where one axis finds none. Assumes nothing.
use Rattle.std.specs.Prelude.{◌≡◌, ℕ, ◌<◌}
use Rattle.std.proofs.Common.{sym, ap, ◌∙◌, le_of_eq, subst}
use Rattle.cells.specs.Cells.{cell_count}
use Rattle.medium.specs.Medium.{Medium, Point, Axis, x_axis, y_axis, z_axis, on_point}
use Rattle.index.specs.Axes.{Line, line_of}
use Rattle.index.specs.Cells.{cells_on, cell_of}
use Rattle.index.specs.Found.{axis_cell, cell_on, cell_at}
use Rattle.index.proofs.Enclosed.{cell_lt, cell_met, cell_none}

-- `l` is the line of axis `a`, and `k` what it found of the point there
module _ (m : Medium) (p : Point) (a : Axis) {l : Line} (e : l ≡ line_of m a) where
  abbrev found_on : Line → ℕ
  found_on l = axis_cell l.low l.high (cells_on m.cells a) (on_point a p)

  on_axis : {k : ℕ} → found_on l ≡ k → cell_on m m.cells p a ≡ k
  on_axis h = sym (ap found_on e) ∙ h

  pub axis_none : found_on l ≡ cells_on m.cells a → cell_at m m.cells p ≡ cell_count m.cells
  axis_none h = cell_none m m.cells p a (le_of_eq (sym (on_axis h)))

  pub record Met (k : ℕ) : Type 0 where
    pub is : cell_on m m.cells p a ≡ k
    pub within : k < cells_on m.cells a

  pub axis_met : {k : ℕ} → (k < cells_on m.cells a) × (found_on l ≡ k) → Met k
  axis_met h = record { is = on_axis h.1; within = h.0 }

module _ (m : Medium) (p : Point) {lx ly lz : Line} {ex : lx ≡ line_of m x_axis} {ey : ly ≡ line_of m y_axis} {ez : lz ≡ line_of m z_axis}
    {x y z : ℕ} (X : Met m p x_axis ex x) (Y : Met m p y_axis ey y) (Z : Met m p z_axis ez z) where
  pub cell_is : (cell_of m.cells x y z < cell_count m.cells) × (cell_at m m.cells p ≡ cell_of m.cells x y z)
  cell_is = (
    cell_lt m.cells x y z X.within Y.within Z.within,
    cell_met m m.cells p (λ a. elim a as (λ b. cell_on m m.cells p b < cells_on m.cells b) [
      | x_axis ↦ subst (λ (k : ℕ). k < m.cells.x) (sym X.is) X.within
      | y_axis ↦ subst (λ (k : ℕ). k < m.cells.y) (sym Y.is) Y.within
      | z_axis ↦ subst (λ (k : ℕ). k < m.cells.z) (sym Z.is) Z.within
    ])
        ∙ (λ t. cell_of m.cells (X.is t) (Y.is t) (Z.is t)),
  )
