-- The cells row after row are the figures in order; a second box within the first needs no search. Assumes nothing.
use Rattle.std.specs.Prelude.{◌≤◌, length, take, Result as Answer, ◌≡◌, ℕ, zero, suc, ◌+◌, ◌*◌, ◌/◌, ◌%◌, ◌<◌, Bool, true, false, not, ◌&&◌, T, List, [], int_le, Float}
use Rattle.std.proofs.Math.Path.{refl, sym, ap}
use Rattle.std.proofs.Common.{◌∙◌, get_or-take, length-take-le}
use native.Mathlib.Nat.{div-add-mod', div-lt_iff_lt-mul, mod-lt, mul_assoc, mul_comm, mul_left_comm, add-zero, zero-mul}
use native.Mathlib.Omega.{arith}
use Rattle.std.specs.Int.Signed.{le_z_yes}
use Rattle.std.specs.Float.Ieee.{lt}
use Rattle.refusals.specs.Results.{Result, ok, refused, bind, need}
use Rattle.refusals.specs.TestLaws.{and_l, and_r}
use Rattle.float.proofs.Tests.{yes}
use Rattle.layout.specs.Coordinates.{Coord}
use Rattle.medium.specs.Medium.{Medium, x_axis, y_axis, z_axis, map_fault}
use Rattle.index.specs.Cells.{Cells, cell_of}
use Rattle.index.specs.Axes.{Both, axis_ends, line_of, ends_at}
use Rattle.index.proofs.Alone.{boxes_alone}
use Rattle.index.proofs.Enclosed.{cell_x, cell_y, cell_z}
use Rattle.index.specs.Outcomes.{as_both, said_as}
use Rattle.index.specs.declared.CellEnds.{CellEnds}
use Rattle.refusals.specs.declared.Refusal.{Refusal}
use Rattle.cells.specs.Cells.{cell_count}
use Rattle.medium.specs.Medium.{Axis}
use Rattle.index.specs.Axes.{Line}
use Rattle.boxes.specs.Boxes.{Box, box_maximum}
use Rattle.majorant.specs.Figures.{figure, figures}
use Rattle.boxes.proofs.Offsets.{le_z_through}
use Rattle.boxes.proofs.Maximum.{greatest}
use Rattle.boxes.proofs.Greatest.{greatest_within}
use Rattle.majorant.specs.Rows.{none, ends_in, box_made, first_box, second_box, first_holds, box_figure, cell_figure, chain, push, row_of, plane_of, volume_of, rows_of}

-- ---- a second box within the first
pub held : (read : Coord → Float) (x y z : Both) → (first_holds x && first_holds y && first_holds z) ≡ true
    → lt (box_maximum read (first_box x y z)) (box_maximum read (second_box x y z)) ≡ false
held read x y z e =
    let t : T (first_holds x && first_holds y && first_holds z) = yes e in
    let xy = and_l (first_holds x && first_holds y) (first_holds z) t in
    let X = and_l (first_holds x) (first_holds y) xy in
    let Y = and_r (first_holds x) (first_holds y) xy in
    let Z = and_r (first_holds x && first_holds y) (first_holds z) t in
    greatest_within read (first_box x y z) (second_box x y z) (λ c i. record {
      x_low = le_z_yes (le_z_through x.first.lo x.second.lo c.x (low x X) i.x_low.le);
      x_high = le_z_yes (le_z_through c.x x.second.hi x.first.hi i.x_high.le (high x X));
      y_low = le_z_yes (le_z_through y.first.lo y.second.lo c.y (low y Y) i.y_low.le);
      y_high = le_z_yes (le_z_through c.y y.second.hi y.first.hi i.y_high.le (high y Y));
      z_low = le_z_yes (le_z_through z.first.lo z.second.lo c.z (low z Z) i.z_low.le);
      z_high = le_z_yes (le_z_through c.z z.second.hi z.first.hi i.z_high.le (high z Z));
    }) (greatest read (first_box x y z)) (greatest read (second_box x y z))
  where
    low : (a : Both) → T (first_holds a) → T (int_le a.first.lo a.second.lo)
    low a h = and_l (int_le a.first.lo a.second.lo) (int_le a.second.hi a.first.hi) h

    high : (a : Both) → T (first_holds a) → T (int_le a.second.hi a.first.hi)
    high a h = and_r (int_le a.first.lo a.second.lo) (int_le a.second.hi a.first.hi) h

-- so it needs no search
pub held_figure : (read : Coord → Float) (x y z : Both) → first_holds x ≡ true → first_holds y ≡ true → first_holds z ≡ true
    → box_figure (box_maximum read) (first_box x y z) (second_box x y z) ≡ ok (box_maximum read (first_box x y z))
held_figure read x y z X Y Z =
    ap (λ (t : Bool). need (not t) 17 (ok (box_maximum read (first_box x y z)))) (held read x y z (λ i. X i && Y i && Z i))

-- ---- a cell by its axes
cell_alone : (maximum : Box → Float) (m : Medium) → map_fault m ≡ 0 → (n : Cells) (k : ℕ)
    → figure maximum m n k ≡ cell_figure maximum (ends_at m n k x_axis) (ends_at m n k y_axis) (ends_at m n k z_axis)
unfolding figure cell_figure
cell_alone maximum m M n k = boxes_alone m M n k box_made (box_figure maximum)

-- ---- the figures from a place on
bind_again : {A B C : Type 0} (r : Result A) (f : A → Result B) (g : B → Result C) → bind (bind r f) g ≡ bind r (λ (a : A). bind (f a) g)
bind_again (ok a) f g = refl
bind_again (refused n) f g = refl

bind_same : {A B : Type 0} (r : Result A) (f g : A → Result B) → ((a : A) → f a ≡ g a) → bind r f ≡ bind r g
bind_same (ok a) f g h = h a
bind_same (refused n) f g h = refl

-- what a run of steps adds to the figures before it, where one step adds `size` figures
module _ (maximum : Box → Float) (m : Medium) (n : Cells) (start size : ℕ) (step : ℕ → List Float → Result (List Float)) where
  abbrev F : ℕ → Result (List Float)
  F c = figures maximum m n c

  run_is : (c : ℕ) → ((i : ℕ) → i < c → bind (F (start + i * size)) (step i) ≡ F (start + suc i * size)) → bind (F start) (chain step c) ≡ F (start + c * size)
  unfolding chain
  run_is zero h = whole (F start) ∙ ap F (none start size)
    where
      whole : (r : Result (List Float)) → bind r (λ (l : List Float). ok l) ≡ r
      whole (ok l) = refl
      whole (refused k) = refl

      none : (a b : ℕ) → a ≡ a + 0 * b
      none a b = sym (ap (λ (x : ℕ). a + x) (zero-mul b) ∙ add-zero a)
  run_is (suc c) h =
      sym (bind_again (F start) (chain step c) (step c)) ∙ ap (λ (r : Result (List Float)). bind r (step c)) (run_is c (λ i l. h i (more i c l))) ∙ h c (last c)
    where
      more : (i c : ℕ) → i < c → i < suc c
      more i c h = omega arith

      last : (c : ℕ) → c < suc c
      last c = omega arith

module _ (maximum : Box → Float) (m : Medium) (M : map_fault m ≡ 0) (n : Cells) (xs ys zs : ℕ → Result Both)
    (hx : (i : ℕ) → i < n.x → xs i ≡ axis_ends (line_of m x_axis) n.x i) (hy : (i : ℕ) → i < n.y → ys i ≡ axis_ends (line_of m y_axis) n.y i)
    (hz : (i : ℕ) → i < n.z → zs i ≡ axis_ends (line_of m z_axis) n.z i) where
  cell_is : (x y z : ℕ) → x < n.x → y < n.y → z < n.z → cell_figure maximum (xs x) (ys y) (zs z) ≡ figure maximum m n (cell_of n x y z)
  cell_is x y z X Y Z =
      (λ t. cell_figure maximum ((hx x X ∙ ap (axis_ends (line_of m x_axis) n.x) (sym (cell_x n x y z X Y Z))) t)
      ((hy y Y ∙ ap (axis_ends (line_of m y_axis) n.y) (sym (cell_y n x y z X Y Z))) t)
      ((hz z Z ∙ ap (axis_ends (line_of m z_axis) n.z) (sym (cell_z n x y z X Y Z))) t))
      ∙ sym (cell_alone maximum m M n (cell_of n x y z))

  abbrev row_start : ℕ → ℕ → ℕ
  row_start y z = (z * n.y + y) * n.x

  next_figure : (c k : ℕ) → c ≡ k → bind (figures maximum m n c) (push (figure maximum m n k)) ≡ figures maximum m n (suc c)
  unfolding figures
  next_figure c k e = ap (λ (k : ℕ). bind (figures maximum m n c) (push (figure maximum m n k))) (sym e)

  row_is : (y z : ℕ) → y < n.y → z < n.z
      → bind (figures maximum m n (row_start y z)) (row_of maximum xs (ys y) (zs z) n.x) ≡ figures maximum m n (row_start y z + n.x)
  unfolding row_of
  row_is y z Y Z =
      run_is maximum m n (row_start y z) 1 (λ i. push (cell_figure maximum (xs i) (ys y) (zs z))) n.x (λ i I.
      bind_same (figures maximum m n (row_start y z + i * 1)) (push (cell_figure maximum (xs i) (ys y) (zs z)))
      (push (figure maximum m n (cell_of n i y z))) (λ l. ap (λ (r : Result Float). push r l) (cell_is i y z I Y Z))
      ∙ next_figure (row_start y z + i * 1) (cell_of n i y z) (once (row_start y z) i) ∙ ap (figures maximum m n) (sum (row_start y z) i))
      ∙ ap (figures maximum m n) (once (row_start y z) n.x)
    where
      once : (a i : ℕ) → a + i * 1 ≡ a + i
      once a i = omega arith

      sum : (a i : ℕ) → suc (a + i * 1) ≡ a + suc i * 1
      sum a i = omega arith

  plane_is : (z : ℕ) → z < n.z
      → bind (figures maximum m n (z * (n.y * n.x))) (plane_of maximum xs ys (zs z) n.x n.y) ≡ figures maximum m n (z * (n.y * n.x) + n.y * n.x)
  unfolding plane_of
  plane_is z Z = run_is maximum m n (z * (n.y * n.x)) n.x (λ j. row_of maximum xs (ys j) (zs z) n.x) n.y (λ j J.
      ap (λ (c : ℕ). bind (figures maximum m n c) (row_of maximum xs (ys j) (zs z) n.x)) (from z n.y n.x j)
      ∙ row_is j z J Z ∙ ap (figures maximum m n) (to z n.y n.x j))
    where
      from : (z b a j : ℕ) → z * (b * a) + j * a ≡ (z * b + j) * a
      from z b a j = ap (λ (x : ℕ). x + j * a) (sym (mul_assoc z b a)) ∙ sym (native.Mathlib.Nat.add-mul (z * b) j a)

      to : (z b a j : ℕ) → (z * b + j) * a + a ≡ z * (b * a) + suc j * a
      to z b a j =
          ap (λ (x : ℕ). x + a) (sym (from z b a j)) ∙ native.Mathlib.Nat.add_assoc (z * (b * a)) (j * a) a
          ∙ ap (λ (x : ℕ). z * (b * a) + x) (sym (native.Mathlib.Nat.suc-mul j a))

  pub volume_is : volume_of maximum xs ys zs n.x n.y n.z [] ≡ figures maximum m n (n.x * n.y * n.z)
  unfolding volume_of figures
  volume_is = run_is maximum m n 0 (n.y * n.x) (λ k. plane_of maximum xs ys (zs k) n.x n.y) n.z (λ k K.
      ap (λ (c : ℕ). bind (figures maximum m n c) (plane_of maximum xs ys (zs k) n.x n.y)) (native.Mathlib.Nat.zero-add (k * (n.y * n.x)))
      ∙ plane_is k K ∙ ap (figures maximum m n) (to k (n.y * n.x)))
      ∙ ap (figures maximum m n) (native.Mathlib.Nat.zero-add (n.z * (n.y * n.x)) ∙ turn n.x n.y n.z)
    where
      to : (k a : ℕ) → k * a + a ≡ 0 + suc k * a
      to k a = sym (native.Mathlib.Nat.suc-mul k a) ∙ sym (native.Mathlib.Nat.zero-add (suc k * a))

      turn : (x y z : ℕ) → z * (y * x) ≡ x * y * z
      turn x y z = simp (mul_assoc, mul_comm, mul_left_comm)

  -- the first r rows are the figures of their cells
  pub rows_are : 0 < n.y → rows_of maximum xs ys zs n.x n.y (n.z * n.y) [] ≡ figures maximum m n (n.x * n.y * n.z)
  unfolding rows_of figures
  rows_are pos = run_is maximum m n 0 n.x (λ r. row_of maximum xs (ys (r % n.y)) (zs (r / n.y)) n.x) (n.z * n.y) (λ r R.
      ap (λ (c : ℕ). bind (figures maximum m n c) (row_of maximum xs (ys (r % n.y)) (zs (r / n.y)) n.x)) (from r) ∙ row_is (r % n.y) (r / n.y)
      (mod-lt r pos) ((div-lt_iff_lt-mul pos).1 R) ∙ ap (figures maximum m n) (to r))
      ∙ ap (figures maximum m n) (native.Mathlib.Nat.zero-add (n.z * n.y * n.x) ∙ turn n.x n.y n.z)
    where
      from : (r : ℕ) → 0 + r * n.x ≡ row_start (r % n.y) (r / n.y)
      from r = native.Mathlib.Nat.zero-add (r * n.x) ∙ ap (λ (k : ℕ). k * n.x) (sym (div-add-mod' r n.y))

      to : (r : ℕ) → row_start (r % n.y) (r / n.y) + n.x ≡ 0 + suc r * n.x
      to r = ap (λ (k : ℕ). k + n.x) (sym (from r))
          ∙ native.Mathlib.Nat.add_assoc 0 (r * n.x) n.x ∙ ap (λ (k : ℕ). 0 + k) (sym (native.Mathlib.Nat.suc-mul r n.x))

      turn : (x y z : ℕ) → z * y * x ≡ x * y * z
      turn x y z = simp (mul_assoc, mul_comm, mul_left_comm)

-- the front of an axis's table that holds the ends of its n cells
pub record Front (m : Medium) (a : Axis) (n : ℕ) (s : List (Answer CellEnds Refusal)) : Type 0 where
  pub long : length s ≡ n
  pub ends : (i : ℕ) → i < n → ends_in s i ≡ axis_ends (line_of m a) n i

pub front : (m : Medium) (a : Axis) (n : ℕ) (l : Line) (t : List (Answer CellEnds Refusal)) → n ≤ length t → l ≡ line_of m a
    → ((i : ℕ) → i < n → ends_in t i ≡ axis_ends l n i) → Front m a n (take n t)
front m a n l t k e f = record {
  long = length-take-le n t k;
  ends = λ i h. ap (λ (x : Answer CellEnds Refusal). said_as as_both x) (get_or-take n t i none h) ∙ f i h ∙ ap (λ (l : Line). axis_ends l n i) e;
}

-- the rows of three fronts are the figures of all cells
module _ (m : Medium) (n : Cells) {xs ys zs : List (Answer CellEnds Refusal)} (x : Front m x_axis n.x xs) (y : Front m y_axis n.y ys)
    (z : Front m z_axis n.z zs) where
  pub count_is : length zs * length ys * length xs ≡ cell_count n
  count_is = (λ t. z.long t * y.long t * x.long t) ∙ turn n.x n.y n.z
    where
      turn : (x y z : ℕ) → z * y * x ≡ x * y * z
      turn x y z = simp (mul_assoc, mul_comm, mul_left_comm)

  pub cells_are : (maximum : Box → Float) → map_fault m ≡ 0 → 0 < n.y
      → rows_of maximum (ends_in xs) (ends_in ys) (ends_in zs) (length xs) (length ys) (length zs * length ys) [] ≡ figures maximum m n (cell_count n)
  cells_are maximum M pos =
      (λ t. rows_of maximum (ends_in xs) (ends_in ys) (ends_in zs) (x.long t) (y.long t) (z.long t * y.long t) [])
      ∙ rows_are maximum m M n (ends_in xs) (ends_in ys) (ends_in zs) x.ends y.ends z.ends pos
