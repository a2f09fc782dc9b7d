-- The figure of a cell that encloses a point is no smaller than any of the eight voxels around the point. Assumes nothing.
use Rattle.std.specs.Prelude.{◌≡◌, ℕ, zero, suc, ◌+◌, ◌^◌, ◌<◌, false, not, T, ◌⊎◌, List, [], ◌∷◌, ◌++◌, length, get_or, ℤ, int_le, slice_index_or, Float}
use Rattle.std.proofs.Common.{sym, ap, ◌∙◌, subst, inl, inr, length-append}
use native.Mathlib.Nat.{eq-or-lt_of_le, le_of_suc-le-suc}
use Rattle.std.proofs.Math.IntN.{suc_ℤ}
use Rattle.std.specs.Int.Signed.{mag, le_z_yes}
use Rattle.std.proofs.Math.ListN.{get_or-append}
use Rattle.std.proofs.Math.Seq.{get_or-append_seam}
use Rattle.std.specs.Float.Ieee.{lt, add}
use Rattle.std.specs.Float.{binary64}
use Rattle.refusals.specs.FaultLaws.{then_zero, passing_ok}
use Rattle.float.specs.Fused.{floor}
use Rattle.float.specs.Integer.{floor_z}
use Rattle.float.proofs.Floors.{floor_z_rises, End, low_end, high_end, mag_between}
use Rattle.float.specs.Zero.{+0}
use Rattle.float.specs.Coordinate.{coordinate}
use Rattle.float.proofs.Ordered.{not_lt_through}
use Rattle.std.specs.Float.Ieee.Bits.{is_false}
use Rattle.medium.specs.Medium.{x_axis, y_axis, z_axis}
use Rattle.refusals.specs.Faults.{◌then◌}
use Rattle.refusals.specs.ResultLaws.{bind_ok, need_ok, ok_injective}
use Rattle.layout.specs.Coordinates.{Coord, Signed32}
use Rattle.sparse_grid.specs.Tables.{Grid}
use Rattle.sparse_grid.specs.Validate.{validate, density_fault}
use Rattle.sparse_grid.specs.Lookup.{read_in}
use Rattle.medium.specs.Medium.{Point, Medium, Axis, on_coord, bounds_fault, index_fault, map_fault, medium_fault, each}
use Rattle.boxes.specs.Boxes.{Box, box_maximum}
use Rattle.majorant.specs.Figures.{box_of, figure, figures}
use Rattle.cells.specs.Cells.{cell_count}
use Rattle.index.specs.Cells.{Cells, cell_corner, Ends, one, second_ends, first_ends, AroundIn, EnclosesIn}
use Rattle.index.specs.Index.{world_to_index}
use Rattle.majorant.specs.Build.{build}
use Rattle.boxes.proofs.Offsets.{le_z_through, le_z_suc, suc_rises}
use Rattle.boxes.proofs.Maximum.{greatest, max_number}
use Rattle.index.proofs.Middle.{Scaled, scaled, index_mid}
use Rattle.refusals.specs.Results.{Result, ok, bind, need}

-- ---- the figures, one by one
figures_at : (maximum : Box → Float) (m : Medium) (n : Cells) (c : ℕ) (l : List Float) → figures maximum m n c ≡ ok l
    → (length l ≡ c) × ((k : ℕ) → k < c → figure maximum m n k ≡ ok (slice_index_or l k +0))
unfolding figures
figures_at maximum m n zero l e = (ap length (sym (ok_injective e)), λ k h. absurd (native.Mathlib.Nat.not-suc-le-zero h))
figures_at maximum m n (suc c) l e =
    let (l', p, q) = bind_ok (figures maximum m n c) (λ (l : List Float). bind (figure maximum m n c) (λ (v : Float). ok (l ++ (v ∷ [])))) e in
    let (v, r, s) = bind_ok (figure maximum m n c) (λ (v : Float). ok (l' ++ (v ∷ []))) q in
    more l' v (figures_at maximum m n c l' p) r (ok_injective s)
  where
    more : (l' : List Float) (v : Float) → (length l' ≡ c) × ((k : ℕ) → k < c → figure maximum m n k ≡ ok (slice_index_or l' k +0))
        → figure maximum m n c ≡ ok v → l' ++ (v ∷ []) ≡ l → (length l ≡ suc c) × ((k : ℕ) → k < suc c → figure maximum m n k ≡ ok (slice_index_or l k +0))
    more l' v (z, f) r s = (
      ap length (sym s) ∙ length-append l' (v ∷ []) ∙ ap (λ (x : ℕ). x + 1) z ∙ native.Mathlib.Numerals.add-one c,
      λ k h. elim (eq-or-lt_of_le (le_of_suc-le-suc h)) [
        | inl e ↦ ap (figure maximum m n) e ∙ r
            ∙ ap ok (sym (ap (λ (x : List Float). get_or x k +0) (sym s) ∙ ap (λ (i : ℕ). get_or (l' ++ (v ∷ [])) i +0) (e ∙ sym z)
            ∙ get_or-append_seam l' v [] +0))
        | inr j ↦ f k j ∙ ap ok (sym (ap (λ (x : List Float). get_or x k +0) (sym s) ∙ get_or-append l' (v ∷ []) +0 k (subst (λ (i : ℕ). k < i) (sym z) j)))
      ],
    )

-- ---- one figure
record Cell (maximum : Box → Float) (m : Medium) (n : Cells) (k : ℕ) (v : Float) : Type 0 where
  first : Box
  second : Box
  accepted : box_of (second_ends m n k) ≡ ok second
  is : v ≡ maximum first
  above : lt (maximum first) (maximum second) ≡ false

cell : (maximum : Box → Float) (m : Medium) (n : Cells) (k : ℕ) (v : Float) → figure maximum m n k ≡ ok v → Cell maximum m n k v
unfolding figure
cell maximum m n k v e =
    let (f, p, q) = bind_ok (box_of (first_ends m n k))
    (λ (f : Box). bind (box_of (second_ends m n k)) (λ (s : Box). need (not (lt (maximum f) (maximum s))) 17 (ok (maximum f)))) e in
    let (s, r, t) = bind_ok (box_of (second_ends m n k)) (λ (s : Box). need (not (lt (maximum f) (maximum s))) 17 (ok (maximum f))) q in
    let u = need_ok (not (lt (maximum f) (maximum s))) 17 (ok (maximum f)) t in
    record { first = f; second = s; accepted = r; is = sym (ok_injective u.1); above = is_false (lt (maximum f) (maximum s)) u.0 }

-- ---- the ends of a box
abbrev EndsOf : (Axis → Result Ends) → Box → Axis → Type 0
EndsOf f s a = f a ≡ ok (record { lo = on_coord a s.lo; hi = on_coord a s.hi })

ends_of_lem : (f : Axis → Result Ends) (s : Box) → box_of f ≡ ok s → (a : Axis) → EndsOf f s a
ends_of_lem f s e =
    let (x, p, q) = bind_ok (f x_axis) (λ (x : Ends). bind (f y_axis) (λ (y : Ends). bind (f z_axis) (λ (z : Ends). ok (made x y z)))) e in
    let (y, r, t) = bind_ok (f y_axis) (λ (y : Ends). bind (f z_axis) (λ (z : Ends). ok (made x y z))) q in
    let (z, u, v) = bind_ok (f z_axis) (λ (z : Ends). ok (made x y z)) t in
    all x y z p r u (ok_injective v)
  where
    made : Ends → Ends → Ends → Box
    made x y z = record { lo = record { x = x.lo; y = y.lo; z = z.lo }; hi = record { x = x.hi; y = y.hi; z = z.hi } }

    all : (x y z : Ends) → f x_axis ≡ ok x → f y_axis ≡ ok y → f z_axis ≡ ok z → made x y z ≡ s → (a : Axis) → EndsOf f s a
    all x y z p r u e = subst (λ (s : Box). (a : Axis) → EndsOf f s a) e (λ a. elim a as (EndsOf f (made x y z)) [ x_axis ↦ p | y_axis ↦ r | z_axis ↦ u ])

record Floored (m : Medium) (n : Cells) (k : ℕ) (s : Box) (a : Axis) : Type 0 where
  low : End (world_to_index m (cell_corner m n k 0) a) (on_coord a s.lo) (floor_z (world_to_index m (cell_corner m n k 0) a))
  high : End (world_to_index m (cell_corner m n k 1) a) (on_coord a s.hi) (suc_ℤ (floor_z (world_to_index m (cell_corner m n k 1) a)))

floored : (m : Medium) (n : Cells) (k : ℕ) (s : Box) (a : Axis) → EndsOf (second_ends m n k) s a → Floored m n k s a
unfolding second_ends
floored m n k s a e =
    let (l, p, q) = bind_ok (coordinate (floor binary64 (world_to_index m (cell_corner m n k 0) a)))
    (λ (l : ℤ). bind (coordinate (add binary64 (floor binary64 (world_to_index m (cell_corner m n k 1) a)) one)) (λ (h : ℤ). ok (made l h))) e in
    let (h, r, t) = bind_ok (coordinate (add binary64 (floor binary64 (world_to_index m (cell_corner m n k 1) a)) one)) (λ (h : ℤ). ok (made l h)) q in
    let o = ok_injective t in
    record {
      low = low_end (world_to_index m (cell_corner m n k 0) a) (on_coord a s.lo) (p ∙ ap (λ (x : Ends). ok x.lo) o);
      high = high_end (world_to_index m (cell_corner m n k 1) a) (on_coord a s.hi) (r ∙ ap (λ (x : Ends). ok x.hi) o);
    }
  where
    made : ℤ → ℤ → Ends
    made l h = record { lo = l; hi = h }

-- ---- a voxel around the point is in the second box
record Inside (s : Box) (c : Coord) (a : Axis) : Type 0 where
  low : T (int_le (on_coord a s.lo) (on_coord a c))
  high : T (int_le (on_coord a c) (on_coord a s.hi))
  small : mag (on_coord a c) < 2 ^ 31

inside : (m : Medium) (n : Cells) (k : ℕ) (s : Box) (p : Point) (c : Coord) → Scaled m → EnclosesIn m n k p → AroundIn m p c → (a : Axis)
    → Floored m n k s a → Inside s c a
inside m n k s p c S e r a f =
    let i = index_mid m S (cell_corner m n k 0) (cell_corner m n k 1) p e a f.low.0 f.high.0 in
    let lo = world_to_index m (cell_corner m n k 0) a in
    let hi = world_to_index m (cell_corner m n k 1) a in
    let at = world_to_index m p a in
    let l : T (int_le (on_coord a s.lo) (floor_z at)) = subst (λ (z : ℤ). T (int_le z (floor_z at))) (sym f.low.1)
    (floor_z_rises lo at i.first i.real i.rise) in
    let h : T (int_le (suc_ℤ (floor_z at)) (on_coord a s.hi)) = subst (λ (z : ℤ). T (int_le (suc_ℤ (floor_z at)) z)) (sym f.high.1)
    (suc_rises (floor_z at) (floor_z hi) (floor_z_rises at hi i.real i.last i.on)) in
    let b = both l h (r a) in
    record {
      low = b.0;
      high = b.1;
      small = mag_between (on_coord a s.lo) (on_coord a c) (on_coord a s.hi) (2 ^ 31) b.0 b.1 f.low.2 f.high.2;
    }
  where
    both : T (int_le (on_coord a s.lo) (floor_z (world_to_index m p a))) → T (int_le (suc_ℤ (floor_z (world_to_index m p a))) (on_coord a s.hi))
        → (on_coord a c ≡ floor_z (world_to_index m p a)) ⊎ (on_coord a c ≡ suc_ℤ (floor_z (world_to_index m p a)))
        → T (int_le (on_coord a s.lo) (on_coord a c)) × T (int_le (on_coord a c) (on_coord a s.hi))
    both l h (inl e) =
        subst (λ (z : ℤ). T (int_le (on_coord a s.lo) z) × T (int_le z (on_coord a s.hi))) (sym e) (
          l,
          le_z_through (floor_z (world_to_index m p a)) (suc_ℤ (floor_z (world_to_index m p a))) (on_coord a s.hi)
              (le_z_suc (floor_z (world_to_index m p a))) h,
        )
    both l h (inr e) =
        subst (λ (z : ℤ). T (int_le (on_coord a s.lo) z) × T (int_le z (on_coord a s.hi))) (sym e) (
          le_z_through (on_coord a s.lo) (floor_z (world_to_index m p a)) (suc_ℤ (floor_z (world_to_index m p a))) l
              (le_z_suc (floor_z (world_to_index m p a))),
          h,
        )

pub figure_bounds : (read : Coord → Float) (m : Medium) (n : Cells) (k : ℕ) (v : Float) → Scaled m → figure (box_maximum read) m n k ≡ ok v
    → (p : Point) → EnclosesIn m n k p → (c : Coord) → AroundIn m p c → Signed32 c × (lt v (read c) ≡ false)
figure_bounds read m n k v S e p i c r =
    let C = cell (box_maximum read) m n k v e in
    let s = C.second in
    let on : (a : Axis) → Inside s c a = λ a. inside m n k s p c S i r a (floored m n k s a (ends_of_lem (second_ends m n k) s C.accepted a)) in (
      record { x = (on x_axis).small; y = (on y_axis).small; z = (on z_axis).small },
      subst (λ (x : Float). lt x (read c) ≡ false) (sym C.is)
          (not_lt_through (box_maximum read C.first) (box_maximum read s) (read c) (max_number read s) C.above
          ((greatest read s).covers c
          (record {
            x_low = le_z_yes (on x_axis).low;
            x_high = le_z_yes (on x_axis).high;
            y_low = le_z_yes (on y_axis).low;
            y_high = le_z_yes (on y_axis).high;
            z_low = le_z_yes (on z_axis).low;
            z_high = le_z_yes (on z_axis).high;
          }))),
    )

-- ---- a table that was built
pub record Built (g : Grid) (m : Medium) (l : List Float) : Type 0 where
  pub bounds : (a : Axis) → bounds_fault m a ≡ 0
  pub scale : Scaled m
  pub size : length l ≡ cell_count m.cells
  pub figure : (k : ℕ) → k < cell_count m.cells
      → Rattle.majorant.specs.Figures.figure (box_maximum (read_in g)) m m.cells k ≡ ok (slice_index_or l k +0)

each_none : (f : Axis → ℕ) → each f ≡ 0 → (a : Axis) → f a ≡ 0
each_none f e =
    let p = then_zero (f x_axis) (f y_axis then f z_axis) e in
    let q = then_zero (f y_axis) (f z_axis) p.1 in
    λ a. elim a as (λ b. f b ≡ 0) [ x_axis ↦ p.0 | y_axis ↦ q.0 | z_axis ↦ q.1 ]

pub built : (g : Grid) (m : Medium) (l : List Float) → build g m ≡ ok l → Built g m l
unfolding build
built g m l e =
    let n = m.cells in
    let p = passing_ok (validate g then density_fault g then medium_fault m) (figures (box_maximum (read_in g)) m n (cell_count n)) e in
    let q = (then_zero (density_fault g) (medium_fault m) (then_zero (validate g) (density_fault g then medium_fault m) p.0).1).1 in
    let b = then_zero (each (bounds_fault m)) (each (index_fault m) then map_fault m) q in
    let f = figures_at (box_maximum (read_in g)) m n (cell_count n) l p.1 in
    record { bounds = each_none (bounds_fault m) b.0; scale = scaled m (then_zero (each (index_fault m)) (map_fault m) b.1).1; size = f.0; figure = f.1 }

-- of a table that was built
pub bounded : (g : Grid) (m : Medium) (l : List Float) → build g m ≡ ok l → (p : Point) (k : ℕ) → k < cell_count m.cells
    → EnclosesIn m m.cells k p → (c : Coord) → AroundIn m p c → Signed32 c × (lt (slice_index_or l k +0) (read_in g c) ≡ false)
bounded g m l e p k h i c r = let b = built g m l e in figure_bounds (read_in g) m m.cells k (slice_index_or l k +0) b.scale (b.figure k h) p i c r
