-- The two boxes of voxels of a cell, and its figure.
use Rattle.std.specs.Prelude.{ℕ, zero, suc, not, List, [], ◌∷◌, ◌++◌, Float}
use Rattle.std.specs.Float.Ieee.{lt}
use Rattle.refusals.specs.Results.{Result, ok, bind, need}
use Rattle.medium.specs.Medium.{Medium, Axis, x_axis, y_axis, z_axis}
use Rattle.index.specs.Cells.{Cells, Ends, first_ends, second_ends}
use Rattle.boxes.specs.Boxes.{Box}

-- the box of its three axes, or the fault of the first axis that has one
abbrev pub box_of : (Axis → Result Ends) → Result Box
box_of f =
    bind (f x_axis) (λ (x : Ends). bind (f y_axis) (λ (y : Ends). bind (f z_axis) (λ (z : Ends).
    ok (record { lo = record { x = x.lo; y = y.lo; z = z.lo }; hi = record { x = x.hi; y = y.hi; z = z.hi } }))))

-- the figure of cell k: the maximum of the first box; 17 where that of the second is greater
unfoldable pub figure : (Box → Float) → Medium → Cells → ℕ → Result Float
figure maximum m n k =
    bind (box_of (first_ends m n k)) (λ (f : Box).
    bind (box_of (second_ends m n k)) (λ (s : Box).
    need (not (lt (maximum f) (maximum s))) 17 (ok (maximum f))))

-- the first c figures, or the fault of the lowest cell that has one
unfoldable pub figures : (Box → Float) → Medium → Cells → ℕ → Result (List Float)
figures maximum m n zero = ok []
figures maximum m n (suc c) =
    bind (figures maximum m n c) (λ (l : List Float). bind (figure maximum m n c) (λ (v : Float). ok (l ++ (v ∷ []))))
