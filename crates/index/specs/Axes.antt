-- The ends of a cell's two boxes on one axis, from that axis alone: where the map is diagonal the other axes add nothing but a zero.
use Rattle.std.specs.Prelude.{ℕ, ◌+◌, Bool, true, false, cond, ℤ, pos, Float}
use Rattle.std.specs.Float.{binary32, binary64}
use Rattle.std.specs.Float.Ieee.{add, sub, mul, div, of_int}
use Rattle.refusals.specs.Results.{Result, ok, bind}
use Rattle.float.specs.Fused.{narrow, trunc, floor}
use Rattle.float.specs.Coordinate.{coordinate}
use Rattle.medium.specs.Medium.{Medium, Axis, x_axis, y_axis, z_axis, on_point, on_coord, map_at}
use Rattle.index.specs.Cells.{Cells, cell_axis, cells_on, Ends, max_z, min_z, one}

-- one axis of a medium: the world box, the translation, the place on the map's diagonal, and the index box
pub record Line : Type 0 where
  pub last : Bool
  pub low : Float
  pub high : Float
  pub translation : Float
  pub factor : Float
  pub index_low : ℤ
  pub index_high : ℤ

-- the ends of both boxes
pub record Both : Type 0 where
  pub first : Ends
  pub second : Ends

-- the corner k of n
unfoldable pub corner_on : Float → Float → ℕ → ℕ → Float
corner_on low high n k =
    let t = div binary32 (of_int binary32 (pos k)) (of_int binary32 (pos n)) in
    add binary32 (mul binary32 (sub binary32 (of_int binary32 (pos 1)) t) low) (mul binary32 t high)

-- world_to_index_f
unfoldable pub index_on : Line → Float → Float
index_on l p = mul binary32 (sub binary32 p l.translation) l.factor

-- majorant_index: on the last axis, z, the product too is in f64
unfoldable pub majorant_on : Line → Float → Float
majorant_on l p =
    cond l.last
    (narrow (mul binary64 (sub binary64 p l.translation) l.factor))
    (mul binary32 (narrow (sub binary64 p l.translation)) l.factor)

-- ---- an end from an index position

unfoldable pub first_low : Float → Result ℤ
first_low v = coordinate (trunc binary64 (sub binary64 v one))

unfoldable pub first_high : Float → Result ℤ
first_high v = coordinate (trunc binary64 (add binary64 v one))

unfoldable pub second_low : Float → Result ℤ
second_low v = coordinate (floor binary64 v)

unfoldable pub second_high : Float → Result ℤ
second_high v = coordinate (add binary64 (floor binary64 v) one)

-- the first box: p and q are the corners with + 0 and + 1
unfoldable pub first_on : Line → Float → Float → Result Ends
first_on l p q =
    bind (first_low (majorant_on l p)) (λ (a : ℤ). bind (first_high (majorant_on l q)) (λ (b : ℤ).
    ok (record { lo = max_z a l.index_low; hi = min_z b l.index_high })))

-- the second
unfoldable pub second_on : Line → Float → Float → Result Ends
second_on l p q =
    bind (second_low (index_on l p)) (λ (a : ℤ). bind (second_high (index_on l q)) (λ (b : ℤ).
    ok (record { lo = a; hi = b })))

unfoldable pub ends_on : Line → Float → Float → Result Both
ends_on l p q = bind (first_on l p q) (λ (f : Ends). bind (second_on l p q) (λ (s : Ends). ok (record { first = f; second = s })))

-- the ends of cell k of n on one axis; 16 where one is no coordinate
unfoldable pub axis_ends : Line → ℕ → ℕ → Result Both
axis_ends l n k = ends_on l (corner_on l.low l.high n k) (corner_on l.low l.high n (k + 1))

-- ---- an axis of a medium

abbrev pub is_last : Axis → Bool
is_last x_axis = false
is_last y_axis = false
is_last z_axis = true

abbrev pub column : Axis → ℕ
column x_axis = 0
column y_axis = 1
column z_axis = 2

abbrev pub line_of : Medium → Axis → Line
line_of m a = record {
  last = is_last a;
  low = on_point a m.low;
  high = on_point a m.high;
  translation = on_point a m.translation;
  factor = map_at m a (column a);
  index_low = on_coord a m.index_low;
  index_high = on_coord a m.index_high;
}

-- cell k on one axis
abbrev pub ends_at : Medium → Cells → ℕ → Axis → Result Both
ends_at m n k a = axis_ends (line_of m a) (cells_on n a) (cell_axis n k a)
