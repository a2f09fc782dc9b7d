-- Ends, positions and refusals that the papers name. Each is computed.
use Rattle.std.specs.Prelude.{◌≡◌, refl, [], ◌∷◌, true, false, pos, negsuc, Float}
use Rattle.std.specs.Float.{inf, fin, binary32}
use Rattle.std.specs.Float.Ieee.{add, sub, mul, div, lt, le, eq, of_int, to_signed, of_bits, to_bits}
use Rattle.refusals.specs.Results.{ok, refused}
use Rattle.float.specs.Zero.{+0}
use Rattle.float.specs.Fused as F
use Rattle.float.specs.Coordinate.{coordinate}
use Rattle.layout.specs.Coordinates.{Coord}
use Rattle.cells.specs.Cells.{cells}
use Rattle.medium.specs.Medium.{Point, Medium, make_medium, map_fault}
use Rattle.index.specs.Index.{world_to_index}
use Rattle.index.specs.Axes.{Line, corner_on, index_on, majorant_on, first_low, first_high, second_low, second_high, first_on, second_on, ends_on, axis_ends}
use Rattle.index.specs.Answers.{index_bits}

-- ---- the low end of the first box: less 1 in f64, truncated

-- 1 / 2 less 1 is -1 / 2, which truncates to 0; its floor would be -1
half_low : first_low (fin false 1 (negsuc 0)) ≡ ok (pos 0)
unfolding first_low coordinate F.trunc add sub le lt eq of_int to_signed
half_low = refl

-- -2147483648 less 1 is no i32
least_low : first_low (fin true 1 (pos 31)) ≡ refused 16
unfolding first_low coordinate F.trunc add sub le lt eq of_int to_signed
least_low = refl

-- 2 ^ -54 less 1 rounds to -1; the next f32 above it does not
tiny_low : first_low (of_bits binary32 612368384) ≡ ok (negsuc 0)
unfolding first_low coordinate F.trunc add sub le lt eq of_int to_signed of_bits
tiny_low = refl

above_tiny_low : first_low (of_bits binary32 612368385) ≡ ok (pos 0)
unfolding first_low coordinate F.trunc add sub le lt eq of_int to_signed of_bits
above_tiny_low = refl

-- ---- on z the two ways differ: the product is rounded in f64 first

abbrev z_line : Line
z_line =
    record {
      last = true;
      low = +0;
      high = +0;
      translation = of_bits binary32 3011510270;
      factor = of_bits binary32 1065353217;
      index_low = pos 0;
      index_high = pos 0;
    }

z_differs : (to_bits binary32 (majorant_on z_line (of_bits binary32 1065353216)) ≡ 1065353218)
    × (to_bits binary32 (index_on z_line (of_bits binary32 1065353216)) ≡ 1065353217)
unfolding majorant_on index_on F.narrow add sub mul of_bits to_bits
z_differs = (refl, refl)

-- ---- where the first box has ends and the second none, the answer is 16

-- near 3e38, -3e38 and 1e-38, by bits
abbrev far_line : Line
far_line = record {
  last = true;
  low = of_bits binary32 2137108966;
  high = of_bits binary32 2137108966;
  translation = of_bits binary32 4284592614;
  factor = of_bits binary32 7136238;
  index_low = negsuc 99;
  index_high = pos 100;
}

far_first : first_on far_line (corner_on far_line.low far_line.high 1 0) (corner_on far_line.low far_line.high 1 1) ≡ ok (record { lo = pos 4; hi = pos 6 })
unfolding first_on corner_on majorant_on first_low first_high coordinate F.narrow F.trunc add sub mul div le lt eq of_int to_signed of_bits
far_first = refl

far_refused : axis_ends far_line 1 0 ≡ refused 16
unfolding axis_ends ends_on first_on second_on corner_on majorant_on index_on first_low first_high second_low second_high coordinate F.narrow F.trunc F.floor
    add sub mul div le lt eq of_int to_signed of_bits
far_refused = refl

-- ---- world_to_index_f: an infinity on one axis is a NaN on the others; 13 comes first

abbrev unit : Medium
unit =
    make_medium (at +0) (at +0) here here
    (fin false 1 (pos 0) ∷ +0 ∷ +0 ∷ +0 ∷ fin false 1 (pos 0) ∷ +0 ∷ +0 ∷ +0 ∷ fin false 1 (pos 0) ∷ []) (at +0) (cells 1 1 1)
  where
    at : Float → Point
    at v = record { x = v; y = v; z = v }

    here : Coord
    here = record { x = pos 0; y = pos 0; z = pos 0 }

far : index_bits unit (record { x = inf false; y = +0; z = +0 }) ≡ ok (2139095040 ∷ 2143289344 ∷ 2143289344 ∷ [])
unfolding index_bits map_fault world_to_index F.fma F.plus add sub mul le lt eq to_bits
far = refl

skewed : index_bits (make_medium unit.low unit.high unit.index_low unit.index_high
    (fin false 1 (pos 0) ∷ fin false 1 (pos 0) ∷ []) unit.translation unit.cells) (record { x = inf false; y = +0; z = +0 }) ≡ refused 13
unfolding index_bits map_fault world_to_index F.fma F.plus add sub mul le lt eq to_bits
skewed = refl
