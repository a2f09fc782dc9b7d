-- What the answers of an index position and of the ends on one axis say, and the line that the code's record stands for.
use Rattle.std.specs.Prelude.{ℕ, List, [], ◌∷◌, ℤ, pos}
use Rattle.std.specs.Float.{binary32}
use Rattle.std.specs.Float.Ieee.{to_bits}
use Rattle.refusals.specs.Results.{Result, ok, number_of, value_or}
use Rattle.refusals.specs.Faults.{passing}
use Rattle.medium.specs.Medium.{Point, Medium, x_axis, y_axis, z_axis, map_fault}
use Rattle.index.specs.Index.{world_to_index}
use Rattle.index.specs.Axes as Axes
use Rattle.index.specs.Axes.{Both}
use Rattle.index.specs.declared.Line.{Line}

-- the bits of a point's index position on each axis, after 13, an added step
unfoldable pub index_bits : Medium → Point → Result (List ℕ)
index_bits m p =
    passing (map_fault m)
    (ok (to_bits binary32 (world_to_index m p x_axis) ∷ to_bits binary32 (world_to_index m p y_axis) ∷ to_bits binary32 (world_to_index m p z_axis) ∷ []))

abbrev pub as_line : Line → Axes.Line
as_line l =
    record {
      last = l.last;
      low = l.low;
      high = l.high;
      translation = l.translation;
      factor = l.factor;
      index_low = l.index_low;
      index_high = l.index_high;
    }

-- what stands beside a refusal
abbrev pub no_ends : Both
no_ends = record { first = record { lo = pos 0; hi = pos 0 }; second = record { lo = pos 0; hi = pos 0 } }

-- an answer by number: a fault, and the four ends
pub record AxisEnds : Type 0 where
  pub fault : ℕ
  pub first_lo : ℤ
  pub first_hi : ℤ
  pub second_lo : ℤ
  pub second_hi : ℤ

-- the number, and the four ends, or zeros after a refusal
abbrev pub axis_ends_of : Result Both → AxisEnds
axis_ends_of r = record {
  fault = number_of r;
  first_lo = (value_or no_ends r).first.lo;
  first_hi = (value_or no_ends r).first.hi;
  second_lo = (value_or no_ends r).second.lo;
  second_hi = (value_or no_ends r).second.hi;
}

-- the four ends that an answer holds
abbrev pub four_ends : AxisEnds → Both
four_ends r = record {
  first = record { lo = r.first_lo; hi = r.first_hi };
  second = record { lo = r.second_lo; hi = r.second_hi };
}

-- the outcome that it stands for
abbrev pub both_of : AxisEnds → Result Both
both_of r = passing r.fault (ok (four_ends r))
