-- A box cut in two by a plane across one axis, and a box inside another.
use Rattle.std.specs.Prelude.{ℤ, pos, ◌+ℤ◌, ◌≤ℤ◌, ◌<ℤ◌}
use Rattle.layout.specs.Coordinates.{Coord}
use Rattle.medium.specs.Medium.{Axis, x_axis, y_axis, z_axis, on_coord}
use Rattle.boxes.specs.Boxes.{Box, In}

-- a corner with another number on one axis
abbrev pub with : Axis → ℤ → Coord → Coord
with x_axis k c = record { x = k; y = c.y; z = c.z }
with y_axis k c = record { x = c.x; y = k; z = c.z }
with z_axis k c = record { x = c.x; y = c.y; z = k }

-- the part up to k on an axis, k included
abbrev pub up_to : Axis → ℤ → Box → Box
up_to a k b = record { lo = b.lo; hi = with a k b.hi }

-- the part from k + 1 on
abbrev pub past : Axis → ℤ → Box → Box
past a k b = record { lo = with a (k +ℤ pos 1) b.lo; hi = b.hi }

-- a cut after k lies within the box on its axis: low ≤ k < high. On the other axes the box may be empty.
pub record Cuts (a : Axis) (k : ℤ) (b : Box) : Type 0 where
  pub low : on_coord a b.lo ≤ℤ k
  pub high : k <ℤ on_coord a b.hi

-- the box d is inside b: what lies in d lies in b
abbrev pub InsideOf : Box → Box → Type 0
InsideOf d b = (c : Coord) → In d c → In b c

-- so it is where the six ends of d lie within those of b
pub record EndsWithin (d b : Box) : Type 0 where
  pub low : (a : Axis) → on_coord a b.lo ≤ℤ on_coord a d.lo
  pub high : (a : Axis) → on_coord a d.hi ≤ℤ on_coord a b.hi

-- and where d is empty: low is above high on some axis
pub record Empty (d : Box) : Type 0 where
  pub axis : Axis
  pub turned : on_coord axis d.hi <ℤ on_coord axis d.lo
