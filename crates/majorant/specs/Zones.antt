-- Three laws of zones over what `box_maximum` and `get_value` promise. The premises are their contracts: what a function answered, of any tables.
use Rattle.std.specs.Prelude.{◌≡◌, false, ℤ, to_bits, Float}
use Rattle.std.specs.Float.{binary32}
use Rattle.std.specs.Float.Ieee.{lt}
use Rattle.refusals.specs.Results.{Said, said}
use Rattle.float.specs.Zero.{+0}
use Rattle.layout.specs.Coordinates.{Coord}
use Rattle.sparse_grid.specs.Tables.{Grid}
use Rattle.sparse_grid.specs.Validate.{validate}
use Rattle.sparse_grid.specs.Lookup.{lookup}
use Rattle.sparse_grid.specs.Answers.{value_only}
use Rattle.sparse_grid.specs.Roots.{Reordered}
use Rattle.medium.specs.Medium.{Axis}
use Rattle.boxes.specs.Boxes.{Box, greater}
use Rattle.boxes.specs.Cuts.{up_to, past, Cuts, InsideOf}
use Rattle.majorant.specs.Build.{public_maximum}

-- what box_maximum answered of the box b, and get_value at c
abbrev pub MaximumOf : Grid → Box → Said Float → Type 0
MaximumOf g b a = a ≡ said +0 (public_maximum g b)

abbrev pub ValueAt : Grid → Coord → Said Float → Type 0
ValueAt g c a = a ≡ said +0 (value_only (lookup g c))

-- A box cut after k on one axis, of every grid: the three answers have one number, and the greater of the two maxima has the 32 bits of the
-- old one. Bits are made of a number however it is written, so nothing is asked of the tables.
abbrev pub CutInTwo : Type 0
CutInTwo = (g : Grid) (a : Axis) (k : ℤ) (b : Box) → Cuts a k b → (old low high : Said Float)
    → MaximumOf g b old → MaximumOf g (up_to a k b) low → MaximumOf g (past a k b) high
    → (low.number ≡ old.number) × (high.number ≡ old.number)
    × (to_bits binary32 (greater low.value high.value) ≡ to_bits binary32 old.value)

-- A box inside another, of every grid: one number, and the figure of the box inside is not the greater one.
abbrev pub InsideAnother : Type 0
InsideAnother = (g : Grid) (d b : Box) → InsideOf d b → (inner outer : Said Float) → MaximumOf g d inner → MaximumOf g b outer
    → (inner.number ≡ outer.number) × (lt outer.value inner.value ≡ false)

-- what h answers as g does: it is valid, every value, its level, and every maximum
pub record Unchanged (g h : Grid) : Type 0 where
  pub valid : validate h ≡ 0
  pub values : (c : Coord) (before after : Said Float) → ValueAt g c before → ValueAt h c after → after ≡ before
  pub levels : (c : Coord) → lookup h c ≡ lookup g c
  pub maxima : (b : Box) (before after : Said Float) → MaximumOf g b before → MaximumOf h b after → after ≡ before

-- The roots of a valid grid in another order.
abbrev pub RootsReordered : Type 0
RootsReordered = (g h : Grid) → Reordered g h → validate g ≡ 0 → Unchanged g h
