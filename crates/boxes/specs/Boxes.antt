-- Boxes of voxels, and the greatest of zero and what is read in one.
use Rattle.std.specs.Prelude.{ℕ, zero, suc, ◌<◌, ◌≡◌, true, false, cond, ◌⊎◌, ℤ, pos, negsuc, ◌+ℤ◌, ◌-ℤ◌, ◌≤ℤ◌, Float}
use Rattle.std.specs.Float.Ieee.{lt}
use Rattle.float.specs.Zero.{+0}
use Rattle.layout.specs.Coordinates.{Coord}
use Rattle.layout.specs.Record.{as_coord}
use Rattle.boxes.specs.declared.CoordBox as Code

-- from the low corner to the high one, ends included
pub record Box : Type 0 where
  pub lo : Coord
  pub hi : Coord

-- between two corners
abbrev pub between : ℤ → ℤ → ℤ → ℤ → ℤ → ℤ → Box
between lx ly lz hx hy hz = record { lo = record { x = lx; y = ly; z = lz }; hi = record { x = hx; y = hy; z = hz } }

-- the box that the code's record is
abbrev pub as_box : Code.CoordBox → Box
as_box b = record { lo = as_coord b.lo; hi = as_coord b.hi }

pub record In (b : Box) (c : Coord) : Type 0 where
  pub x_low : b.lo.x ≤ℤ c.x
  pub x_high : c.x ≤ℤ b.hi.x
  pub y_low : b.lo.y ≤ℤ c.y
  pub y_high : c.y ≤ℤ b.hi.y
  pub z_low : b.lo.z ≤ℤ c.z
  pub z_high : c.z ≤ℤ b.hi.z

-- in one of the first n boxes
abbrev pub InSome : (ℕ → Box) → ℕ → Coord → Type 0
InSome box n c = (i : ℕ) × (i < n) × In (box i) c

-- r is the greatest of +0 and what `read` gives on the set S of coordinates
pub record GreatestOver (read : Coord → Float) (S : Coord → Type 0) (r : Float) : Type 0 where
  pub covers : (c : Coord) → S c → lt r (read c) ≡ false
  pub reached : (r ≡ +0) ⊎ ((c : Coord) × S c × (read c ≡ r) × (lt +0 r ≡ true))

-- r is the greatest of +0 and what `read` gives in the box
abbrev pub Greatest : (Coord → Float) → Box → Float → Type 0
Greatest read b r = GreatestOver read (In b) r

-- ---- the same as a function

-- b where a is less, and a otherwise: so +0 stands where b is a zero of either sign
abbrev pub greater : Float → Float → Float
greater a b = cond (lt a b) b a

-- the greatest of +0 and the n values from `from` on
unfoldable pub greatest_run : ℕ → ℤ → (ℤ → Float) → Float
greatest_run zero from f = +0
greatest_run (suc n) from f = greater (greatest_run n from f) (f (from +ℤ pos n))

abbrev pub count : ℤ → ℕ
count (pos n) = suc n
count (negsuc n) = 0

-- how many whole numbers lie from lo to hi
abbrev pub span : ℤ → ℤ → ℕ
span lo hi = count (hi -ℤ lo)

-- the greatest of +0 and what `read` gives in the box; +0 where low is above high on some axis
unfoldable pub box_maximum : (Coord → Float) → Box → Float
unfolding greatest_run
box_maximum read b =
    greatest_run (span b.lo.x b.hi.x) b.lo.x (λ x.
    greatest_run (span b.lo.y b.hi.y) b.lo.y (λ y.
    greatest_run (span b.lo.z b.hi.z) b.lo.z (λ z.
    read (record { x = x; y = y; z = z }))))
