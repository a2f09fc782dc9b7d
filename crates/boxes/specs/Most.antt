-- The greatest of +0 and what is read on a set of places, where a place is three numbers that are not negative.
use Rattle.std.specs.Prelude.{ℕ, ◌≤◌, ◌<◌, ◌≡◌, true, false, ◌⊎◌, Float}
use Rattle.std.specs.Float.Ieee.{lt}
use Rattle.float.specs.Zero.{+0}
use Rattle.boxes.specs.Boxes.{greater}

-- r is the greatest of +0 and what f gives on the set S
pub record Most (f : ℕ → ℕ → ℕ → Float) (S : ℕ → ℕ → ℕ → Type 0) (r : Float) : Type 0 where
  pub covers : (x y z : ℕ) → S x y z → lt r (f x y z) ≡ false
  pub reached : (r ≡ +0) ⊎ ((x : ℕ) × (y : ℕ) × (z : ℕ) × S x y z × (f x y z ≡ r) × (lt +0 r ≡ true))

-- r is the greater of m and that greatest
pub record Joined (m : Float) (f : ℕ → ℕ → ℕ → Float) (S : ℕ → ℕ → ℕ → Type 0) (r : Float) : Type 0 where
  pub part : Float
  pub most : Most f S part
  pub is : r ≡ greater m part

-- on each axis from the low end up to below the high one
pub record Inside (x0 x1 y0 y1 z0 z1 x y z : ℕ) : Type 0 where
  pub x_low : x0 ≤ x
  pub x_high : x < x1
  pub y_low : y0 ≤ y
  pub y_high : y < y1
  pub z_low : z0 ≤ z
  pub z_high : z < z1
