-- The values of a leaf stand in rows of eight along z, and a walk keeps eight maxima, one for each place of a row: place z has the one at z % 8.
-- What only private contracts cite.
use Rattle.std.specs.Prelude.{ℕ, ◌+◌, ◌%◌, ◌≡◌, false, List, length, get_or, Float}
use Rattle.std.specs.Float.Ieee.{lt}
use Rattle.float.specs.Zero.{+0}
use Rattle.boxes.specs.Most.{Joined, Inside}

-- the maximum of place z
abbrev pub maximum_at : List Float → ℕ → Float
maximum_at maxima z = get_or maxima (z % 8) +0

-- eight maxima, none of them below zero
pub record Eight (maxima : List Float) : Type 0 where
  pub eight : length maxima ≡ 8
  pub not_below : (z : ℕ) → lt (maximum_at maxima z) +0 ≡ false

-- each maximum is joined with what f gives at its place, for x and y from the low ends up to below the high ones
pub record Columns (f : ℕ → ℕ → ℕ → Float) (x0 x1 y0 y1 : ℕ) (before after : List Float) : Type 0 where
  pub as_many : length after ≡ length before
  pub joined : (z : ℕ) → Joined (maximum_at before z) f (Inside x0 x1 y0 y1 z (z + 1)) (maximum_at after z)
