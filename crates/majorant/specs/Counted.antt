-- The box maximum with what it read after `validate`, and the most that this can be for a cube.
use Rattle.std.specs.Prelude.{◌≡◌, ℕ, ◌+◌, ◌*◌, ◌≤◌, Float}
use Rattle.refusals.specs.Results.{Result, ok}
use Rattle.refusals.specs.Faults.{passing}
use Rattle.float.specs.Zero.{+0}
use Rattle.sparse_grid.specs.Tables.{Grid}
use Rattle.sparse_grid.specs.Validate.{validate}
use Rattle.sparse_grid.specs.Lookup.{read_in}
use Rattle.boxes.specs.Boxes.{Box, box_maximum}
use Rattle.walk.specs.Walk.{R, U, L, cubed, most_read, roots_read, uppers_read, lowers_read, leaves_read}
use Rattle.majorant.specs.declared.Counted as code

-- the maximum of a box, and how many root entries, upper entries, lower entries and leaf values are read for it
pub record Read : Type 0 where
  pub maximum : Float
  pub roots : ℕ
  pub uppers : ℕ
  pub lowers : ℕ
  pub leaves : ℕ

-- after a refusal
abbrev pub unread : Read
unread = record { maximum = +0; roots = 0; uppers = 0; lowers = 0; leaves = 0 }

abbrev pub read_for : Grid → Box → Read
read_for g b = record {
  maximum = box_maximum (read_in g) b;
  roots = roots_read g b;
  uppers = uppers_read g b;
  lowers = lowers_read g b;
  leaves = leaves_read g b;
}

-- what `box_maximum_counted` is to answer
unfoldable pub public_counted : Grid → Box → Result Read
public_counted g b = passing (validate g) (ok (read_for g b))

-- what the code's answer says: leaf values are in two words of 64 bits
abbrev pub as_read : code.Counted → Read
as_read c = record {
  maximum = c.maximum;
  roots = c.roots;
  uppers = c.upper;
  lowers = c.lower;
  leaves = c.high * 18446744073709551616 + c.low;
}

-- ---- the dearest cube

-- all that was read
abbrev pub all_of : Read → ℕ
all_of r = r.roots + r.uppers + r.lowers + r.leaves

-- no more than a cube of n coordinates a side can cost: each count by itself, and all together
pub record NoDearer (n : ℕ) (r : Read) : Type 0 where
  pub roots : r.roots ≤ cubed (R n)
  pub uppers : r.uppers ≤ cubed (U n)
  pub lowers : r.lowers ≤ cubed (L n)
  pub leaves : r.leaves ≤ cubed n
  pub all : all_of r ≤ most_read n

-- as much
pub record AsDear (n : ℕ) (r : Read) : Type 0 where
  pub roots : r.roots ≡ cubed (R n)
  pub uppers : r.uppers ≡ cubed (U n)
  pub lowers : r.lowers ≡ cubed (L n)
  pub leaves : r.leaves ≡ cubed n
  pub all : all_of r ≡ most_read n
