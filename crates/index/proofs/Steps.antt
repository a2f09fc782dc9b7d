-- Steps of the code: a test, an axis, and two ends. Assumes nothing.
use Rattle.std.specs.Prelude.{◌≡◌, refl, Bool, true, false, not, cond, ℕ, ◌*◌, ◌<◌, nat_lt, nat_le, ℤ, pos, negsuc, int_lt, get_or}
use Rattle.std.proofs.Common.{◌∙◌, arith, w32, to_z, of_z}
use Rattle.std.proofs.lemmas.Int.{to_z-of_z}
use Rattle.std.proofs.lemmas.Bool.Decides.{nat_tests}
use Rattle.std.specs.Int.{int_max, int_min}
use Rattle.std.specs.Int.Signed.{mag, le_z}
use Rattle.std.specs.Float.{nan}
use Rattle.float.proofs.WholeLaws.{one_literal, one_literal_64}
use Rattle.medium.specs.Record.{as_medium}
use Rattle.medium.specs.declared.Medium as CodeMedium
use Rattle.index.specs.Cells.{max_z, min_z}
use Rattle.index.specs.Axes.{Line, is_last, column, line_of}
use Rattle.index.specs.Outcomes.{as_axis}
use Rattle.index.specs.declared.Axis as CodeAxis
use Rattle.index.specs.declared.Axis.TheVariants.{X, Y, Z}

-- the literals 1.0 of both formats
pub ruleset ones = (one_literal, one_literal_64)

abbrev line_at : CodeMedium.Medium → Bool → ℕ → Line
line_at m t i = record {
  last = t;
  low = get_or m.low i nan;
  high = get_or m.high i nan;
  translation = get_or m.translation i nan;
  factor = get_or m.map (4 * i) nan;
  index_low = get_or m.index_low i (pos 0);
  index_high = get_or m.index_high i (pos 0);
}

pub line_is : (m : CodeMedium.Medium) (a : CodeAxis.Axis) → line_at m (is_last (as_axis a)) (column (as_axis a)) ≡ line_of (as_medium m) (as_axis a)
line_is m X = refl
line_is m Y = refl
line_is m Z = refl

-- the greater and the lesser are std's
above : (m n : ℕ) → nat_lt n m ≡ not (nat_le m n)
above m n = grind (arith, nat_tests)

turned : (a b : ℤ) → int_lt b a ≡ not (le_z a b)
turned (pos m) (pos n) = above m n
turned (pos m) (negsuc n) = refl
turned (negsuc m) (pos n) = refl
turned (negsuc m) (negsuc n) = above n m

swapped : (t : Bool) (a b : ℤ) → cond (not t) a b ≡ cond t b a
swapped true a b = refl
swapped false a b = refl

greater_is : (a b : ℤ) → int_max a b ≡ max_z a b
greater_is a b = rw (turned a b) (swapped (le_z a b) a b)

lesser_is : (a b : ℤ) → int_min a b ≡ min_z a b
lesser_is a b = rw (turned a b) (swapped (le_z a b) b a)

-- a local holds an i32 as bits
abbrev held : ℤ → ℤ
held z = to_z w32 (of_z w32 z)

seen : (z : ℤ) → mag z < 2147483648 → held z ≡ z
seen z h = to_z-of_z w32 z (record { sfits = h })

pub greater_held : (r a b : ℤ) → r ≡ int_max (held a) (held b) → mag r < 2147483648 → mag a < 2147483648 → mag b < 2147483648 → held r ≡ max_z a b
greater_held r a b e k m n = seen r k ∙ e ∙ (λ i. int_max (seen a m i) (seen b n i)) ∙ greater_is a b

pub lesser_held : (r a b : ℤ) → r ≡ int_min (held a) (held b) → mag r < 2147483648 → mag a < 2147483648 → mag b < 2147483648 → held r ≡ min_z a b
lesser_held r a b e k m n = seen r k ∙ e ∙ (λ i. int_min (seen a m i) (seen b n i)) ∙ lesser_is a b
