-- The counted box maximum as C has it: five numbers for the counts, or zeros after a refusal.
use Rattle.std.specs.Prelude.{ℕ, ◌/◌, ◌%◌, List, [], ◌∷◌, eqb, replicate}
use Rattle.refusals.specs.Results.{Result, ok, refused}
use Rattle.refusals.specs.Faults.{unless, passing}
use Rattle.sparse_grid.specs.Tables.{Grid}
use Rattle.boxes.specs.Boxes.{Box}
use Rattle.majorant.specs.Counted.{Read, public_counted}

-- 18 for another length than five, and then the counted box maximum
unfoldable pub counted_flat : Grid → Box → ℕ → Result Read
counted_flat g b places = passing (unless (eqb places 5) 18) (public_counted g b)

-- root entries, upper entries, lower entries, and the high and the low word of the leaf values
abbrev pub five_of : Read → List ℕ
five_of r = r.roots ∷ r.uppers ∷ r.lowers ∷ r.leaves / 18446744073709551616 ∷ r.leaves % 18446744073709551616 ∷ []

-- what is left in so many places
abbrev pub counts_after : ℕ → Result Read → List ℕ
counts_after n (ok r) = five_of r
counts_after n (refused k) = replicate n 0
