-- How many coordinates of a box hold what is read in each class: a sum over the coordinates, one by one, and not a walk of the tables.
use Rattle.std.specs.Prelude.{ℕ, zero, suc, ◌+◌, ◌-◌, ◌*◌, Bool, cond, ◌&&◌, ◌||◌, List, [], ◌∷◌, eqb, leb, ℤ, pos, ◌+ℤ◌, length, get_or, Float}
use Rattle.std.specs.Float.Ieee.{lt}
use Rattle.std.specs.Float.Ieee.Scale.{finite}
use Rattle.refusals.specs.Results.{Result, ok}
use Rattle.refusals.specs.Faults.{◌then◌, unless, first_fault, passing}
use Rattle.float.specs.Zero.{+0}
use Rattle.layout.specs.Coordinates.{Coord}
use Rattle.sparse_grid.specs.Tables.{Grid}
use Rattle.sparse_grid.specs.Validate.{validate}
use Rattle.sparse_grid.specs.Lookup.{read_in}
use Rattle.sparse_grid.specs.Count.{sum, bit}
use Rattle.boxes.specs.Boxes.{Box, span}

-- class 0 is below the first limit; at or above it, one more than the class among the others
abbrev pub class : List Float → Float → ℕ
class [] v = 0
class (l ∷ ls) v = let k = class ls v in cond (lt v l) 0 (suc k)

-- a limit that passes: finite, and above the one before it
abbrev pub limit_passes : List Float → ℕ → Bool
limit_passes ls i = finite (get_or ls i +0) && (eqb i 0 || lt (get_or ls (i - 1) +0) (get_or ls i +0))

-- 25 unless there are 1 to 16 limits, all finite, each below the next
unfoldable pub limits_fault : List Float → ℕ
limits_fault ls = unless (leb 1 (length ls) && leb (length ls) 16) 25 then first_fault (length ls) (λ i. unless (limit_passes ls i) 25)

-- 25 for a side of more than 2^20 coordinates, of an empty box too
abbrev pub side_fault : ℤ → ℤ → ℕ
side_fault lo hi = unless (leb (span lo hi) 1048576) 25

abbrev pub sides_fault : Box → ℕ
sides_fault b = side_fault b.lo.x b.hi.x then side_fault b.lo.y b.hi.y then side_fault b.lo.z b.hi.z

-- the sum of what f gives for each coordinate of the box
unfoldable pub box_sum : (Coord → ℕ) → Box → ℕ
box_sum f b =
    sum (span b.lo.x b.hi.x) (λ i.
    sum (span b.lo.y b.hi.y) (λ j.
    sum (span b.lo.z b.hi.z) (λ k.
    f (record { x = b.lo.x +ℤ pos i; y = b.lo.y +ℤ pos j; z = b.lo.z +ℤ pos k }))))

-- how many coordinates of the box read a value of class k
abbrev pub class_count : (Coord → Float) → List Float → Box → ℕ → ℕ
class_count read ls b k = box_sum (λ c. bit (eqb (class ls (read c)) k)) b

-- how many coordinates the box has
abbrev pub box_size : Box → ℕ
box_size b = span b.lo.x b.hi.x * span b.lo.y b.hi.y * span b.lo.z b.hi.z

-- the sum of the class lines
abbrev pub class_total : (Coord → Float) → List Float → Box → ℕ
class_total read ls b = sum (length ls + 1) (class_count read ls b)

-- ---- the public answer

-- f at the n numbers from i on
unfoldable pub listed : ℕ → ℕ → (ℕ → ℕ) → List ℕ
listed zero i f = []
listed (suc n) i f = f i ∷ listed n (i + 1) f

-- 17 counts, those past the last class zero; or the refusal
unfoldable pub public_counts : Grid → List Float → Box → Result (List ℕ)
public_counts g ls b = passing (validate g then limits_fault ls then sides_fault b) (ok (listed 17 0 (class_count (read_in g) ls b)))
