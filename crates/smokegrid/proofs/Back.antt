-- The medium that a decode leaves in flat arrays is read back as it was. Assumes nothing.
use Rattle.std.specs.Prelude.{◌≡◌, refl, List, ℕ}
use Rattle.nanovdb.specs.Decode.{medium_of, medium_at}
use Rattle.smokegrid.specs.Flat.{floats_of, corners_of, numbers_of, medium_from}

-- 18 numbers, 6 corners and 3 numbers of cells have one order on both sides of C
pub medium_back : (b : List ℕ) → medium_from (floats_of (medium_of b)) (corners_of (medium_of b)) (numbers_of (medium_of b).cells) ≡ medium_of b
unfolding medium_of medium_at
medium_back b = refl
