-- The one claim over what the contracts of the functions say: on the left what a function answered and left, on the right the bytes.
use Rattle.std.specs.Prelude.{ℕ, ◌*◌, ◌<◌, ◌≡◌, List, [], ◌∷◌, true, ℤ, length, replicate, Float}
use Rattle.std.specs.Float.{binary32}
use Rattle.std.specs.Float.Ieee.{to_bits}
use Rattle.refusals.specs.Results.{Result, ok, number_of, value_or, Said, said}
use Rattle.float.specs.Zero.{+0}
use Rattle.layout.specs.Bytes.{Bytes}
use Rattle.layout.specs.Coordinates.{Coord, Signed32}
use Rattle.layout.specs.Walk.{walk, voxel}
use Rattle.sparse_grid.specs.Tables.{Grid}
use Rattle.sparse_grid.specs.Lookup.{lookup}
use Rattle.sparse_grid.specs.Answers.{value_only, Spoken, unspoken, spoken}
use Rattle.cells.specs.Cells.{cell_count}
use Rattle.medium.specs.Medium.{Point, Medium, x_axis, y_axis, z_axis}
use Rattle.medium.specs.Alike.{Alike}
use Rattle.nanovdb.specs.Decode.{decode_density, medium_of}
use Rattle.nanovdb.specs.Lent.{Lent, Answer, Tables, decode_into, answer_of, left_of, filled, Used, used_of}
use Rattle.index.specs.Index.{world_to_index}
use Rattle.index.specs.Answers.{index_bits}
use Rattle.boxes.specs.Boxes.{Box, InSome, GreatestOver, Greatest, box_maximum}
use Rattle.majorant.specs.Build.{public_maximum, build_into}
use Rattle.majorant.specs.Maxima.{box_at, maxima_of, maxima_into, greatest_into}
use Rattle.claim.specs.Claim.{Inside, Bounds}

-- the bits of a point's index position, with the map and the translation in the bytes
abbrev pub index_of : List ℕ → Point → List ℕ
index_of b p =
    to_bits binary32 (world_to_index (medium_of b) p x_axis)
    ∷ to_bits binary32 (world_to_index (medium_of b) p y_axis)
    ∷ to_bits binary32 (world_to_index (medium_of b) p z_axis)
    ∷ []

-- the six numbers of each of the first n boxes are i32, as a caller's are
abbrev pub SignedBoxes : List ℤ → ℕ → Type 0
SignedBoxes boxes n = (i : ℕ) → i < n → Signed32 (box_at boxes i).lo × Signed32 (box_at boxes i).hi

-- What holds of a grid and a medium that the functions are handed. Each premise is a contract: what one function answered.
pub record Keeps (b : List ℕ) (g : Grid) (m : Medium) : Type 0 where
  -- get_value is not refused, and answers the 32 bits that the walk reads
  pub lookups : (c : Coord) → Signed32 c → (a : Said Float) → a ≡ said +0 (value_only (lookup g c))
      → (a.accepted ≡ true) × (a.number ≡ 0) × (to_bits binary32 a.value ≡ (walk b c).bits)
  -- get_reading is not refused, and answers the same bits with the level that the walk reads them at
  pub readings : (c : Coord) → Signed32 c → (a : Said Spoken) → a ≡ said unspoken (spoken (lookup g c))
      → (a.accepted ≡ true) × (a.number ≡ 0) × (to_bits binary32 a.value.value ≡ (walk b c).bits) × (a.value.level ≡ (walk b c).level)
  -- box_maximum is not refused, and answers the greatest of zero and the voxels of the box
  pub maxima : (x : Box) → Signed32 x.lo → Signed32 x.hi → (a : Said Float) → a ≡ said +0 (public_maximum g x)
      → (a.accepted ≡ true) × (a.number ≡ 0) × (a.value ≡ box_maximum (voxel b) x) × Greatest (voxel b) x a.value
  -- box_maxima of a list six to a place is not refused: each maximum is that of its box, and the greatest that of the boxes together
  pub lists : (boxes : List ℤ) (n : ℕ) → length boxes ≡ 6 * n → SignedBoxes boxes n → (a : Said Float) (maxima : List Float)
      → a ≡ said +0 (greatest_into g boxes n) → maxima ≡ value_or (replicate n +0) (maxima_into g boxes n)
      → (a.accepted ≡ true) × (a.number ≡ 0) × (maxima ≡ maxima_of (box_maximum (voxel b)) boxes n)
      × GreatestOver (voxel b) (InSome (box_at boxes) n) a.value
  -- world_to_index_f is not refused, and answers the position by which `Bounds` finds the eight voxels
  pub positions : (p : Point) (r : Result (List ℕ)) → r ≡ index_bits m p → r ≡ ok (index_of b p)
  -- build_majorant, with a medium of the same corners, map and translation and any three numbers of cells: what a table holds that it filled
  pub figures : (n : Medium) → Alike m n → (places number : ℕ) (table : List Float)
      → number ≡ number_of (build_into g n places) → table ≡ value_or (replicate places +0) (build_into g n places)
      → number ≡ 0 → (places ≡ cell_count n.cells) × ((p : Point) → Inside b p → Bounds b n.cells table p)

-- What a decode that answered 0 hands on: the used parts that it counts lie within the tables and zeros stand past them, the
-- medium is that of the bytes, and both keep the claim.
pub record Handed (b : List ℕ) (l : Lent) (a : Answer) (left : Tables) : Type 0 where
  pub room : Used a left
  pub tables : left ≡ filled l (used_of a left)
  pub medium : a.medium ≡ medium_of b
  pub keeps : Keeps b (used_of a left) a.medium

-- of every decode: a is what it answered, and left what it left in the lent tables
abbrev pub ThroughContracts : Type 0
ThroughContracts = (b : List ℕ) → Bytes b → (l : Lent) (a : Answer) (left : Tables)
    → a ≡ answer_of (decode_into decode_density b l) → left ≡ left_of l (decode_into decode_density b l)
    → a.number ≡ 0 → Handed b l a left
