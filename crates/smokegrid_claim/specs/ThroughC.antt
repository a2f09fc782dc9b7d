-- The one claim over what the contracts of the C interface say: what a decode leaves is handed on as it is, and every answer is
-- held to the bytes. On the left stand the promises of `smokegrid_*` by name, on the right the bytes.
use Rattle.std.specs.Prelude.{ℕ, ◌+◌, ◌*◌, ◌≤◌, ◌≡◌, List, ℤ, length, get_or, take, Float}
use Rattle.std.specs.Float.{binary32}
use Rattle.std.specs.Float.Ieee.{to_bits}
use Rattle.layout.specs.Bytes.{Bytes}
use Rattle.layout.specs.Coordinates.{Coord, Signed32}
use Rattle.layout.specs.Walk.{walk, voxel}
use Rattle.sparse_grid.specs.Tables.{Grid, grid_of}
use Rattle.sparse_grid.specs.Answers.{level_number}
use Rattle.cells.specs.Cells.{cell_count}
use Rattle.medium.specs.Medium.{Point}
use Rattle.medium.specs.Record.{cells_of}
use Rattle.nanovdb.specs.Lent.{Lent}
use Rattle.boxes.specs.Boxes.{Box, InSome, GreatestOver, Greatest, box_maximum}
use Rattle.walk.specs.Walk.{CubeBox}
use Rattle.walk.specs.Classes.{class_count, limits_fault, sides_fault, listed}
use Rattle.majorant.specs.Maxima.{box_at, maxima_of}
use Rattle.majorant.specs.Counted.{Read, read_for, NoDearer}
use Rattle.claim.specs.Claim.{Inside, Bounds}
use Rattle.claim.specs.Promises.{SignedBoxes, index_of}
use Rattle.smokegrid.specs.Flat.{Arrays}
use Rattle.smokegrid.specs.Promises.{Left, Decodes, GetsValue, GetsReading, BoxMaximum, CountsBox, CountsClasses, BoxMaxima, WorldToIndex, Builds}

-- the used parts: three numbers of `blocks` a root, and 32,768, 4,096 and 512 places an upper, lower and leaf node, as counted
abbrev pub used : Left → Grid
used l =
    let roots = get_or l.counts 0 0 in
    let upper = get_or l.counts 1 0 in
    let lower = get_or l.counts 2 0 in
    let leaf = get_or l.counts 3 0 in
    grid_of l.background
    (take (3 * roots) l.tables.blocks)
    (take roots l.tables.root_links)
    (take roots l.tables.root_values)
    (take (32768 * upper) l.tables.upper_links)
    (take (32768 * upper) l.tables.upper_values)
    (take (4096 * lower) l.tables.lower_links)
    (take (4096 * lower) l.tables.lower_values)
    (take (512 * leaf) l.tables.leaf_values)

-- and each of them lies within its table
pub record Fits (l : Left) : Type 0 where
  pub blocks : 3 * get_or l.counts 0 0 ≤ length l.tables.blocks
  pub root_links : get_or l.counts 0 0 ≤ length l.tables.root_links
  pub root_values : get_or l.counts 0 0 ≤ length l.tables.root_values
  pub upper_links : 32768 * get_or l.counts 1 0 ≤ length l.tables.upper_links
  pub upper_values : 32768 * get_or l.counts 1 0 ≤ length l.tables.upper_values
  pub lower_links : 4096 * get_or l.counts 2 0 ≤ length l.tables.lower_links
  pub lower_values : 4096 * get_or l.counts 2 0 ≤ length l.tables.lower_values
  pub leaf_values : 512 * get_or l.counts 3 0 ≤ length l.tables.leaf_values

-- what five numbers say: root entries, upper entries, lower entries, and leaf values in a high and a low word
abbrev pub read_of : Float → List ℕ → Read
read_of v l = record {
  maximum = v;
  roots = get_or l 0 0;
  uppers = get_or l 1 0;
  lowers = get_or l 2 0;
  leaves = get_or l 3 0 * 18446744073709551616 + get_or l 4 0;
}

-- What holds of a grid and a medium of 18 numbers that the functions are handed.
pub record KeepsC (b : List ℕ) (g : Grid) (medium : List Float) : Type 0 where
  -- a lookup is not refused, and answers the 32 bits that the walk reads
  pub lookups : (c : Coord) → Signed32 c → (number : ℕ) (value : Float) → GetsValue g c number value
      → (number ≡ 0) × (to_bits binary32 value ≡ (walk b c).bits)
  -- a reading is not refused, and answers the same bits with the level that the walk reads them at
  pub readings : (c : Coord) → Signed32 c → (number : ℕ) (value : Float) (level : ℕ) → GetsReading g c number value level
      → (number ≡ 0) × (to_bits binary32 value ≡ (walk b c).bits) × (level ≡ level_number (walk b c).level)
  -- a box maximum is not refused, and is the greatest of zero and the voxels of the box
  pub maxima : (x : Box) → Signed32 x.lo → Signed32 x.hi → (number : ℕ) (value : Float) → BoxMaximum g x number value
      → (number ≡ 0) × (value ≡ box_maximum (voxel b) x) × Greatest (voxel b) x value
  -- a counted one has the same maximum, its counts are what the walk of the tables reads, and for a cube they are no more than R^3 + U^3 + L^3 + n^3
  pub loads : (x : Box) → Signed32 x.lo → Signed32 x.hi → (number : ℕ) (value : Float) (counts : List ℕ) → CountsBox g x 5 number value counts
      → (number ≡ 0) × (value ≡ box_maximum (voxel b) x) × Greatest (voxel b) x value × (read_of value counts ≡ read_for g x)
      × ((n : ℕ) → CubeBox n x → NoDearer n (read_of value counts))
  -- a count by classes whose limits and sides pass is not refused, and each of its counts is that of the voxels of the box
  pub classes : (limits : List Float) (x : Box) → Signed32 x.lo → Signed32 x.hi → limits_fault limits ≡ 0 → sides_fault x ≡ 0
      → (number : ℕ) (counts : List ℕ) → CountsClasses g limits x 17 number counts
      → (number ≡ 0) × (counts ≡ listed 17 0 (class_count (voxel b) limits x))
  -- a list of boxes six to a place is not refused: each maximum is that of its box, and the greatest that of the boxes together
  pub lists : (boxes : List ℤ) (n : ℕ) → length boxes ≡ 6 * n → SignedBoxes boxes n → (number : ℕ) (maxima : List Float) (greatest : Float)
      → BoxMaxima g boxes n number maxima greatest
      → (number ≡ 0) × (maxima ≡ maxima_of (box_maximum (voxel b)) boxes n) × GreatestOver (voxel b) (InSome (box_at boxes) n) greatest
  -- an index position is not refused, and is the one by which `Bounds` finds the eight voxels
  pub positions : (p : Point) (number : ℕ) (bits : List ℕ) → WorldToIndex medium p 3 number bits → (number ≡ 0) × (bits ≡ index_of b p)
  -- the figures of a build that is not refused, whatever corners of the index box and numbers of cells it was handed
  pub figures : (corners : List ℤ) (cells : List ℕ) (places number : ℕ) (table : List Float) → Builds g medium corners cells places number table
      → number ≡ 0 → (places ≡ cell_count (cells_of cells)) × ((p : Point) → Inside b p → Bounds b (cells_of cells) table p)

-- a decode that answers 0: the used parts of what it leaves lie within the tables, and they and the medium keep the claim
abbrev pub ThroughC : Type 0
ThroughC = (b : List ℕ) → Bytes b → (lent : Lent) (arrays : Arrays) (number : ℕ) (left : Left)
    → Decodes b lent arrays number left → number ≡ 0 → Fits left × KeepsC b (used left) left.medium
