-- The one claim, from the bytes to the figures. Everything on the right of "accepted" is read from the bytes.
use Rattle.std.specs.Prelude.{ℕ, ◌<◌, ◌≡◌, List, false, get_or, Float}
use Rattle.std.specs.Float.Ieee.{lt}
use Rattle.refusals.specs.Results.{ok}
use Rattle.float.specs.Zero.{+0}
use Rattle.layout.specs.Bytes.{Bytes}
use Rattle.layout.specs.Coordinates.{Coord, Signed32}
use Rattle.layout.specs.Walk.{voxel}
use Rattle.sparse_grid.specs.Lookup.{lookup}
use Rattle.medium.specs.Medium.{Medium, Point}
use Rattle.medium.specs.Alike.{Alike}
use Rattle.nanovdb.specs.Nodes.{Places}
use Rattle.nanovdb.specs.Decode.{Accepted, decode_density, medium_of}
use Rattle.nanovdb.specs.Agreement.{ReadsAs}
use Rattle.boxes.specs.Boxes.{Box, Greatest, box_maximum}
use Rattle.cells.specs.Cells.{Cells, cell_count}
use Rattle.index.specs.Cells.{Between, EnclosesIn, AroundIn}
use Rattle.majorant.specs.Build.{build_into, public_maximum}

-- one of the eight voxels around a point, with the map and translation in the bytes
abbrev pub Around : List ℕ → Point → Coord → Type 0
Around b p c = AroundIn (medium_of b) p c

-- cell k of n encloses the point, with the world box in the bytes
abbrev pub Encloses : List ℕ → Cells → ℕ → Point → Type 0
Encloses b n k p = EnclosesIn (medium_of b) n k p

-- the point lies inside or on the world box in the bytes
abbrev pub Inside : List ℕ → Point → Type 0
Inside b p = Between (medium_of b).low (medium_of b).high p

-- what holds of a table of n cells that was built of the accepted grid
pub record Bounds (b : List ℕ) (n : Cells) (figures : List Float) (p : Point) : Type 0 where
  pub enclosed : (k : ℕ) × (k < cell_count n) × Encloses b n k p
  pub bounded : (k : ℕ) → k < cell_count n → Encloses b n k p → (c : Coord) → Around b p c
      → Signed32 c × (lt (get_or figures k +0) (voxel b c) ≡ false)

-- what holds of an accepted grid: its lookups, its box maxima, and the figures of a table built of it, whatever numbers of cells stand in the record then
pub record Holds (b : List ℕ) (t : Accepted) : Type 0 where
  pub lookups : (c : Coord) → Signed32 c → ReadsAs b c (lookup t.grid c)
  pub maxima : (x : Box) → Signed32 x.lo → Signed32 x.hi
      → (public_maximum t.grid x ≡ ok (box_maximum (voxel b) x)) × Greatest (voxel b) x (box_maximum (voxel b) x)
  pub figures : (m : Medium) → Alike t.medium m → (places : ℕ) (l : List Float) → build_into t.grid m places ≡ ok l
      → (p : Point) → Inside b p → Bounds b m.cells l p

abbrev pub Demand3 : Type 0
Demand3 = (b : List ℕ) → Bytes b → (p : Places) (t : Accepted) → decode_density b p ≡ ok t → Holds b t
