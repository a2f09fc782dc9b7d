-- What the box maximum reads after `validate`: a definition of its walk, and the most that it can be for a cube.
-- Coordinates are biased: a coordinate plus 2^31, a block's number plus 2^19. So cell t of s coordinates holds those from s t up to below s t + s,
-- whatever the sign was: the coordinates of root t for s = 4,096, of an upper entry for 128, of a lower entry for 8, of a leaf's value for 1.
use Rattle.std.specs.Prelude.{ℕ, ◌+◌, ◌-◌, ◌*◌, ◌/◌, ◌≤◌, max, min, ◌≡◌, Bool, cond, ◌&&◌, ltb, ℤ, pos, negsuc, length}
use Rattle.layout.specs.Coordinates.{Coord, Signed32}
use Rattle.sparse_grid.specs.declared.Entry.{Entry}
use Rattle.sparse_grid.specs.declared.Entry.TheVariants.{Child, Tile}
use Rattle.sparse_grid.specs.Tables.{Grid, entry_at, block_at}
use Rattle.sparse_grid.specs.Biased.{raised}
use Rattle.sparse_grid.specs.Count.{sum}
use Rattle.boxes.specs.Boxes.{Box, span}

-- ---- boxes

-- a coordinate plus 2^31
abbrev pub biased : ℤ → ℕ
biased (pos n) = 2147483648 + n
biased (negsuc n) = 2147483648 - (n + 1)

-- a box by biased coordinates: on each axis from the low end up to below the high one
pub record Zone : Type 0 where
  pub x0 : ℕ
  pub x1 : ℕ
  pub y0 : ℕ
  pub y1 : ℕ
  pub z0 : ℕ
  pub z1 : ℕ

abbrev pub zone_of : Box → Zone
zone_of b = record {
  x0 = biased b.lo.x;
  x1 = biased b.hi.x + 1;
  y0 = biased b.lo.y;
  y1 = biased b.hi.y + 1;
  z0 = biased b.lo.z;
  z1 = biased b.hi.z + 1;
}

-- cell t of s coordinates has one of those from lo up to below hi
unfoldable pub meets : ℕ → ℕ → ℕ → ℕ → Bool
meets s lo hi t = ltb (max lo (s * t)) (min hi (s * t + s))

-- cell (a, b, c) of s coordinates a side has one in the zone
abbrev pub touches : ℕ → Zone → ℕ → ℕ → ℕ → Bool
touches s q a b c = meets s q.x0 q.x1 a && meets s q.y0 q.y1 b && meets s q.z0 q.z1 c

-- ---- the walk

-- what one read of each kind counts for. So one walk is defined, and each count is the walk at a price of one for its own kind alone.
pub record Price : Type 0 where
  pub root : ℕ
  pub upper : ℕ
  pub lower : ℕ
  pub leaf : ℕ

-- what f gives for a child; below a tile there is nothing
abbrev pub below : Entry → (ℕ → ℕ) → ℕ
below (Child k) f = f k
below (Tile v) f = 0

-- from cell (a, b, c) on, n cells of s coordinates along each axis: for each that touches the zone, what f gives for its slot and for the cell
unfoldable pub over_cells : ℕ → ℕ → Zone → ℕ → ℕ → ℕ → (ℕ → ℕ → ℕ → ℕ → ℕ) → ℕ
over_cells n s q a b c f =
    sum n (λ i. sum n (λ j. sum n (λ k.
    cond (touches s q (a + i) (b + j) (c + k)) (f ((i * n + j) * n + k) (a + i) (b + j) (c + k)) 0)))

-- leaf k, whose own cell of 8 coordinates is (a, b, c): 8 × 8 × 8 values
unfoldable pub leaf_steps : Price → Zone → ℕ → ℕ → ℕ → ℕ → ℕ
leaf_steps p q k a b c = over_cells 8 1 q (8 * a) (8 * b) (8 * c) (λ s x y z. p.leaf)

-- lower node k, whose own cell of 128 is (a, b, c): 16 × 16 × 16 entries, and what is below its children
unfoldable pub lower_steps : Price → Grid → Zone → ℕ → ℕ → ℕ → ℕ → ℕ
lower_steps p g q k a b c =
    over_cells 16 8 q (16 * a) (16 * b) (16 * c) (λ s x y z.
    p.lower + below (entry_at g.lower_links g.lower_values (4096 * k + s)) (λ j. leaf_steps p q j x y z))

-- upper node k, whose own cell of 4,096 is (a, b, c): 32 × 32 × 32 entries, and what is below its children
unfoldable pub upper_steps : Price → Grid → Zone → ℕ → ℕ → ℕ → ℕ → ℕ
upper_steps p g q k a b c =
    over_cells 32 128 q (32 * a) (32 * b) (32 * c) (λ s x y z.
    p.upper + below (entry_at g.upper_links g.upper_values (32768 * k + s)) (λ j. lower_steps p g q j x y z))

-- root i, whose block is b
abbrev pub root_steps : Price → Grid → Zone → ℕ → Coord → ℕ
root_steps p g q i b =
    let x = raised b.x in let y = raised b.y in let z = raised b.z in
    cond (touches 4096 q x y z) (p.root + below (entry_at g.root_links g.root_values i) (λ k. upper_steps p g q k x y z)) 0

-- each root whose block touches the zone and, below each child, each entry or value that does: anew on every path, shared nodes too
unfoldable pub steps : Price → Grid → Zone → ℕ
steps p g q = sum (length g.root_links) (λ i. root_steps p g q i (block_at g i))

-- ---- the four counts

abbrev pub roots_only : Price
roots_only = record { root = 1; upper = 0; lower = 0; leaf = 0 }

abbrev pub uppers_only : Price
uppers_only = record { root = 0; upper = 1; lower = 0; leaf = 0 }

abbrev pub lowers_only : Price
lowers_only = record { root = 0; upper = 0; lower = 1; leaf = 0 }

abbrev pub leaves_only : Price
leaves_only = record { root = 0; upper = 0; lower = 0; leaf = 1 }

-- how many root entries, upper entries, lower entries and leaf values are read for a box
abbrev pub roots_read : Grid → Box → ℕ
roots_read g b = steps roots_only g (zone_of b)

abbrev pub uppers_read : Grid → Box → ℕ
uppers_read g b = steps uppers_only g (zone_of b)

abbrev pub lowers_read : Grid → Box → ℕ
lowers_read g b = steps lowers_only g (zone_of b)

abbrev pub leaves_read : Grid → Box → ℕ
leaves_read g b = steps leaves_only g (zone_of b)

-- all together
abbrev pub all_read : Grid → Box → ℕ
all_read g b = roots_read g b + uppers_read g b + lowers_read g b + leaves_read g b

-- ---- the dearest cube

-- the most root blocks, upper entries and lower entries that n coordinates in a row meet
abbrev pub R : ℕ → ℕ
R n = (n + 4094) / 4096 + 1

abbrev pub U : ℕ → ℕ
U n = (n + 126) / 128 + 1

abbrev pub L : ℕ → ℕ
L n = (n + 6) / 8 + 1

abbrev pub cubed : ℕ → ℕ
cubed n = n * n * n

-- a cube: a box of n coordinates a side, with 32-bit corners
pub record CubeBox (n : ℕ) (b : Box) : Type 0 where
  pub some : 1 ≤ n
  pub low : Signed32 b.lo
  pub high : Signed32 b.hi
  pub x : span b.lo.x b.hi.x ≡ n
  pub y : span b.lo.y b.hi.y ≡ n
  pub z : span b.lo.z b.hi.z ≡ n

-- the most that is read for it, all together
abbrev pub most_read : ℕ → ℕ
most_read n = cubed (R n) + cubed (U n) + cubed (L n) + cubed n
