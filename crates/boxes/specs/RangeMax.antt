-- Boxes by spans, and what is read below a node and by the roots: what only private contracts cite.
-- Coordinates here are biased: a coordinate plus 2^31, a block's number plus 2^19.
use Rattle.std.specs.Prelude.{ℕ, ◌+◌, ◌-◌, ◌*◌, ◌/◌, ◌%◌, ◌≤◌, ◌<◌, ◌≡◌, Bool, true, ◌||◌, List, leb, ltb, ℤ, length, get_or, Float}
use Rattle.float.specs.Zero.{+0}
use Rattle.layout.specs.Coordinates.{Coord}
use Rattle.sparse_grid.specs.declared.Entry.{Entry}
use Rattle.sparse_grid.specs.declared.Entry.TheVariants.{Child, Tile}
use Rattle.sparse_grid.specs.Tables.{Grid, entry_at}
use Rattle.sparse_grid.specs.Validate.{earlier}
use Rattle.sparse_grid.specs.Lookup.{read_in}
use Rattle.sparse_grid.specs.Biased.{back, place}
use Rattle.sparse_grid.specs.Count.{sum, bit}
use Rattle.boxes.specs.declared.Span.{Span}
use Rattle.boxes.specs.Most.{Most, Inside}

-- ---- boxes

-- the places of three spans
abbrev pub Within : Span → Span → Span → ℕ → ℕ → ℕ → Type 0
Within x y z = Inside x.lo x.hi y.lo y.hi z.lo z.hi

-- spans with a place in each, within 2^32
pub record Full (x y z : Span) : Type 0 where
  pub x_some : x.lo < x.hi
  pub y_some : y.lo < y.hi
  pub z_some : z.lo < z.hi
  pub x_top : x.hi ≤ 4294967296
  pub y_top : y.hi ≤ 4294967296
  pub z_top : z.hi ≤ 4294967296

-- some span has no place
abbrev pub empty : Span → Span → Span → Bool
empty x y z = leb x.hi x.lo || leb y.hi y.lo || leb z.hi z.lo

-- the span of the coordinates from lo to hi, ends included
pub record Ends (lo hi : ℤ) (s : Span) : Type 0 where
  pub low : lo ≡ back 2147483648 s.lo
  pub high : hi ≡ back 2147483648 (s.hi - 1)
  pub some : 0 < s.hi
  pub top : s.hi ≤ 4294967296

-- e ends a part of at..end that lies in one cell of `side` coordinates; before the end it is a cell's border
pub record Cut (side at end e : ℕ) : Type 0 where
  pub more : at < e
  pub within : e ≤ end
  pub cell : e ≤ at / side * side + side
  pub border : e < end → e % side ≡ 0

-- a span that lies in one cell
abbrev pub InCell : ℕ → Span → Type 0
InCell side s = s.hi ≤ s.lo / side * side + side

-- a..e is the part of lo..hi in the block b
pub record Clip (b lo hi a e : ℕ) : Type 0 where
  pub low : lo ≤ a
  pub block_low : b * 4096 ≤ a
  pub high : e ≤ hi
  pub block_high : e ≤ b * 4096 + 4096
  pub all : (x : ℕ) → lo ≤ x → x < hi → x / 4096 ≡ b → (a ≤ x) × (x < e)

-- no place of lo..hi lies in the block b
abbrev pub apart : ℕ → ℕ → ℕ → Bool
apart b lo hi = ltb b (lo / 4096) || ltb ((hi - 1) / 4096) b

-- ---- what is read below a node

-- what child j gives, or the tile's value
abbrev pub entry_read : Entry → (ℕ → Float) → Float
entry_read (Child j) f = f j
entry_read (Tile v) f = v

unfoldable pub leaf_read : List Float → ℕ → ℕ → ℕ → ℕ → Float
leaf_read leaf k x y z = get_or leaf (512 * k + ((x % 8 * 8 + y % 8) * 8 + z % 8)) +0

abbrev pub lower_slot : ℕ → ℕ → ℕ → ℕ → ℕ
lower_slot k x y z = 4096 * k + ((x % 128 / 8 * 16 + y % 128 / 8) * 16 + z % 128 / 8)

unfoldable pub lower_read : List ℕ → List Float → List Float → ℕ → ℕ → ℕ → ℕ → Float
lower_read links values leaf k x y z = entry_read (entry_at links values (lower_slot k x y z)) (λ j. leaf_read leaf j x y z)

abbrev pub upper_slot : ℕ → ℕ → ℕ → ℕ → ℕ
upper_slot k x y z = 32768 * k + ((x % 4096 / 128 * 32 + y % 4096 / 128) * 32 + z % 4096 / 128)

unfoldable pub upper_read : List ℕ → List Float → List ℕ → List Float → List Float → ℕ → ℕ → ℕ → ℕ → Float
upper_read upper_links upper_values links values leaf k x y z =
    entry_read (entry_at upper_links upper_values (upper_slot k x y z)) (λ j. lower_read links values leaf j x y z)

-- node k of the lower table is there, and so is every leaf that the table names
pub record LowerIn (links : List ℕ) (values leaf : List Float) (k : ℕ) : Type 0 where
  pub room : 4096 * k + 4096 ≤ length links
  pub pair : length links ≡ length values
  pub linked : (i : ℕ) → 512 * get_or links i 0 ≤ length leaf

-- the two node tables and the leaves fit each other
pub record Linked (upper_links : List ℕ) (upper_values : List Float) (links : List ℕ) (values leaf : List Float) : Type 0 where
  pub upper : length upper_links ≡ length upper_values
  pub lower : length links ≡ length values
  pub upper_linked : (i : ℕ) → 4096 * get_or upper_links i 0 ≤ length links
  pub lower_linked : (i : ℕ) → 512 * get_or links i 0 ≤ length leaf

pub record UpperIn (upper_links : List ℕ) (upper_values : List Float) (links : List ℕ) (values leaf : List Float) (k : ℕ) : Type 0 where
  pub room : 32768 * k + 32768 ≤ length upper_links
  pub tables : Linked upper_links upper_values links values leaf

-- a child that the upper table holds whole
abbrev pub child_in : Entry → ℕ → Type 0
child_in (Child j) n = 32768 * j + 32768 ≤ n
child_in (Tile v) n = 0 ≤ n

-- ---- the roots

-- what a lookup reads at a place
unfoldable pub read_at : Grid → ℕ → ℕ → ℕ → Float
read_at g x y z = read_in g (place x y z)

abbrev pub corner : ℕ → ℕ → ℕ → Coord
corner x y z = record { x = back 524288 x; y = back 524288 y; z = back 524288 z }

-- the block of a place
abbrev pub block_at_place : ℕ → ℕ → ℕ → Coord
block_at_place x y z = corner (x / 4096) (y / 4096) (z / 4096)

-- the places of the box whose block one of the first i roots has
pub record Met (g : Grid) (i x0 x1 y0 y1 z0 z1 x y z : ℕ) : Type 0 where
  pub inside : Inside x0 x1 y0 y1 z0 z1 x y z
  pub block : earlier g i (block_at_place x y z) ≡ true

-- how many blocks lie along lo..hi
abbrev pub wide : ℕ → ℕ → ℕ
wide lo hi = (hi - 1) / 4096 - lo / 4096 + 1

-- how many blocks of the box the first i roots have
unfoldable pub met : Grid → ℕ → ℕ → ℕ → ℕ → ℕ → ℕ → ℕ → ℕ
unfolding sum
met g i x0 x1 y0 y1 z0 z1 =
    sum (wide x0 x1) (λ a. sum (wide y0 y1) (λ b. sum (wide z0 z1) (λ c. bit (earlier g i (corner (x0 / 4096 + a) (y0 / 4096 + b) (z0 / 4096 + c))))))

-- after i roots: the greatest of what they hold of the box, and how many of its blocks that is
pub record Covered (g : Grid) (i x0 x1 y0 y1 z0 z1 : ℕ) (m : Float) (k : ℕ) : Type 0 where
  pub most : Most (read_at g) (Met g i x0 x1 y0 y1 z0 z1) m
  pub count : k ≡ met g i x0 x1 y0 y1 z0 z1
  pub small : k ≤ i

abbrev pub CoveredIn : Grid → ℕ → Span → Span → Span → Float → ℕ → Type 0
CoveredIn g i x y z m k = Covered g i x.lo x.hi y.lo y.hi z.lo z.hi m k
