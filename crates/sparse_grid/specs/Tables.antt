-- The lent tables of a sparse grid, and the entry that a link and the value beside it make.
use Rattle.std.specs.Prelude.{ℕ, zero, suc, ◌+◌, ◌*◌, List, ℤ, pos, slice_index, slice_index_or, Float}
use Rattle.float.specs.Zero.{+0}
use Rattle.layout.specs.Coordinates.{Coord}
use Rattle.sparse_grid.specs.declared.Entry.{Entry}
use Rattle.sparse_grid.specs.declared.Entry.TheVariants.{Child, Tile}

-- a background and eight tables: three numbers of `blocks` are the block of a root
pub record Grid : Type 0 where
  pub background : Float
  pub blocks : List ℤ
  pub root_links : List ℕ
  pub root_values : List Float
  pub upper_links : List ℕ
  pub upper_values : List Float
  pub lower_links : List ℕ
  pub lower_values : List Float
  pub leaf_values : List Float

-- the grid of these tables
abbrev pub grid_of : Float → List ℤ → List ℕ → List Float → List ℕ → List Float → List ℕ → List Float → List Float → Grid
grid_of background blocks root_links root_values upper_links upper_values lower_links lower_values leaf_values = record {
  background = background;
  blocks = blocks;
  root_links = root_links;
  root_values = root_values;
  upper_links = upper_links;
  upper_values = upper_values;
  lower_links = lower_links;
  lower_values = lower_values;
  leaf_values = leaf_values;
}

-- link 0 is a tile, k + 1 is child k
abbrev pub entry_of : ℕ → Float → Entry
entry_of zero v = Tile v
entry_of (suc k) v = Child k

-- the entry at i
abbrev pub entry_at : List ℕ → List Float → ℕ → Entry
entry_at links values i = entry_of (slice_index links i) (slice_index_or values i +0)

-- the block of root i
abbrev pub block_at : Grid → ℕ → Coord
block_at g i = record {
  x = slice_index_or g.blocks (3 * i) (pos 0);
  y = slice_index_or g.blocks (3 * i + 1) (pos 0);
  z = slice_index_or g.blocks (3 * i + 2) (pos 0);
}
