-- What only the contracts of private functions cite: the order of blocks, and the first root that has one.
use Rattle.std.specs.Prelude.{ℕ, zero, suc, ◌+◌, ◌*◌, ◌<◌, Bool, cond, ◌&&◌, List, [], length, ℤ, nat_lt, Float}
use Rattle.float.specs.Zero.{+0}
use Rattle.layout.specs.Coordinates.{Coord, same_block}
use Rattle.layout.specs.Walk.{of_background}
use Rattle.sparse_grid.specs.declared.lookup.Place.{Place}
use Rattle.sparse_grid.specs.Biased.{place, raised}
use Rattle.sparse_grid.specs.Tables.{Grid, grid_of, entry_at, block_at}
use Rattle.sparse_grid.specs.Lookup.{Found, value, root_entry}
use Rattle.sparse_grid.specs.Validate.{block_in}

-- a block in range
abbrev pub ranged : Coord → Bool
ranged b = block_in b.x && block_in b.y && block_in b.z

-- a number that rises with the blocks in range: by x, then y, then z, each with its sign
unfoldable pub rank : Coord → ℕ
rank c = (raised c.x * 1048576 + raised c.y) * 1048576 + raised c.z

-- the grid of these blocks: nothing else counts
abbrev pub blocks_of : List ℤ → Grid
blocks_of blocks = grid_of +0 blocks [] [] [] [] [] [] []

-- the block of root i, by the blocks alone
abbrev pub root_block : List ℤ → ℕ → Coord
root_block blocks i = block_at (blocks_of blocks) i

-- every block before i ranks below top
abbrev pub Topped : List ℤ → ℕ → ℕ → Type 0
Topped blocks i top = (j : ℕ) → j < i → rank (root_block blocks j) < top

-- the grid of these nodes: nothing above them counts
abbrev pub nodes_of : List ℕ → List Float → List ℕ → List Float → List Float → Grid
nodes_of upper_links upper_values lower_links lower_values leaf_values = grid_of +0 [] [] [] upper_links upper_values lower_links lower_values leaf_values

-- the first root of n from i on whose block is b, and i + n where there is none
unfoldable pub root_from : List ℤ → ℕ → ℕ → Coord → ℕ
root_from blocks zero i b = i
root_from blocks (suc n) i b = let rest = root_from blocks n (i + 1) b in cond (same_block (root_block blocks i) b) i rest

-- what stands at root i, and the background past the last one
abbrev pub from_root : Grid → Coord → ℕ → Found
from_root g c i =
    cond (nat_lt i (length g.root_links))
    (root_entry g c (entry_at g.root_links g.root_values i))
    (value g.background of_background)

-- the coordinate that a biased place stands for
abbrev pub placed : Place → Coord
placed p = place p.x p.y p.z
