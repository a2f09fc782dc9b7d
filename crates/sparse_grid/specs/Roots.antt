-- The roots of a grid as records, and a grid whose root records stand in another order: each keeps its block, its link and its value.
use Rattle.std.specs.Prelude.{◌≡◌, ℕ, zero, suc, ◌+◌, List, [], ◌∷◌, length, ℤ, slice_index, slice_index_or, Float}
use mathlib.Core.List.{Permᴰ}
use Rattle.float.specs.Zero.{+0}
use Rattle.layout.specs.Coordinates.{Coord}
use Rattle.sparse_grid.specs.Tables.{Grid, grid_of, block_at}

-- one root: its block, its link, and the value beside it
pub record RootRecord : Type 0 where
  pub block : Coord
  pub link : ℕ
  pub value : Float

-- ---- from records to tables

unfoldable pub blocks_of : List RootRecord → List ℤ
blocks_of [] = []
blocks_of (r ∷ rs) = r.block.x ∷ r.block.y ∷ r.block.z ∷ blocks_of rs

unfoldable pub links_of : List RootRecord → List ℕ
links_of [] = []
links_of (r ∷ rs) = r.link ∷ links_of rs

unfoldable pub values_of : List RootRecord → List Float
values_of [] = []
values_of (r ∷ rs) = r.value ∷ values_of rs

-- other root tables above the same nodes
abbrev pub with_roots : Grid → List ℤ → List ℕ → List Float → Grid
with_roots g blocks links values =
    grid_of g.background blocks links values g.upper_links g.upper_values g.lower_links g.lower_values g.leaf_values

-- these roots above the same nodes
unfoldable pub rooted : Grid → List RootRecord → Grid
unfolding blocks_of links_of values_of
rooted g rs = with_roots g (blocks_of rs) (links_of rs) (values_of rs)

-- ---- from tables to records

-- root i
abbrev pub record_at : Grid → ℕ → RootRecord
record_at g i = record { block = block_at g i; link = slice_index g.root_links i; value = slice_index_or g.root_values i +0 }

-- n roots from i on, and all
unfoldable pub records_from : Grid → ℕ → ℕ → List RootRecord
records_from g zero i = []
records_from g (suc n) i = record_at g i ∷ records_from g n (i + 1)

unfoldable pub records_of : Grid → List RootRecord
unfolding records_from
records_of g = records_from g (length g.root_links) 0

-- ---- another order

-- h is g with its root records in another order. `List.Permᴰ` is the library's permutation of lists: by swaps of neighbours, one after another.
pub record Reordered (g h : Grid) : Type 0 where
  pub records : List RootRecord
  pub permuted : Permᴰ (records_of g) records
  pub is : h ≡ rooted g records
