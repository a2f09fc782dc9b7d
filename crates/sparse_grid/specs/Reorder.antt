-- When two grids over the same nodes have the same roots in another order; what follows is proofs/Reorder.
use Rattle.std.specs.Prelude.{◌≡◌, ℕ, ◌<◌, length, slice_index, slice_index_or}
use Rattle.float.specs.Zero.{+0}
use Rattle.sparse_grid.specs.Tables.{Grid, block_at}

-- root i of h is root `to i` of g, and each root of g is one of h: `to` and `back` undo each other below the number of roots
pub record Moved (g h : Grid) : Type 0 where
  pub links : length h.root_links ≡ length g.root_links
  pub values : length h.root_values ≡ length g.root_values
  pub blocks : length h.blocks ≡ length g.blocks
  pub to : ℕ → ℕ
  pub back : ℕ → ℕ
  pub to_in : (i : ℕ) → i < length g.root_links → to i < length g.root_links
  pub back_in : (i : ℕ) → i < length g.root_links → back i < length g.root_links
  pub to_back : (i : ℕ) → i < length g.root_links → to (back i) ≡ i
  pub back_to : (i : ℕ) → i < length g.root_links → back (to i) ≡ i
  pub block : (i : ℕ) → i < length g.root_links → block_at h i ≡ block_at g (to i)
  pub link : (i : ℕ) → i < length g.root_links → slice_index h.root_links i ≡ slice_index g.root_links (to i)
  pub value : (i : ℕ) → i < length g.root_links → slice_index_or h.root_values i +0 ≡ slice_index_or g.root_values (to i) +0
