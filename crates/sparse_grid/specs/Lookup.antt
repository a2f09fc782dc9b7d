-- `get_value`: what a lookup of a grid reads, at which level, or the refusal.
use Rattle.std.specs.Prelude.{ℕ, zero, suc, ◌+◌, ◌*◌, cond, length, ◌==◌, nat_le, slice_index_or, Float}
use Rattle.float.specs.Zero.{+0}
use Rattle.layout.specs.Coordinates.{Coord, slot, block_of, same_block}
use Rattle.layout.specs.Walk.{Level, of_leaf, of_lower, of_upper, of_root, of_background}
use Rattle.sparse_grid.specs.declared.Entry.{Entry}
use Rattle.sparse_grid.specs.declared.Entry.TheVariants.{Child, Tile}
use Rattle.sparse_grid.specs.Tables.{Grid, entry_at, block_at}
use Rattle.sparse_grid.specs.Validate.{pair_fault}

-- a value with the level that it stood at, or a refusal
pub data Found : Type 0 where
  value : Float → Level → Found
  refused : ℕ → Found

-- in leaf k, in a lower node, in an upper node: 11 where the whole node is not in its table
abbrev pub leaf_at : Grid → ℕ → Coord → Found
leaf_at g k c =
    cond (nat_le (512 * (k + 1)) (length g.leaf_values))
    (value (slice_index_or g.leaf_values (512 * k + slot 8 1 c) +0) of_leaf)
    (refused 11)

abbrev pub lower_entry : Grid → Coord → Entry → Found
lower_entry g c (Child k) = leaf_at g k c
lower_entry g c (Tile v) = value v of_lower

abbrev pub lower_at : Grid → ℕ → Coord → Found
lower_at g k c =
    cond (nat_le (4096 * (k + 1)) (length g.lower_links))
    (lower_entry g c (entry_at g.lower_links g.lower_values (4096 * k + slot 16 8 c)))
    (refused 11)

abbrev pub upper_entry : Grid → Coord → Entry → Found
upper_entry g c (Child k) = lower_at g k c
upper_entry g c (Tile v) = value v of_upper

abbrev pub upper_at : Grid → ℕ → Coord → Found
upper_at g k c =
    cond (nat_le (32768 * (k + 1)) (length g.upper_links))
    (upper_entry g c (entry_at g.upper_links g.upper_values (32768 * k + slot 32 128 c)))
    (refused 11)

abbrev pub root_entry : Grid → Coord → Entry → Found
root_entry g c (Child k) = upper_at g k c
root_entry g c (Tile v) = value v of_root

-- the first root of n from i on whose block is b
unfoldable pub roots_from : Grid → ℕ → ℕ → Coord → Found
roots_from g zero i c = value g.background of_background
roots_from g (suc n) i c =
    let rest = roots_from g n (i + 1) c in
    cond (same_block (block_at g i) (block_of c)) (root_entry g c (entry_at g.root_links g.root_values i)) rest

-- 18 for unpaired tables or blocks that are not three a root, 11 for a link that the lookup meets
unfoldable pub lookup : Grid → Coord → Found
unfolding pair_fault roots_from
lookup g c = let f = pair_fault g in let r = roots_from g (length g.root_links) 0 c in cond (f == 0) r (refused f)

-- the value of an answer, and +0 where it is refused
abbrev pub value_in : Found → Float
value_in (value v l) = v
value_in (refused n) = +0

-- what a lookup reads, and +0 where it is refused
abbrev pub read_in : Grid → Coord → Float
read_in g c = value_in (lookup g c)
