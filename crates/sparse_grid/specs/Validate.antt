-- `validate` and `validate_density`: the number of the first fault of a grid, and 0 for none.
use Rattle.std.specs.Prelude.{ℕ, zero, suc, ◌*◌, ◌/◌, ◌%◌, ◌^◌, Bool, false, not, ◌&&◌, ◌||◌, List, length, ℤ, pos, negsuc, ◌==◌, int_le, nat_lt, slice_index, slice_index_or, Float}
use Rattle.std.specs.Float.Ieee.{lt, eq}
use Rattle.std.specs.Float.Ieee.Scale.{finite}
use Rattle.refusals.specs.Faults.{◌then◌, unless, first_fault}
use Rattle.float.specs.Zero.{+0}
use Rattle.layout.specs.Coordinates.{Coord, same_block}
use Rattle.sparse_grid.specs.Tables.{Grid, block_at}

-- ---- faults of one record

-- 12 where a value is not finite
abbrev pub value_fault : Float → ℕ
value_fault v = unless (finite v) 12

-- a link and the value beside it, where the level below has `count` nodes: 11 before 12. A zero of either sign may stand beside a child.
abbrev pub entry_fault : ℕ → ℕ → Float → ℕ
entry_fault count zero v = value_fault v
entry_fault count (suc k) v = unless (nat_lt k count && eq v +0) 11

-- a block's number has 20 bits with its sign
abbrev pub block_in : ℤ → Bool
block_in z = int_le (negsuc 524287) z && int_le z (pos 524287)

-- some root before i has the block b
unfoldable pub earlier : Grid → ℕ → Coord → Bool
earlier g zero b = false
earlier g (suc i) b = earlier g i b || same_block (block_at g i) b

-- root i: 11 for a block out of range or repeated, and then its entry
unfoldable pub root_fault : Grid → ℕ → ℕ
unfolding earlier
root_fault g i =
    let b = block_at g i in
    unless (block_in b.x && block_in b.y && block_in b.z && not (earlier g i b)) 11
    then entry_fault (length g.upper_links / 32768) (slice_index g.root_links i) (slice_index_or g.root_values i +0)

-- ---- faults of a table

abbrev pub entries_fault : ℕ → List ℕ → List Float → ℕ
entries_fault count links values = first_fault (length links) (λ i. entry_fault count (slice_index links i) (slice_index_or values i +0))

abbrev pub values_fault : List Float → ℕ
values_fault values = first_fault (length values) (λ i. value_fault (slice_index_or values i +0))

-- 15 where a value is negative: -0.0 is not
abbrev pub negative : Float → ℕ
negative v = unless (not (lt v +0)) 15

abbrev pub negatives_fault : List Float → ℕ
negatives_fault values = first_fault (length values) (λ i. negative (slice_index_or values i +0))

-- ---- faults of a grid

-- 18 for paired tables of unequal length, or blocks that are not three a root
unfoldable pub pair_fault : Grid → ℕ
pair_fault g =
    unless (length g.root_links == length g.root_values && length g.blocks == 3 * length g.root_links
    && length g.upper_links == length g.upper_values && length g.lower_links == length g.lower_values) 18

-- 18 for tables that are not of whole nodes, or over 2^32 - 1 roots or entries
unfoldable pub shape_fault : Grid → ℕ
shape_fault g =
    unless (length g.upper_links % 32768 == 0 && length g.lower_links % 4096 == 0 && length g.leaf_values % 512 == 0
    && nat_lt (length g.root_links) (2 ^ 32) && nat_lt (length g.upper_links) (2 ^ 32)
    && nat_lt (length g.lower_links) (2 ^ 32) && nat_lt (length g.leaf_values) (2 ^ 32)) 18

unfoldable pub validate : Grid → ℕ
unfolding pair_fault shape_fault first_fault root_fault
validate g =
    pair_fault g then shape_fault g
    then first_fault (length g.root_links) (root_fault g)
    then entries_fault (length g.lower_links / 4096) g.upper_links g.upper_values
    then entries_fault (length g.leaf_values / 512) g.lower_links g.lower_values
    then value_fault g.background
    then values_fault g.leaf_values

-- what a density grid is tested for beside `validate`
unfoldable pub density_fault : Grid → ℕ
unfolding first_fault
density_fault g =
    negative g.background
    then negatives_fault g.root_values
    then negatives_fault g.upper_values
    then negatives_fault g.lower_values
    then negatives_fault g.leaf_values

unfoldable pub validate_density : Grid → ℕ
unfolding validate density_fault
validate_density g = validate g then density_fault g
