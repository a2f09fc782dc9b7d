-- Runs of values that are put into a table, and the next child of a mask: what the contracts of the node reader's loops say.
use Rattle.std.specs.Prelude.{ℕ, ◌+◌, ◌-◌, ◌*◌, ◌<◌, ◌≤◌, ◌≡◌, List, ◌++◌, length, set, take, replicate, Float}
use Rattle.float.specs.Zero.{+0}
use Rattle.layout.specs.Bytes.{f32_at, mask_bit}
use Rattle.nanovdb.specs.Nodes.{by_level, table_of}

-- value i of the leaf at source, and of the table of an internal node
abbrev pub leaf_value : List ℕ → ℕ → ℕ → Float
leaf_value b source i = f32_at b (source + 96 + 4 * i)

abbrev pub slot_value : List ℕ → ℕ → ℕ → ℕ → Float
slot_value b source level i = f32_at b (source + table_of level + 8 * i)

-- from l to another table by the values of f from `from` on, each as far behind base as its number says
pub data Stored (f : ℕ → Float) (base from : ℕ) (l : List Float) : ℕ → List Float → Type 0 where
  stored_none : Stored f base from l from l
  stored_more : {i : ℕ} {m : List Float} → Stored f base from l i m → Stored f base from l (i + 1) (set m (base + i) (f i))

-- the values of so many leaves, and zeros behind them
abbrev pub zero_behind : ℕ → List Float → List Float
zero_behind leaves l = take (512 * leaves) l ++ replicate (length l - 512 * leaves) +0

-- a store to the lower table at level 1, and to the upper one at level 2
abbrev pub at_lower : {A : Type 0} → ℕ → List A → ℕ → A → List A
at_lower level l at x = by_level level l (set l at x) l

abbrev pub at_upper : {A : Type 0} → ℕ → List A → ℕ → A → List A
at_upper level l at x = by_level level l l (set l at x)

-- the same of the values of a level
pub data TilesStored (level : ℕ) (f : ℕ → Float) (base from : ℕ) (upper lower : List Float) : ℕ → List Float → List Float → Type 0 where
  tiles_none : TilesStored level f base from upper lower from upper lower
  tiles_more : {i : ℕ} {u l : List Float} → TilesStored level f base from upper lower i u l
      → TilesStored level f base from upper lower (i + 1) (at_upper level u (base + i) (f i)) (at_lower level l (base + i) (f i))

-- r is the first slot from i on, below n, whose bit is set in the mask that stands at; n where there is none
pub record NextChild (b : List ℕ) (at i n r : ℕ) : Type 0 where
  pub from : i ≤ r
  pub to : r ≤ n
  pub clear : (j : ℕ) → i ≤ j → j < r → mask_bit b at j ≡ 0
  pub found : r < n → mask_bit b at r ≡ 1
