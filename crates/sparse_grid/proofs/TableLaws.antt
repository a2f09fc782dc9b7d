-- An entry that is read from a table and an entry of its definition. Assumes nothing.
use Rattle.std.specs.Prelude.{◌≡◌, ℕ, zero, suc, ◌-◌, ◌<◌, List, length, slice_index, slice_index_or, Float}
use Rattle.std.proofs.Common.{arith, ap}
use Rattle.std.specs.Float.{nan}
use Rattle.refusals.proofs.ListLaws.{get_d_any}
use Rattle.float.specs.Zero.{+0}
use Rattle.sparse_grid.specs.declared.Entry.TheVariants.{Child}
use Rattle.sparse_grid.specs.Tables.{entry_of, entry_at}
use Rattle.sparse_grid.specs.Validate.{entry_fault}

-- a link that is not 0
pub child : (l : ℕ) (v : Float) → 0 < l → Child (l - 1) ≡ entry_of l v
child zero v h = absurd (omega arith)
child (suc l) v h = ap Child (omega arith)

-- the link and the value that code reads at i make the entry at i
pub entry_read_lem : (links : List ℕ) (values : List Float) (i : ℕ) → i < length values
    → entry_of (slice_index links i) (slice_index_or values i nan) ≡ entry_at links values i
entry_read_lem links values i l = ap (entry_of (slice_index links i)) (get_d_any values i nan +0 l)

-- the fault of an entry that is read at i
pub entry_fault_read : (links : List ℕ) (values : List Float) (count i : ℕ) → i < length values
    → entry_fault count (slice_index links i) (slice_index_or values i nan) ≡ entry_fault count (slice_index links i) (slice_index_or values i +0)
entry_fault_read links values count i l = ap (entry_fault count (slice_index links i)) (get_d_any values i nan +0 l)
