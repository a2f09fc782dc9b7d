-- What it means that tables hold the nodes of the bytes that have been read. What only laws and private contracts cite.
use Rattle.std.specs.Prelude.{◌≡◌, ℕ, ◌+◌, ◌*◌, ◌≤◌, ◌<◌, List, Bool, true, false, eqb, length, get_or, Float}
use Rattle.std.specs.Float.{binary32}
use Rattle.std.specs.Float.Ieee.{of_bits}
use Rattle.float.specs.Zero.{+0}
use Rattle.layout.specs.Bytes.{u32_at, i64_at, mask_bit}
use Rattle.layout.specs.Walk.{shift}
use Rattle.sparse_grid.specs.declared.Entry.{Entry}
use Rattle.sparse_grid.specs.declared.Entry.TheVariants.{Child, Tile}
use Rattle.nanovdb.specs.Spans.{Span, at, seen}
use Rattle.nanovdb.specs.Nodes.{State, with_span, size_of, nodes_at, counted, entries_of, mask_of, table_of}

-- leaf number k is the one at source
pub record Leaf (b : List ℕ) (leaf : List Float) (source k : ℕ) : Type 0 where
  pub fits : 512 * (k + 1) ≤ length leaf
  pub each : (i : ℕ) → i < 512 → get_or leaf (512 * k + i) +0 ≡ of_bits binary32 (u32_at b (source + 96 + 4 * i))

-- an entry where the bytes have a value (the first argument says so), or else a child
abbrev pub Good : (ℕ → ℕ → Type 0) → Bool → ℕ → ℕ → Entry → Type 0
Good child true bits target (Tile v) = v ≡ of_bits binary32 bits
Good child true bits target (Child j) = ⊥
Good child false bits target (Tile v) = ⊥
Good child false bits target (Child j) = child target j

-- slot i of the node at source
abbrev pub SlotGood : (ℕ → ℕ → Type 0) → List ℕ → ℕ → ℕ → ℕ → Entry → Type 0
SlotGood child b level source i e =
    Good child (eqb (mask_bit b (source + mask_of level) i) 0) (u32_at b (source + table_of level + 8 * i))
    (shift source (i64_at b (source + table_of level + 8 * i))) e

-- node number k of the table is the one at source
pub record Node (child : ℕ → ℕ → Type 0) (b : List ℕ) (level : ℕ) (table : List Entry) (source k : ℕ) : Type 0 where
  pub fits : entries_of level * (k + 1) ≤ length table
  pub each : (i : ℕ) → i < entries_of level → SlotGood child b level source i (get_or table (entries_of level * k + i) (Tile +0))

-- the span of a new node
abbrev pub span_of : ℕ → ℕ → State → Span
span_of level source t = record { start = source; end = source + size_of level; level = level; number = nodes_at t level }

-- the state in which a new node's slots are read
abbrev pub opening : ℕ → ℕ → State → State
opening level source t = counted (with_span t (span_of level source t)) level

-- ---- leaves, lower nodes and upper nodes
abbrev pub LeafIn : List ℕ → State → ℕ → ℕ → Type 0
LeafIn b t = Leaf b t.leaf

pub record Inv0 (b : List ℕ) (t : State) : Type 0 where
  pub full : length t.leaf ≡ 512 * t.leaf_nodes
  pub known : (s k : ℕ) → seen t.spans s 0 ≡ at k → Leaf b t.leaf s k

abbrev pub LowerIn : List ℕ → State → ℕ → ℕ → Type 0
LowerIn b t = Node (Leaf b t.leaf) b 1 t.lower

pub record Inv1 (b : List ℕ) (t : State) : Type 0 where
  pub below : Inv0 b t
  pub full : length t.lower ≡ 4096 * t.lower_nodes
  pub known : (s k : ℕ) → seen t.spans s 1 ≡ at k → LowerIn b t s k

abbrev pub UpperIn : List ℕ → State → ℕ → ℕ → Type 0
UpperIn b t = Node (LowerIn b t) b 2 t.upper

pub record Inv2 (b : List ℕ) (t : State) : Type 0 where
  pub below : Inv1 b t
  pub full : length t.upper ≡ 32768 * t.upper_nodes
  pub known : (s k : ℕ) → seen t.spans s 2 ≡ at k → UpperIn b t s k
