-- The nodes below the root, in the order in which they are read, and the number of the first fault.
use Rattle.std.specs.Prelude.{ℕ, zero, suc, ◌+◌, ◌-◌, ◌*◌, ◌%◌, List, [], ◌∷◌, ◌++◌, cond, not, ◌&&◌, ℤ, pos, negsuc, eqb, ltb, leb, length, Float}
use Rattle.refusals.specs.Results.{Result, ok, bind, need}
use Rattle.layout.specs.Bytes.{u64_at, i64_at, f32_at, mask_bit}
use Rattle.sparse_grid.specs.declared.Entry.{Entry}
use Rattle.sparse_grid.specs.declared.Entry.TheVariants.{Child, Tile}
use Rattle.nanovdb.specs.Spans.{Span, overlaps, Seen, at, nowhere, seen}

-- how many spans, roots and nodes of each level the lent tables hold
pub record Places : Type 0 where
  pub spans : ℕ
  pub roots : ℕ
  pub upper : ℕ
  pub lower : ℕ
  pub leaf : ℕ

-- what has been read so far: the spans in the order in which they were claimed, and the entries node after node
pub record State : Type 0 where
  pub spans : List Span
  pub upper_nodes : ℕ
  pub lower_nodes : ℕ
  pub leaf_nodes : ℕ
  pub upper : List Entry
  pub lower : List Entry
  pub leaf : List Float

abbrev pub empty : State
empty = record { spans = []; upper_nodes = 0; lower_nodes = 0; leaf_nodes = 0; upper = []; lower = []; leaf = [] }

abbrev pub with_span : State → Span → State
with_span t s = record {
  spans = t.spans ++ (s ∷ []);
  upper_nodes = t.upper_nodes;
  lower_nodes = t.lower_nodes;
  leaf_nodes = t.leaf_nodes;
  upper = t.upper;
  lower = t.lower;
  leaf = t.leaf;
}

-- a span past the end of the bytes (5), over another (6), or without a place in the work table (9); otherwise it is put behind the others
unfoldable pub claim : List ℕ → Places → State → Span → Result State
unfolding overlaps
claim b p t s =
    need (leb s.end (length b)) 5
    (need (not (overlaps t.spans s.start s.end)) 6
    (need (ltb (length t.spans) p.spans) 9
    (ok (with_span t s))))

-- 8, or base plus a signed offset, where that is not negative and a multiple of 32
abbrev pub child_target : ℕ → ℤ → Result ℕ
child_target base (pos k) = need (eqb ((base + k) % 32) 0) 8 (ok (base + k))
child_target base (negsuc k) = need (ltb k base && eqb ((base - (k + 1)) % 32) 0) 8 (ok (base - (k + 1)))

-- what is chosen by the level: leaf, lower, upper
abbrev pub by_level : {A : Type 0} → ℕ → A → A → A → A
by_level zero leaf lower upper = leaf
by_level (suc zero) leaf lower upper = lower
by_level (suc (suc n)) leaf lower upper = upper

-- a node's size in bytes, its entries, and where its child mask and its table stand
abbrev pub size_of : ℕ → ℕ
size_of level = by_level level 2144 33856 270400

abbrev pub entries_of : ℕ → ℕ
entries_of level = by_level level 512 4096 32768

abbrev pub mask_of : ℕ → ℕ
mask_of level = by_level level 0 544 4128

abbrev pub table_of : ℕ → ℕ
table_of level = by_level level 96 1088 8256

abbrev pub nodes_at : State → ℕ → ℕ
nodes_at t level = by_level level t.leaf_nodes t.lower_nodes t.upper_nodes

abbrev pub places_at : Places → ℕ → ℕ
places_at p level = by_level level p.leaf p.lower p.upper

-- one node more at this level
abbrev pub counted : State → ℕ → State
counted t zero = record {
  spans = t.spans;
  upper_nodes = t.upper_nodes;
  lower_nodes = t.lower_nodes;
  leaf_nodes = t.leaf_nodes + 1;
  upper = t.upper;
  lower = t.lower;
  leaf = t.leaf;
}
counted t (suc zero) = record {
  spans = t.spans;
  upper_nodes = t.upper_nodes;
  lower_nodes = t.lower_nodes + 1;
  leaf_nodes = t.leaf_nodes;
  upper = t.upper;
  lower = t.lower;
  leaf = t.leaf;
}
counted t (suc (suc n)) = record {
  spans = t.spans;
  upper_nodes = t.upper_nodes + 1;
  lower_nodes = t.lower_nodes;
  leaf_nodes = t.leaf_nodes;
  upper = t.upper;
  lower = t.lower;
  leaf = t.leaf;
}

pub record Read : Type 0 where
  pub number : ℕ
  pub state : State

pub record Slots : Type 0 where
  pub entries : List Entry
  pub state : State

-- the reader of a child of the node, one level down
abbrev pub Reader : Type 0
Reader = ℕ → State → Result Read

-- slot i of the node at source: its mask bit says whether a child or a value stands there
abbrev pub slot_read : List ℕ → Reader → ℕ → ℕ → ℕ → Slots → Result Slots
slot_read b child level source i s =
    let at = source + table_of level + 8 * i in
    cond (eqb (mask_bit b (source + mask_of level) i) 0)
    (ok (record { entries = s.entries ++ (Tile (f32_at b at) ∷ []); state = s.state }))
    (need (not (eqb (u64_at b at) 0)) 8
    (bind (child_target source (i64_at b at)) (λ (target : ℕ).
    bind (child target s.state) (λ (r : Read).
    ok (record { entries = s.entries ++ (Child r.number ∷ []); state = r.state })))))

-- the first n slots, rising
unfoldable pub slots_read : List ℕ → Reader → ℕ → ℕ → ℕ → State → Result Slots
slots_read b child level source zero t = ok (record { entries = []; state = t })
slots_read b child level source (suc n) t = bind (slots_read b child level source n t) (slot_read b child level source n)

-- the first n values of the leaf at source
unfoldable pub leaf_values : List ℕ → ℕ → ℕ → List Float
leaf_values b source zero = []
leaf_values b source (suc n) = leaf_values b source n ++ (f32_at b (source + 96 + 4 * n) ∷ [])

-- the entries of a node that has been read are put behind those of its level
abbrev pub placed : ℕ → Slots → State
placed zero s = s.state
placed (suc zero) s =
    let t = s.state in
    record {
      spans = t.spans;
      upper_nodes = t.upper_nodes;
      lower_nodes = t.lower_nodes;
      leaf_nodes = t.leaf_nodes;
      upper = t.upper;
      lower = t.lower ++ s.entries;
      leaf = t.leaf;
    }
placed (suc (suc n)) s =
    let t = s.state in
    record {
      spans = t.spans;
      upper_nodes = t.upper_nodes;
      lower_nodes = t.lower_nodes;
      leaf_nodes = t.leaf_nodes;
      upper = t.upper ++ s.entries;
      lower = t.lower;
      leaf = t.leaf;
    }

abbrev pub leaf_placed : List ℕ → ℕ → State → State
leaf_placed b source t = record {
  spans = t.spans;
  upper_nodes = t.upper_nodes;
  lower_nodes = t.lower_nodes;
  leaf_nodes = t.leaf_nodes;
  upper = t.upper;
  lower = t.lower;
  leaf = t.leaf ++ leaf_values b source 512;
}

-- a new node is claimed and numbered (5, 6, 9), and then its entries are read
abbrev pub opened : List ℕ → Places → ℕ → ℕ → State → (State → Result State) → Result Read
opened b p level source t fill =
    let k = nodes_at t level in
    bind (claim b p t (record { start = source; end = source + size_of level; level = level; number = k })) (λ (u : State).
    need (ltb k (places_at p level)) 9
    (bind (fill (counted u level)) (λ (v : State). ok (record { number = k; state = v }))))

abbrev pub again : Seen → State → Result Read → Result Read
again (at k) t new = ok (record { number = k; state = t })
again nowhere t new = new

-- the node of a level at source: one that has been read is used again
unfoldable pub node : ℕ → List ℕ → Places → ℕ → State → Result Read
node zero b p source t =
    let new = opened b p 0 source t (λ (u : State). ok (leaf_placed b source u)) in
    again (seen t.spans source 0) t new
node (suc level) b p source t =
    let new = opened b p (suc level) source t
    (λ (u : State). bind (slots_read b (node level b p) (suc level) source (entries_of (suc level)) u) (λ (s : Slots). ok (placed (suc level) s))) in
    again (seen t.spans source (suc level)) t new
