-- The lent tables while nodes are read into them, beside the state of the definition: what the contracts of the node reader say.
use Rattle.std.specs.Prelude.{ℕ, zero, suc, ◌+◌, ◌*◌, ◌/◌, ◌≤◌, ◌<◌, ◌≡◌, List, [], ◌++◌, map, length, eqb, not, Ok, Err, Result as Answer, Float}
use Rattle.refusals.specs.Results.{Result, ok, refused, bind, need}
use Rattle.refusals.specs.Numbers as Numbers
use Rattle.refusals.specs.declared.Refusal.{Refusal}
use Rattle.float.specs.Zero.{+0}
use Rattle.lent.specs.Padded.{padded}
use Rattle.layout.specs.Bytes.{signed}
use Rattle.sparse_grid.specs.declared.Entry.{Entry}
use Rattle.nanovdb.specs.Nodes.{by_level, size_of, entries_of, mask_of, nodes_at, Places, State, Read, Slots, child_target, slots_read, leaf_placed, placed, node}
use Rattle.nanovdb.specs.Decode.{link_of, value_of}
use Rattle.nanovdb.specs.Lent.{Tables}
use Rattle.nanovdb.specs.InTables.{Inv0, Inv1, Inv2, opening}
use Rattle.decode.specs.Inner.WorkTable.{Rep, nodes, spans}
use Rattle.decode.specs.Inner.Packed.{Packed}
use Rattle.decode.specs.declared.spans.Spans.{Spans}
use Rattle.decode.specs.declared.nodes.State as Progress
use Rattle.decode.specs.declared.nodes.Placed as Placed
use Rattle.decode.specs.declared.nodes.Opening.{Opening}
use Rattle.decode.specs.declared.nodes.Opened as Opened

-- ---- numbers and stores that go by the level

-- the place of a child whose slot has these bits, where 0 is no place
abbrev pub slot_target : ℕ → ℕ → Result ℕ
slot_target source bits = need (not (eqb bits 0)) 8 (child_target source (signed 64 bits))

abbrev pub count_in : Progress.State → ℕ → ℕ
count_in s level = by_level level s.leaves s.lowers s.uppers

abbrev pub places_in : ℕ → ℕ → ℕ → ℕ → ℕ
places_in level upper lower leaf = by_level level (leaf / 512) (lower / 4096) (upper / 32768)

abbrev pub grown_by : ℕ → Progress.State → Spans → Progress.State
grown_by level s p = by_level level
    (record { spans = p; uppers = s.uppers; lowers = s.lowers; leaves = s.leaves + 1 })
    (record { spans = p; uppers = s.uppers; lowers = s.lowers + 1; leaves = s.leaves })
    (record { spans = p; uppers = s.uppers + 1; lowers = s.lowers; leaves = s.leaves })

abbrev pub room_in : ℕ → ℕ → ℕ → ℕ
room_in level upper lower = by_level level 0 lower upper

-- ---- the tables beside the definition's state

pub record Tabs : Type 0 where
  pub work : List ℕ
  pub upper_links : List ℕ
  pub upper_values : List Float
  pub lower_links : List ℕ
  pub lower_values : List Float
  pub leaf_values : List Float

abbrev pub tabs : List ℕ → List ℕ → List Float → List ℕ → List Float → List Float → Tabs
tabs work upper_links upper_values lower_links lower_values leaf_values = record {
  work = work;
  upper_links = upper_links;
  upper_values = upper_values;
  lower_links = lower_links;
  lower_values = lower_values;
  leaf_values = leaf_values;
}

-- the lent tables, but for those of the roots
abbrev pub nodes_of : Tables → Tabs
nodes_of t = tabs t.work t.upper_links t.upper_values t.lower_links t.lower_values t.leaf_values

-- the same tables beside other words
abbrev pub with_work : Tabs → List ℕ → Tabs
with_work t w = tabs w t.upper_links t.upper_values t.lower_links t.lower_values t.leaf_values

-- how many nodes of a level they have places for
abbrev pub places_of : ℕ → Tabs → ℕ
places_of level t = places_in level (length t.upper_links) (length t.lower_links) (length t.leaf_values)

-- a number of each level is small enough for a link
pub record Few (s : Progress.State) : Type 0 where
  pub uppers : s.uppers < 4294967295
  pub lowers : s.lowers < 4294967295
  pub leaves : s.leaves < 4294967295

-- what the code needs to stay inside its tables: whole chains, few nodes, paired tables
pub record Fit (len : ℕ) (t : Tabs) (s : Progress.State) : Type 0 where
  pub rep : Rep t.work s.spans.count
  pub packed : Packed len (nodes t.work s.spans.count)
  pub total : s.spans.count ≡ s.uppers + s.lowers + s.leaves
  pub upper_pair : length t.upper_values ≡ length t.upper_links
  pub lower_pair : length t.lower_values ≡ length t.lower_links

-- no table changes its length
pub record Kept (t u : Tabs) : Type 0 where
  pub work : length u.work ≡ length t.work
  pub upper_links : length u.upper_links ≡ length t.upper_links
  pub upper_values : length u.upper_values ≡ length t.upper_values
  pub lower_links : length u.lower_links ≡ length t.lower_links
  pub lower_values : length u.lower_values ≡ length t.lower_values
  pub leaf_values : length u.leaf_values ≡ length t.leaf_values

-- a table begins with l, whatever stands behind it
abbrev pub Starts : {A : Type 0} → List A → List A → Type 0
Starts {A} t l = (rest : List A) × (t ≡ l ++ rest)

-- the tables hold a state of the definition, with the entries of a lower and an upper node that are still being read behind the others
pub record Holds (t : Tabs) (s : Progress.State) (d : State) (lower upper : List Entry) : Type 0 where
  pub spans_are : d.spans ≡ spans t.work s.spans.count s.spans.root s.spans.limit
  pub uppers : d.upper_nodes ≡ s.uppers
  pub lowers : d.lower_nodes ≡ s.lowers
  pub leaves : d.leaf_nodes ≡ s.leaves
  pub upper_links : t.upper_links ≡ padded (length t.upper_links) 0 (map link_of (d.upper ++ upper))
  pub upper_values : t.upper_values ≡ padded (length t.upper_values) +0 (map value_of (d.upper ++ upper))
  pub lower_links : t.lower_links ≡ padded (length t.lower_links) 0 (map link_of (d.lower ++ lower))
  pub lower_values : t.lower_values ≡ padded (length t.lower_values) +0 (map value_of (d.lower ++ lower))
  pub leaf_values : Starts t.leaf_values d.leaf

-- the places that the tables give
pub record Lends (t : Tabs) (p : Places) : Type 0 where
  pub spans : p.spans ≡ length t.work / 4
  pub upper : p.upper ≡ length t.upper_links / 32768
  pub lower : p.lower ≡ length t.lower_links / 4096
  pub leaf : p.leaf ≡ length t.leaf_values / 512

-- a node of this level may be read next: the nodes of the levels below are whole, and none of this level is open
abbrev pub Ready : ℕ → List ℕ → State → Type 0
Ready zero b d = Inv0 b d
Ready (suc zero) b d = Inv1 b d
Ready (suc (suc n)) b d = Inv2 b d

abbrev pub Shut : ℕ → List Entry → List Entry → Type 0
Shut zero lower upper = Unit {0}
Shut (suc zero) lower upper = lower ≡ []
Shut (suc (suc n)) lower upper = (lower ≡ []) × (upper ≡ [])

pub record Reads (level : ℕ) (b : List ℕ) (t : Tabs) (s : Progress.State) (p : Places) (d : State) (lower upper : List Entry) : Type 0 where
  pub holds : Holds t s d lower upper
  pub lends : Lends t p
  pub ready : Ready level b d
  pub shut : Shut level lower upper

-- what `node` answers is what the definition's `node` does, and the tables then hold its state
abbrev pub NodeSays : ℕ → List ℕ → ℕ → Tabs → Progress.State → Tabs → Answer Placed.Placed Refusal → Type 0
NodeSays level b source t s u (Ok n) = (p : Places) (d : State) (lower upper : List Entry) → Reads level b t s p d lower upper
    → (e : State) × (node level b p source d ≡ ok (record { number = n.number; state = e })) × Holds u n.state e lower upper
NodeSays level b source t s u (Err n) = (p : Places) (d : State) (lower upper : List Entry) → Reads level b t s p d lower upper
    → node level b p source d ≡ refused (Numbers.number n)

abbrev pub NodeFit : ℕ → Tabs → Answer Placed.Placed Refusal → Type 0
NodeFit len u (Ok n) = Fit len u n.state × (n.number < 4294967295)
NodeFit len u (Err n) = Unit {0}

pub record NodeOut (level : ℕ) (b : List ℕ) (source : ℕ) (t : Tabs) (s : Progress.State) (u : Tabs) (r : Answer Placed.Placed Refusal) : Type 0 where
  pub fit : NodeFit (length b) u r
  pub says : NodeSays level b source t s u r

-- ---- a node that is new

-- how the definition fills it, and its number beside the state that this gives
abbrev pub filling : ℕ → List ℕ → Places → ℕ → State → Result State
filling zero b p source u = ok (leaf_placed b source u)
filling (suc l) b p source u = bind (slots_read b (node l b p) (suc l) source (entries_of (suc l)) u) (λ (s : Slots). ok (placed (suc l) s))

abbrev pub numbered : ℕ → State → Result Read
numbered k v = ok (record { number = k; state = v })

-- the definition's node is new as well, it has the same number, and the tables hold the state in which it is filled
pub record NewSays (level : ℕ) (b : List ℕ) (source : ℕ) (u : Tabs) (o : Opening) (p : Places) (d : State) (lower upper : List Entry) : Type 0 where
  pub number : nodes_at d level ≡ o.number
  pub filled : node level b p source d ≡ bind (filling level b p source (opening level source d)) (numbered o.number)
  pub holds : Holds u o.now (opening level source d) lower upper

-- it lies in the bytes and has a place, `o` says where, and the tables stay fit
pub record NewNode (level : ℕ) (b : List ℕ) (source : ℕ) (t : Tabs) (s : Progress.State) (u : Tabs) (o : Opening) : Type 0 where
  pub whole : source + size_of level ≤ length b
  pub small : o.number < 4294967295
  pub room : o.number < places_of level t
  pub mask : o.mask ≡ source + mask_of level
  pub entries : o.entries ≡ entries_of level
  pub base : o.base ≡ o.number * entries_of level
  pub kept : Kept t u
  pub fit : Fit (length b) u o.now
  pub says : (p : Places) (d : State) (lower upper : List Entry) → Reads level b t s p d lower upper → NewSays level b source u o p d lower upper

-- what `open` answers: a node that has been read, a refusal, or a new node
abbrev pub OpenOut : ℕ → List ℕ → ℕ → Tabs → Progress.State → Tabs → Answer Opened.Opened Refusal → Type 0
OpenOut level b source t s u (Ok (Opened.TheVariants.Again n)) = NodeOut level b source t s u (Ok (record { number = n; state = s }))
OpenOut level b source t s u (Err n) = NodeOut level b source t s u (Err n)
OpenOut level b source t s u (Ok (Opened.TheVariants.Fresh o)) = NewNode level b source t s u o
