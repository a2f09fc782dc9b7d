-- The spans that four words each hold: node i has its start at 4 i, 4 * number + level at 4 i + 1, its link at 4 i + 2; chain h has its head at 4 h + 3.
use Rattle.std.specs.Prelude.{ℕ, zero, suc, ◌+◌, ◌-◌, ◌*◌, ◌/◌, ◌%◌, ◌<◌, ◌≤◌, ◌≡◌, Bool, true, false, ◌&&◌, List, [], ◌∷◌, ◌++◌, length, get_or, set, ltb, eqb, Ok, Err, Option, None, Some, Result as Answer}
use Rattle.nanovdb.specs.Nodes.{size_of, State, Places, claim, with_span}
use Rattle.nanovdb.specs.Spans.{Span, Seen, at, nowhere, overlaps, seen}
use Rattle.refusals.specs.Results.{Result, ok, refused}
use Rattle.refusals.specs.Numbers as Numbers
use Rattle.refusals.specs.declared.Refusal.{Refusal}
use Rattle.decode.specs.declared.spans.Spans.{Spans}
use Rattle.decode.specs.declared.spans.Entered.{Entered}
use Rattle.decode.specs.declared.spans.Entered.TheVariants.{Again, Fresh}

unfoldable pub node_start : List ℕ → ℕ → ℕ
node_start w i = get_or w (i * 4) 0

unfoldable pub node_level : List ℕ → ℕ → ℕ
node_level w i = get_or w (i * 4 + 1) 0 % 4

unfoldable pub node_number : List ℕ → ℕ → ℕ
node_number w i = get_or w (i * 4 + 1) 0 / 4

unfoldable pub chain_link : List ℕ → ℕ → ℕ
chain_link w i = get_or w (i * 4 + 2) 0

unfoldable pub chain_head : List ℕ → ℕ → ℕ
chain_head w h = get_or w (h * 4 + 3) 0

-- the size of a node, shut
unfoldable pub size : ℕ → ℕ
size level = size_of level

abbrev pub span_at : List ℕ → ℕ → Span
span_at w i = record { start = node_start w i; end = node_start w i + size (node_level w i); level = node_level w i; number = node_number w i }

-- the first k nodes, in the order in which they were claimed
unfoldable pub nodes : List ℕ → ℕ → List Span
nodes w zero = []
nodes w (suc k) = nodes w k ++ (span_at w k ∷ [])

abbrev pub header_span : Span
header_span = record { start = 0; end = 736; level = 3; number = 0 }

abbrev pub root_span : ℕ → ℕ → Span
root_span root end = record { start = root; end = end; level = 3; number = 0 }

-- what the words hold: the spans of the header, the root and the nodes
unfoldable pub spans : List ℕ → ℕ → ℕ → ℕ → List Span
spans w count root root_end = header_span ∷ (root_span root root_end ∷ nodes w count)

-- the chain of a stretch of a level, of n
unfoldable pub chain_in : ℕ → ℕ → ℕ → ℕ
chain_in n level q = (q + level) % n

unfoldable pub chain_of : List ℕ → ℕ → ℕ
chain_of w i = chain_in (length w / 4) (node_level w i) (node_start w i / size (node_level w i))

-- v is one more than the last i below k in the chain h, or 0
pub record Last (w : List ℕ) (h k v : ℕ) : Type 0 where
  pub below : v ≤ k
  pub here : 0 < v → chain_of w (v - 1) ≡ h
  pub none : (i : ℕ) → v ≤ i → i < k → chain_of w i ≡ h → ⊥

-- the words hold count nodes: no two of one level start at one place, and the chains are whole
pub record Rep (w : List ℕ) (count : ℕ) : Type 0 where
  pub room : count * 4 + 8 ≤ length w
  pub level : (i : ℕ) → i < count → node_level w i < 3
  pub number : (i : ℕ) → i < count → node_number w i < 4294967295
  pub apart : (i j : ℕ) → i < j → j < count → node_start w i ≡ node_start w j → node_level w i ≡ node_level w j → ⊥
  pub head : (h : ℕ) → h < length w / 4 → Last w h count (chain_head w h)
  pub link : (i : ℕ) → i < count → Last w (chain_of w i) i (chain_link w i)

-- whether node i overlaps start to end, and whether it is the node of that level at start
unfoldable pub over : List ℕ → ℕ → ℕ → ℕ → Bool
over w i start end = ltb (node_start w i) end && ltb start (node_start w i + size (node_level w i))

unfoldable pub hits : List ℕ → ℕ → ℕ → ℕ → Bool
hits w i start level = eqb (node_start w i) start && eqb (node_level w i) level

-- what a search of the chain h for a node that passes a test says, and what the chains of one level say
abbrev pub Searched : List ℕ → ℕ → ℕ → (ℕ → Bool) → Option ℕ → Type 0
Searched w count h test (Some i) = (i < count) × (test i ≡ true)
Searched w count h test None = (i : ℕ) → i < count → chain_of w i ≡ h → test i ≡ false

pub record MetAt (w : List ℕ) (count level start end : ℕ) (r : Bool) : Type 0 where
  pub yes : r ≡ true → overlaps (nodes w count) start end ≡ true
  pub no : r ≡ false → (i : ℕ) → i < count → node_level w i ≡ level → over w i start end ≡ false

abbrev pub seen_of : Option ℕ → Seen
seen_of (Some n) = at n
seen_of None = nowhere

-- a number that was found is small enough for a link
abbrev pub Small : Option ℕ → Type 0
Small (Some n) = n < 4294967295
Small None = Unit {0}

unfoldable pub put_s : List ℕ → ℕ → ℕ → ℕ → ℕ → List ℕ
put_s w h k start word = set (set (set (set w (k * 4) start) (k * 4 + 1) word) (k * 4 + 2) (get_or w (h * 4 + 3) 0)) (h * 4 + 3) (k + 1)

-- one node more, behind the others
pub record Pushed (w w' : List ℕ) (s t : Spans) (start level number : ℕ) : Type 0 where
  pub rep : Rep w' t.count
  pub size_kept : length w' ≡ length w
  pub count : t.count ≡ s.count + 1
  pub list : spans w' t.count t.root t.limit
      ≡ spans w s.count s.root s.limit ++ (record { start = start; end = start + size level; level = level; number = number } ∷ [])

abbrev pub node_span : ℕ → ℕ → ℕ → Span
node_span start level number = record { start = start; end = start + size level; level = level; number = number }

-- what `claim` says of bytes, places and a state that have the length, the room and the spans of the words
abbrev pub Says : ℕ → List ℕ → Spans → Span → (State → Result State) → Type 0
Says len w s n f = (b : List ℕ) (p : Places) (t : State) → length b ≡ len → p.spans ≡ length w / 4
    → t.spans ≡ spans w s.count s.root s.limit → claim b p t n ≡ f t

abbrev pub ClaimOut : ℕ → List ℕ → List ℕ → Spans → Answer Spans Refusal → ℕ → ℕ → ℕ → Type 0
ClaimOut len w w' s (Ok t) start level number = Pushed w w' s t start level number
    × Says len w s (node_span start level number) (λ (u : State). ok (with_span u (node_span start level number)))
ClaimOut len w w' s (Err e) start level number = (w' ≡ w) × Says len w s (node_span start level number) (λ (u : State). refused (Numbers.number e))

-- what `claim` says of the root, where only the header's span has been claimed
abbrev pub SaysRoot : ℕ → List ℕ → ℕ → ℕ → (State → Result State) → Type 0
SaysRoot len w root limit f = (b : List ℕ) (p : Places) (t : State) → length b ≡ len → p.spans ≡ length w / 4 → t.spans ≡ header_span ∷ []
    → claim b p t (root_span root limit) ≡ f t

pub record Begun (w w' : List ℕ) (s : Spans) (root limit : ℕ) : Type 0 where
  pub rep : Rep w' s.count
  pub size_kept : length w' ≡ length w
  pub list : spans w' s.count s.root s.limit ≡ header_span ∷ (root_span root limit ∷ [])

abbrev pub RootOut : ℕ → List ℕ → List ℕ → Answer Spans Refusal → ℕ → ℕ → Type 0
RootOut len w w' (Ok s) root limit = Begun w w' s root limit × SaysRoot len w root limit (λ (u : State). ok (with_span u (root_span root limit)))
RootOut len w w' (Err e) root limit = (w' ≡ w) × SaysRoot len w root limit (λ (u : State). refused (Numbers.number e))

-- a node that has been read is used again, and any other is claimed
abbrev pub EnterOut : ℕ → List ℕ → List ℕ → Spans → Answer Entered Refusal → ℕ → ℕ → ℕ → Type 0
EnterOut len w w' s (Ok (Again k)) start level number = (w' ≡ w) × ((seen (spans w s.count s.root s.limit) start level ≡ at k) × (k < 4294967295))
EnterOut len w w' s (Ok (Fresh t)) start level number = (seen (spans w s.count s.root s.limit) start level ≡ nowhere)
    × ClaimOut len w w' s (Ok t) start level number
EnterOut len w w' s (Err e) start level number = (seen (spans w s.count s.root s.limit) start level ≡ nowhere)
    × ClaimOut len w w' s (Err e) start level number
