-- The four answers of `claim`, and how many spans the words hold. Assumes nothing.
use mathlib.Core.Path.{◌≡◌, refl, ap, ◌∙◌}
use mathlib.Core.Bool.{true, false}
use mathlib.Core.List.{List, [], ◌∷◌}
use Prim.Native.Nat.{ℕ, zero, suc, ◌+◌, ◌/◌, ◌<◌, ◌≤◌}
use native.Mathlib.Omega.{arith}
use lib.ListN.{length, length-append}
use lib.Dec.{ltb}
use borrow.Author.Tests.{lt-ltb, le-ltb, le-leb, lt-leb}
use Rattle.nanovdb.specs.Nodes.{State, claim, with_span}
use Rattle.nanovdb.specs.Spans.{Span, overlaps}
use Rattle.refusals.specs.Results.{Result, ok, refused}
use Rattle.decode.specs.declared.spans.Spans.{Spans}
use Rattle.decode.specs.Inner.WorkTable.{size, span_at, nodes, spans, node_span, Says, header_span, root_span, SaysRoot, Begun, Rep}
use Rattle.decode.proofs.spans.Laws.{and_no}

pub length_nodes : (w : List ℕ) (k : ℕ) → length (nodes w k) ≡ k
unfolding nodes
length_nodes w zero = refl
length_nodes w (suc k) = length-append (nodes w k) (span_at w k ∷ []) ∙ (let h = length_nodes w k in omega arith)

pub length_spans : (w : List ℕ) (k root limit : ℕ) → length (spans w k root limit) ≡ k + 2
unfolding spans
length_spans w k root limit = let h = length_nodes w k in omega arith

-- a node that is claimed: the bytes' length, the words, and its span
pub record Node : Type 0 where
  pub len : ℕ
  pub words : List ℕ
  pub spans : Spans
  pub start : ℕ
  pub level : ℕ
  pub number : ℕ

abbrev pub end : Node → ℕ
end n = n.start + size n.level

-- the spans that the words hold
abbrev pub held : Node → List Span
held n = spans n.words n.spans.count n.spans.root n.spans.limit

-- what the definition's `claim` of it does
abbrev pub Answers : Node → (State → Result State) → Type 0
Answers n f = Says n.len n.words n.spans (node_span n.start n.level n.number) f

module _ (n : Node) where
  pub says_5 : n.len < end n → Answers n (λ (u : State). refused 5)
  unfolding claim
  says_5 l b p t e f g = rw (lt-leb (end n) (length b) (omega arith))

  module _ (inside : end n ≤ n.len) where
    pub says_6 : overlaps (held n) n.start (end n) ≡ true → Answers n (λ (u : State). refused 6)
    unfolding claim
    says_6 o b p t e f g = rw (le-leb (end n) (length b) (omega arith), g, o)

    module _ (apart : overlaps (held n) n.start (end n) ≡ false) where
      free : (t : State) → t.spans ≡ held n → overlaps t.spans n.start (end n) ≡ false
      free t g = ap (λ (x : List Span). overlaps x n.start (end n)) g ∙ apart

      many : (t : State) → t.spans ≡ held n → length t.spans ≡ n.spans.count + 2
      many t g = ap length g ∙ length_spans n.words n.spans.count n.spans.root n.spans.limit

      pub says_9 : length n.words / 4 < n.spans.count + 3 → Answers n (λ (u : State). refused 9)
      unfolding claim
      says_9 m b p t e f g =
          rw (le-leb (end n) (length b) (omega arith), free t g, many t g, f, le-ltb (n.spans.count + 2) (length n.words / 4) (omega arith))

      pub says_ok : n.spans.count + 3 ≤ length n.words / 4
          → Answers n (λ (u : State). ok (with_span u (node_span n.start n.level n.number)))
      unfolding claim
      says_ok m b p t e f g =
          rw (le-leb (end n) (length b) (omega arith), free t g, many t g, f, lt-ltb (n.spans.count + 2) (length n.words / 4) (omega arith))

-- ---- the root

header_met : (root limit : ℕ) → root < limit → root < 736 → overlaps (header_span ∷ []) root limit ≡ true
unfolding overlaps
header_met root limit p l = rw (lt-ltb 0 limit (omega arith), lt-ltb root 736 l)

header_not : (root limit : ℕ) → 736 ≤ root → overlaps (header_span ∷ []) root limit ≡ false
unfolding overlaps
header_not root limit l = rw (le-ltb root 736 l, and_no (ltb 0 limit))

module _ (len : ℕ) (w : List ℕ) (root limit : ℕ) (pos : root < limit) where
  pub root_5 : len < limit → SaysRoot len w root limit (λ (u : State). refused 5)
  unfolding claim
  root_5 l b p t e f g = rw (lt-leb limit (length b) (omega arith))

  pub root_6 : limit ≤ len → root < 736 → SaysRoot len w root limit (λ (u : State). refused 6)
  unfolding claim
  root_6 l o b p t e f g = rw (le-leb limit (length b) (omega arith), g, header_met root limit pos o)

  pub root_9 : limit ≤ len → 736 ≤ root → length w / 4 < 2 → SaysRoot len w root limit (λ (u : State). refused 9)
  unfolding claim
  root_9 l o m b p t e f g =
      let n : length t.spans ≡ 1 = ap length g in
      let o' : overlaps t.spans root limit ≡ false = ap (λ (x : List Span). overlaps x root limit) g ∙ header_not root limit o in
      rw (le-leb limit (length b) (omega arith), o', n, f, le-ltb 1 (length w / 4) (omega arith))

  pub root_ok : limit ≤ len → 736 ≤ root → 2 ≤ length w / 4 → SaysRoot len w root limit (λ (u : State). ok (with_span u (root_span root limit)))
  unfolding claim
  root_ok l o m b p t e f g =
      let n : length t.spans ≡ 1 = ap length g in
      let o' : overlaps t.spans root limit ≡ false = ap (λ (x : List Span). overlaps x root limit) g ∙ header_not root limit o in
      rw (le-leb limit (length b) (omega arith), o', n, f, lt-ltb 1 (length w / 4) (omega arith))

pub begun : {w w' : List ℕ} {root limit : ℕ} → Rep w' 0 → length w' ≡ length w
    → Begun w w' (record { count = 0; root = root; limit = limit }) root limit
unfolding spans nodes
begun rep len = record { rep = rep; size_kept = len; list = refl }
