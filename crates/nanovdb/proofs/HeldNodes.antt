-- `node` puts the node at its source into the tables, and every node that has been read stays there. Assumes nothing.
use Rattle.std.specs.Prelude.{◌≡◌, refl, ◌⊎◌, List, [], ◌∷◌, ◌++◌, not, ℕ, ◌+◌, ◌*◌, ltb, leb, length}
use Rattle.std.proofs.Common.{sym, ap, ◌∙◌, subst, inl, inr, arith, length-append}
use Rattle.refusals.specs.Results.{Result, ok, bind, need}
use Rattle.refusals.specs.ResultLaws.{ok_injective, bind_ok, need_ok}
use Rattle.nanovdb.specs.Spans.{Span, Seen, at, nowhere, seen, overlaps}
use Rattle.nanovdb.specs.Nodes.{Places, State, with_span, claim, size_of, nodes_at, places_at, counted, Read, Slots, slots_read, leaf_values, placed}
use Rattle.nanovdb.specs.Nodes.{leaf_placed, opened, again, node}
pub use Rattle.nanovdb.specs.InTables.{span_of, opening, LeafIn, LowerIn, UpperIn, Inv0, Inv1, Inv2, Leaf, Node}
use Rattle.nanovdb.proofs.Growth.{Prefix, prefix_same, prefix_more, prefix_trans}
use Rattle.nanovdb.proofs.Held.{seen_new, seen_other, leaf_grown, node_grown, node_new, leaf_length, leaf_new, Step, Filled, slots_filled}

-- ---- what an accepted claim, opening and reuse say

pub claim_is : (b : List ℕ) (p : Places) (t : State) (s : Span) {u : State} → claim b p t s ≡ ok u → with_span t s ≡ u
unfolding claim
claim_is b p t s e =
    let end = need_ok (leb s.end (length b)) 5
    (need (not (overlaps t.spans s.start s.end)) 6 (need (ltb (length t.spans) p.spans) 9 (ok (with_span t s)))) e in
    let free = need_ok (not (overlaps t.spans s.start s.end)) 6 (need (ltb (length t.spans) p.spans) 9 (ok (with_span t s))) end.1 in
    ok_injective (need_ok (ltb (length t.spans) p.spans) 9 (ok (with_span t s)) free.1).1

opened_ok : (b : List ℕ) (p : Places) (level source : ℕ) (t : State) (fill : State → Result State) {r : Read} → opened b p level source t fill ≡ ok r
    → (v : State) × (fill (opening level source t) ≡ ok v) × (◌≡◌ {A = Read} (record { number = nodes_at t level; state = v }) r)
opened_ok b p level source t fill {r} e =
    let k = nodes_at t level in
    let (u, claimed, e₁) = bind_ok (claim b p t (span_of level source t))
    (λ (u : State). need (ltb k (places_at p level)) 9 (bind (fill (counted u level)) (λ (v : State). ok (record { number = k; state = v })))) e in
    let e₂ = need_ok (ltb k (places_at p level)) 9 (bind (fill (counted u level)) (λ (v : State). ok (record { number = k; state = v }))) e₁ in
    let (v, filled, e₃) = bind_ok (fill (counted u level)) (λ (v : State). ok (record { number = k; state = v })) e₂.1 in
    (v, subst (λ (z : State). fill (counted z level) ≡ ok v) (sym (claim_is b p t (span_of level source t) claimed)) filled, ok_injective e₃)

again_ok : (s : Seen) (t : State) (new : Result Read) {r : Read} → again s t new ≡ ok r
    → ((k : ℕ) × (s ≡ at k) × (◌≡◌ {A = Read} (record { number = k; state = t }) r)) ⊎ (new ≡ ok r)
again_ok (at k) t new e = inl (k, refl, ok_injective e)
again_ok nowhere t new e = inr e

-- a node that was read before, or a new one
read_node : (I : State → Type 0) (R : State → ℕ → ℕ → Type 0) (G : State → State → Type 0) (b : List ℕ) (p : Places)
    (level source : ℕ) (t : State) (fill : State → Result State)
    → ((k : ℕ) → seen t.spans source level ≡ at k → Step I R G source t (record { number = k; state = t }))
    → ((v : State) → fill (opening level source t) ≡ ok v → Step I R G source t (record { number = nodes_at t level; state = v }))
    → (r : Read) → again (seen t.spans source level) t (opened b p level source t fill) ≡ ok r → Step I R G source t r
read_node I R G b p level source t fill old new r e = elim (again_ok (seen t.spans source level) t (opened b p level source t fill) e) [
  | inl (k, seen_at, is) ↦ subst (Step I R G source t) is (old k seen_at)
  | inr fresh ↦ let (v, filled, is) = opened_ok b p level source t fill fresh in subst (Step I R G source t) is (new v filled)
]

-- what holds of the nodes known before and of the one whose span comes last holds of all
old_or_new : (P : ℕ → ℕ → Type 0) (ss : List Span) (sp : Span) (level : ℕ) → ((s k : ℕ) → seen ss s level ≡ at k → P s k) → P sp.start sp.number
    → (s k : ℕ) → seen (ss ++ (sp ∷ [])) s level ≡ at k → P s k
old_or_new P ss sp level old new s k e =
    elim (seen_new ss sp s level e) [ inl f ↦ old s k f | inr (a, l, n) ↦ subst (λ (x : ℕ). P x k) a (subst (P sp.start) n new) ]

-- ---- leaves

pub record Grown0 (t u : State) : Type 0 where
  pub leaf : Prefix t.leaf u.leaf
  pub lower : u.lower ≡ t.lower
  pub upper : u.upper ≡ t.upper
  pub lower_nodes : u.lower_nodes ≡ t.lower_nodes
  pub upper_nodes : u.upper_nodes ≡ t.upper_nodes
  pub seen1 : (s : ℕ) → seen u.spans s 1 ≡ seen t.spans s 1
  pub seen2 : (s : ℕ) → seen u.spans s 2 ≡ seen t.spans s 2

same0 : (t : State) → Grown0 t t
same0 t = record { leaf = prefix_same refl; lower = refl; upper = refl; lower_nodes = refl; upper_nodes = refl; seen1 = λ s. refl; seen2 = λ s. refl }

join0 : (t u v : State) → Grown0 t u → Grown0 u v → Grown0 t v
join0 t u v g h = record {
  leaf = prefix_trans g.leaf h.leaf;
  lower = h.lower ∙ g.lower;
  upper = h.upper ∙ g.upper;
  lower_nodes = h.lower_nodes ∙ g.lower_nodes;
  upper_nodes = h.upper_nodes ∙ g.upper_nodes;
  seen1 = λ s. h.seen1 s ∙ g.seen1 s;
  seen2 = λ s. h.seen2 s ∙ g.seen2 s;
}

stable0 : (b : List ℕ) (t u : State) → Grown0 t u → (s k : ℕ) → LeafIn b t s k → LeafIn b u s k
stable0 b t u g s k l = leaf_grown g.leaf s k l

-- the state once a new leaf has been put behind the others
abbrev with_leaf : List ℕ → ℕ → State → State
with_leaf b source t = leaf_placed b source (opening 0 source t)

new_leaf : (b : List ℕ) (source : ℕ) (t : State) → Inv0 b t
    → Step (Inv0 b) (LeafIn b) Grown0 source t (record { number = t.leaf_nodes; state = with_leaf b source t })
new_leaf b source t i = record {
  keeps = record {
    full = omega (arith, i.full, length-append t.leaf (leaf_values b source 512), leaf_length b source);
    known =
        old_or_new (LeafIn b (with_leaf b source t)) t.spans (span_of 0 source t) 0
        (λ (s k : ℕ) e. leaf_grown (prefix_more t.leaf (leaf_values b source 512)) s k (i.known s k e)) new;
  };
  reads = new;
  grown = record {
    leaf = prefix_more t.leaf (leaf_values b source 512);
    lower = refl;
    upper = refl;
    lower_nodes = refl;
    upper_nodes = refl;
    seen1 = λ s. seen_other t.spans (span_of 0 source t) s 1 (λ (h : 0 ≡ 1). omega arith);
    seen2 = λ s. seen_other t.spans (span_of 0 source t) s 2 (λ (h : 0 ≡ 2). omega arith);
  };
}
  where
    new : LeafIn b (with_leaf b source t) source t.leaf_nodes
    new = leaf_new b t.leaf source t.leaf_nodes i.full

pub read_leaf : (b : List ℕ) (p : Places) (source : ℕ) (t : State) (r : Read) → Inv0 b t → node 0 b p source t ≡ ok r
    → Step (Inv0 b) (LeafIn b) Grown0 source t r
unfolding node
read_leaf b p source t r i e = read_node (Inv0 b) (LeafIn b) Grown0 b p 0 source t (λ (u : State). ok (leaf_placed b source u))
    (λ (k : ℕ) seen_at. record { keeps = i; reads = i.known source k seen_at; grown = same0 t })
    (λ (v : State) filled.
    subst (λ (z : State). Step (Inv0 b) (LeafIn b) Grown0 source t (record { number = t.leaf_nodes; state = z })) (ok_injective filled)
    (new_leaf b source t i))
    r e

-- ---- lower nodes

pub record Grown1 (t u : State) : Type 0 where
  pub leaf : Prefix t.leaf u.leaf
  pub lower : Prefix t.lower u.lower
  pub upper : u.upper ≡ t.upper
  pub upper_nodes : u.upper_nodes ≡ t.upper_nodes
  pub seen2 : (s : ℕ) → seen u.spans s 2 ≡ seen t.spans s 2

same1 : (t : State) → Grown1 t t
same1 t = record { leaf = prefix_same refl; lower = prefix_same refl; upper = refl; upper_nodes = refl; seen2 = λ s. refl }

join1 : (t u v : State) → Grown1 t u → Grown1 u v → Grown1 t v
join1 t u v g h = record {
  leaf = prefix_trans g.leaf h.leaf;
  lower = prefix_trans g.lower h.lower;
  upper = h.upper ∙ g.upper;
  upper_nodes = h.upper_nodes ∙ g.upper_nodes;
  seen2 = λ s. h.seen2 s ∙ g.seen2 s;
}

stable1 : (b : List ℕ) (t u : State) → Grown1 t u → (s k : ℕ) → LowerIn b t s k → LowerIn b u s k
stable1 b t u g s k l = node_grown (leaf_grown g.leaf) g.lower s k l

opening1 : (b : List ℕ) (source : ℕ) (t : State) → Inv0 b t → Inv0 b (opening 1 source t)
opening1 b source t i = record {
  full = i.full;
  known =
      λ (s k : ℕ) (e : seen (t.spans ++ (span_of 1 source t ∷ [])) s 0 ≡ at k). i.known s k
      (sym (seen_other t.spans (span_of 1 source t) s 0 (λ (h : 1 ≡ 0). omega arith)) ∙ e);
}

new_lower : (b : List ℕ) (source : ℕ) (t : State) (s : Slots) → Inv1 b t → Filled (Inv0 b) (LeafIn b) Grown0 b 1 source 4096 (opening 1 source t) s
    → Step (Inv1 b) (LowerIn b) Grown1 source t (record { number = t.lower_nodes; state = placed 1 s })
new_lower b source t s i f = record {
  keeps = record {
    below = record { full = f.keeps.full; known = f.keeps.known };
    full = omega (arith, i.full, f.size, f.grown.lower_nodes, ap length f.grown.lower, length-append s.state.lower s.entries);
    known =
        λ (a k : ℕ) e. old_or_new (LowerIn b (placed 1 s)) t.spans (span_of 1 source t) 1
        (λ (a k : ℕ) e. node_grown (leaf_grown f.grown.leaf) more a k (i.known a k e)) new a k (sym (f.grown.seen1 a) ∙ e);
  };
  reads = new;
  grown = record {
    leaf = f.grown.leaf;
    lower = more;
    upper = f.grown.upper;
    upper_nodes = f.grown.upper_nodes;
    seen2 = λ a. f.grown.seen2 a ∙ seen_other t.spans (span_of 1 source t) a 2 (λ (h : 1 ≡ 2). omega arith);
  };
}
  where
    more : Prefix t.lower (s.state.lower ++ s.entries)
    more = prefix_trans (prefix_same f.grown.lower) (prefix_more s.state.lower s.entries)

    new : LowerIn b (placed 1 s) source t.lower_nodes
    new = node_new s.state.lower s.entries source t.lower_nodes (ap length f.grown.lower ∙ i.full) f.size f.each

-- the first n slots of a lower node that is being read
pub lower_filled : (b : List ℕ) (p : Places) (source : ℕ) (t : State) (n : ℕ) (s : Slots) → Inv0 b t
    → slots_read b (node 0 b p) 1 source n (opening 1 source t) ≡ ok s → Filled (Inv0 b) (LeafIn b) Grown0 b 1 source n (opening 1 source t) s
lower_filled b p source t n s i e =
    slots_filled (Inv0 b) (LeafIn b) Grown0 same0 join0 (stable0 b) b 1 source (node 0 b p) (read_leaf b p) n (opening 1 source t) s
    (opening1 b source t i) e

pub read_lower : (b : List ℕ) (p : Places) (source : ℕ) (t : State) (r : Read) → Inv1 b t → node 1 b p source t ≡ ok r
    → Step (Inv1 b) (LowerIn b) Grown1 source t r
unfolding node
read_lower b p source t r i e = read_node (Inv1 b) (LowerIn b) Grown1 b p 1 source t (λ (u : State). bind (slots_read b (node 0 b p) 1 source 4096 u) place)
    (λ (k : ℕ) seen_at. record { keeps = i; reads = i.known source k seen_at; grown = same1 t })
    (λ (v : State) filled.
    let (s, slots, e₁) = bind_ok (slots_read b (node 0 b p) 1 source 4096 (opening 1 source t)) place filled in
    let all = lower_filled b p source t 4096 s i.below slots in
    subst (λ (z : State). Step (Inv1 b) (LowerIn b) Grown1 source t (record { number = t.lower_nodes; state = z })) (ok_injective e₁)
    (new_lower b source t s i all))
    r e
  where
    place : Slots → Result State
    place = λ (s : Slots). ok (placed 1 s)

-- ---- upper nodes

pub record Grown2 (t u : State) : Type 0 where
  pub leaf : Prefix t.leaf u.leaf
  pub lower : Prefix t.lower u.lower
  pub upper : Prefix t.upper u.upper

pub same2 : (t : State) → Grown2 t t
same2 t = record { leaf = prefix_same refl; lower = prefix_same refl; upper = prefix_same refl }

pub join2 : (t u v : State) → Grown2 t u → Grown2 u v → Grown2 t v
join2 t u v g h = record { leaf = prefix_trans g.leaf h.leaf; lower = prefix_trans g.lower h.lower; upper = prefix_trans g.upper h.upper }

pub stable2 : (b : List ℕ) (t u : State) → Grown2 t u → (s k : ℕ) → UpperIn b t s k → UpperIn b u s k
stable2 b t u g s k l = node_grown (node_grown (leaf_grown g.leaf) g.lower) g.upper s k l

opening2 : (b : List ℕ) (source : ℕ) (t : State) → Inv1 b t → Inv1 b (opening 2 source t)
opening2 b source t i = record {
  below = record {
    full = i.below.full;
    known =
        λ (s k : ℕ) (e : seen (t.spans ++ (span_of 2 source t ∷ [])) s 0 ≡ at k). i.below.known s k
        (sym (seen_other t.spans (span_of 2 source t) s 0 (λ (h : 2 ≡ 0). omega arith)) ∙ e);
  };
  full = i.full;
  known =
      λ (s k : ℕ) (e : seen (t.spans ++ (span_of 2 source t ∷ [])) s 1 ≡ at k). i.known s k
      (sym (seen_other t.spans (span_of 2 source t) s 1 (λ (h : 2 ≡ 1). omega arith)) ∙ e);
}

new_upper : (b : List ℕ) (source : ℕ) (t : State) (s : Slots) → Inv2 b t → Filled (Inv1 b) (LowerIn b) Grown1 b 2 source 32768 (opening 2 source t) s
    → Step (Inv2 b) (UpperIn b) Grown2 source t (record { number = t.upper_nodes; state = placed 2 s })
new_upper b source t s i f = record {
  keeps = record {
    below = record { below = record { full = f.keeps.below.full; known = f.keeps.below.known }; full = f.keeps.full; known = f.keeps.known };
    full = omega (arith, i.full, f.size, f.grown.upper_nodes, ap length f.grown.upper, length-append s.state.upper s.entries);
    known =
        λ (a k : ℕ) e. old_or_new (UpperIn b (placed 2 s)) t.spans (span_of 2 source t) 2
        (λ (a k : ℕ) e. node_grown (node_grown (leaf_grown f.grown.leaf) f.grown.lower) more a k (i.known a k e)) new a k
        (sym (f.grown.seen2 a) ∙ e);
  };
  reads = new;
  grown = record { leaf = f.grown.leaf; lower = f.grown.lower; upper = more };
}
  where
    more : Prefix t.upper (s.state.upper ++ s.entries)
    more = prefix_trans (prefix_same f.grown.upper) (prefix_more s.state.upper s.entries)

    new : UpperIn b (placed 2 s) source t.upper_nodes
    new = node_new s.state.upper s.entries source t.upper_nodes (ap length f.grown.upper ∙ i.full) f.size f.each

-- the first n slots of an upper node that is being read
pub upper_filled : (b : List ℕ) (p : Places) (source : ℕ) (t : State) (n : ℕ) (s : Slots) → Inv1 b t
    → slots_read b (node 1 b p) 2 source n (opening 2 source t) ≡ ok s → Filled (Inv1 b) (LowerIn b) Grown1 b 2 source n (opening 2 source t) s
upper_filled b p source t n s i e =
    slots_filled (Inv1 b) (LowerIn b) Grown1 same1 join1 (stable1 b) b 2 source (node 1 b p) (read_lower b p) n (opening 2 source t) s
    (opening2 b source t i) e

pub read_upper : (b : List ℕ) (p : Places) (source : ℕ) (t : State) (r : Read) → Inv2 b t → node 2 b p source t ≡ ok r
    → Step (Inv2 b) (UpperIn b) Grown2 source t r
unfolding node
read_upper b p source t r i e = read_node (Inv2 b) (UpperIn b) Grown2 b p 2 source t (λ (u : State). bind (slots_read b (node 1 b p) 2 source 32768 u) place)
    (λ (k : ℕ) seen_at. record { keeps = i; reads = i.known source k seen_at; grown = same2 t })
    (λ (v : State) filled.
    let (s, slots, e₁) = bind_ok (slots_read b (node 1 b p) 2 source 32768 (opening 2 source t)) place filled in
    let all = upper_filled b p source t 32768 s i.below slots in
    subst (λ (z : State). Step (Inv2 b) (UpperIn b) Grown2 source t (record { number = t.upper_nodes; state = z })) (ok_injective e₁)
    (new_upper b source t s i all))
    r e
  where
    place : Slots → Result State
    place = λ (s : Slots). ok (placed 2 s)
