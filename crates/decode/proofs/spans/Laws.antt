-- What the words say of the list of spans, and the walk of a chain. Assumes nothing.
use mathlib.Core.Path.{◌≡◌, refl, sym, ap, ◌∙◌}
use mathlib.Core.Logic.{◌⊎◌, inl, inr, ⊎_elim}
use mathlib.Core.Bool.{Bool, true, false, cond, ◌&&◌, ◌||◌}
use mathlib.Core.List.{List, [], ◌∷◌, ◌++◌}
use Prim.Native.Nat.{ℕ, zero, suc, ◌+◌, ◌-◌, ◌*◌, ◌/◌, ◌<◌, ◌≤◌}
use native.Mathlib.Nat.{eq-or-lt_of_le, le-div_iff_mul-le, mul-div-le, mul_comm, zero-div}
use native.Mathlib.Omega.{arith}
use lib.ListN.{length}
use lib.Dec.{ltb, eqb}
use borrow.Author.Tests.{lt-ltb, ltb-true, ltb-false, ne_eqb, eqb-true}
use Rattle.std.specs.Prelude.{Option, None, Some}
use Rattle.std.specs.Option.{is_some}
use Rattle.nanovdb.specs.Spans.{Span, Seen, at, nowhere, overlaps, seen}
use Rattle.decode.specs.Inner.WorkTable.{node_start, node_level, node_number, chain_link, chain_head, size, span_at, nodes, header_span, root_span}
use Rattle.decode.specs.Inner.WorkTable.{spans, chain_in, chain_of, Rep, over, hits, Searched, MetAt}
use Rattle.decode.specs.declared.spans.Spans.{Spans}

-- ---- tests

pub split : (b : Bool) → (b ≡ true) ⊎ (b ≡ false)
split true = inl refl
split false = inr refl

pub not_both : {A : Type 0} (b : Bool) → b ≡ true → b ≡ false → A
not_both b p q = absurd (let z : ◌≡◌ {A = ℕ} 0 1 = cc in omega arith)

-- what is not true is false
pub false_of : (b : Bool) → (b ≡ true → ⊥) → b ≡ false
false_of b f = ⊎_elim (λ t. absurd (f t)) (λ e. e) (split b)

or_assoc : (p q r : Bool) → (p || (q || r)) ≡ ((p || q) || r)
or_assoc true q r = refl
or_assoc false q r = refl

or_none : (p : Bool) → (p || false) ≡ p
or_none true = refl
or_none false = refl

or_yes : (p : Bool) → (p || true) ≡ true
or_yes true = refl
or_yes false = refl

pub and_no : (p : Bool) → (p && false) ≡ false
and_no true = refl
and_no false = refl

and_both : (p q : Bool) → (p && q) ≡ true → (p ≡ true) × (q ≡ true)
and_both true q e = (refl, e)
and_both false q e = not_both false e refl

pub div_mono : (a b k : ℕ) → 0 < k → a ≤ b → a / k ≤ b / k
div_mono a b k p l =
    let m : a / k * k ≤ b = rw (mul_comm (a / k) k) (omega (arith, mul-div-le a k)) in
    (le-div_iff_mul-le p).1 m

-- ---- overlaps of the list

overlaps_append : (a b : List Span) (s e : ℕ) → overlaps (a ++ b) s e ≡ (overlaps a s e || overlaps b s e)
unfolding overlaps
overlaps_append [] b s e = refl
overlaps_append (x ∷ a) b s e = rw (overlaps_append a b s e) (or_assoc (ltb x.start e && ltb s x.end) (overlaps a s e) (overlaps b s e))

nodes_over : (w : List ℕ) (k s e : ℕ) → overlaps (nodes w (suc k)) s e ≡ (overlaps (nodes w k) s e || over w k s e)
unfolding nodes overlaps over
nodes_over w k s e = overlaps_append (nodes w k) (span_at w k ∷ []) s e ∙ ap (λ (b : Bool). overlaps (nodes w k) s e || b) (or_none _)

pub over_none : (w : List ℕ) (k s e : ℕ) → ((i : ℕ) → i < k → over w i s e ≡ false) → overlaps (nodes w k) s e ≡ false
unfolding nodes overlaps
over_none w zero s e f = refl
over_none w (suc k) s e f = nodes_over w k s e ∙ rw (over_none w k s e (λ i l. f i (omega arith)), f k (omega arith))

pub over_some : (w : List ℕ) (k i s e : ℕ) → i < k → over w i s e ≡ true → overlaps (nodes w k) s e ≡ true
over_some w zero i s e l t = absurd (omega arith)
over_some w (suc k) i s e l t =
    let le : i ≤ k = omega arith in
    nodes_over w k s e
    ∙ ⊎_elim
    (λ (q : i ≡ k). rw (sym q, t) (or_yes (overlaps (nodes w i) s e)))
    (λ (q : i < k). rw (over_some w k i s e q t))
    (eq-or-lt_of_le le)

pub overlaps_spans : (w : List ℕ) (count root limit s e : ℕ)
    → overlaps (spans w count root limit) s e ≡ (overlaps (header_span ∷ (root_span root limit ∷ [])) s e || overlaps (nodes w count) s e)
unfolding spans
overlaps_spans w count root limit s e = overlaps_append (header_span ∷ (root_span root limit ∷ [])) (nodes w count) s e

pub over_parts : (w : List ℕ) (i s e : ℕ) → over w i s e ≡ true → (node_start w i < e) × (s < node_start w i + size (node_level w i))
unfolding over
over_parts w i s e t = let b = and_both _ _ t in (ltb-true _ _ b.0, ltb-true _ _ b.1)

-- ---- the first of the list

abbrev or_else : Seen → Seen → Seen
or_else (at n) x = at n
or_else nowhere x = x

cond_else : (p : Bool) (n : ℕ) (a b : Seen) → cond p (at n) (or_else a b) ≡ or_else (cond p (at n) a) b
cond_else true n a b = refl
cond_else false n a b = refl

seen_append : (a b : List Span) (s l : ℕ) → seen (a ++ b) s l ≡ or_else (seen a s l) (seen b s l)
unfolding seen
seen_append [] b s l = refl
seen_append (x ∷ a) b s l = rw (seen_append a b s l) (cond_else (eqb x.start s && eqb x.level l) x.number (seen a s l) (seen b s l))

nodes_seen : (w : List ℕ) (k s l : ℕ) → seen (nodes w (suc k)) s l ≡ or_else (seen (nodes w k) s l) (cond (hits w k s l) (at (node_number w k)) nowhere)
unfolding nodes seen hits
nodes_seen w k s l = seen_append (nodes w k) (span_at w k ∷ []) s l

pub seen_none : (w : List ℕ) (k s l : ℕ) → ((i : ℕ) → i < k → hits w i s l ≡ false) → seen (nodes w k) s l ≡ nowhere
unfolding nodes seen
seen_none w zero s l f = refl
seen_none w (suc k) s l f = nodes_seen w k s l ∙ rw (seen_none w k s l (λ i q. f i (omega arith)), f k (omega arith))

pub seen_first : (w : List ℕ) (k i s l : ℕ) → i < k → hits w i s l ≡ true → ((j : ℕ) → j < i → hits w j s l ≡ false)
    → seen (nodes w k) s l ≡ at (node_number w i)
seen_first w zero i s l p t f = absurd (omega arith)
seen_first w (suc k) i s l p t f =
    let le : i ≤ k = omega arith in
    nodes_seen w k s l
    ∙ ⊎_elim
    (λ (q : i ≡ k). let g : (j : ℕ) → j < k → hits w j s l ≡ false = λ j m. f j (omega arith) in rw (seen_none w k s l g, sym q, t))
    (λ (q : i < k). rw (seen_first w k i s l q t f))
    (eq-or-lt_of_le le)

pub seen_spans : (w : List ℕ) (count root limit s l : ℕ) → l < 3 → seen (spans w count root limit) s l ≡ seen (nodes w count) s l
unfolding spans seen
seen_spans w count root limit s l p =
    let n : eqb 3 l ≡ false = ne_eqb 3 l (λ e. omega arith) in
    rw (n, and_no (eqb 0 s), and_no (eqb root s))

pub hits_parts : (w : List ℕ) (i s l : ℕ) → hits w i s l ≡ true → (node_start w i ≡ s) × (node_level w i ≡ l)
unfolding hits
hits_parts w i s l t = let b = and_both _ _ t in (eqb-true _ _ b.0, eqb-true _ _ b.1)

-- ---- what a search says of the list

pub chain_hit : (w : List ℕ) (i s l : ℕ) → hits w i s l ≡ true → chain_of w i ≡ chain_in (length w / 4) l (s / size l)
unfolding chain_of
chain_hit w i s l t = let b = hits_parts w i s l t in rw (b.0, b.1)

module _ {w : List ℕ} {count : ℕ} (s : ℕ) {l : ℕ} (rep : Rep w count) (root limit : ℕ) (three : l < 3) where
  pub seen_at : (i : ℕ) → i < count → hits w i s l ≡ true → at (node_number w i) ≡ seen (spans w count root limit) s l
  seen_at i low hit =
      let t = hits_parts w i s l hit in
      let alone : (j : ℕ) → j < i → hits w j s l ≡ false
      = λ j m. false_of _ (λ u. let v = hits_parts w j s l u in rep.apart j i m low (v.0 ∙ sym t.0) (v.1 ∙ sym t.1)) in
      sym (seen_spans w count root limit s l three ∙ seen_first w count i s l low hit alone)

  pub seen_no : {h : ℕ} → h ≡ chain_in (length w / 4) l (s / size l) → Searched w count h (λ (i : ℕ). hits w i s l) None
      → nowhere ≡ seen (spans w count root limit) s l
  seen_no e none =
      sym (seen_spans w count root limit s l three
      ∙ seen_none w count s l (λ i m. false_of _ (λ u. not_both _ u (none i m (chain_hit w i s l u ∙ sym e)))))

-- ---- the walk of a chain

pub record Walk (w : List ℕ) (count h : ℕ) (t : ℕ → Bool) (v : ℕ) : Type 0 where
  pub below : v ≤ count
  pub here : 0 < v → chain_of w (v - 1) ≡ h
  pub past : (i : ℕ) → v ≤ i → i < count → chain_of w i ≡ h → t i ≡ false

module _ {w : List ℕ} {count h : ℕ} {t : ℕ → Bool} where
  pub walk_start : Rep w count → h < length w / 4 → Walk w count h t (chain_head w h)
  walk_start rep l = let q = rep.head h l in record { below = q.below; here = q.here; past = λ i a b e. absurd (q.none i a b e) }

  pub walk_next : {v : ℕ} → Rep w count → 0 < v → Walk w count h t v → t (v - 1) ≡ false → Walk w count h t (chain_link w (v - 1))
  walk_next {v} rep p k f =
      let low : v - 1 < count = omega (arith, k.below) in
      let q = rep.link (v - 1) low in
      record {
        below = omega (arith, q.below);
        here = λ m. q.here m ∙ k.here p;
        past = λ i a b e.
            ⊎_elim
            (λ (y : ltb i v ≡ true).
            ⊎_elim
            (λ (x : i ≡ v - 1). ap t x ∙ f)
            (λ (x : i < v - 1). absurd (q.none i a x (e ∙ sym (k.here p))))
            (eq-or-lt_of_le (omega (arith, ltb-true i v y))))
            (λ (y : ltb i v ≡ false). k.past i (ltb-false i v y) b e)
            (split (ltb i v));
      }

module _ {w : List ℕ} {count h v : ℕ} {t : ℕ → Bool} (k : Walk w count h t v) where
  pub search_here : 0 < v → t (v - 1) ≡ true → Searched w count h t (Some (v - 1))
  search_here p f = (omega (arith, k.below), f)

  pub search_none : v ≤ 0 → Searched w count h t None
  search_none p = λ i m e. k.past i (omega arith) m e

-- ---- the stretches of one level

-- each node of the level that is met stands at q or behind
abbrev pub From : List ℕ → ℕ → ℕ → ℕ → ℕ → ℕ → Type 0
From w count level s e q = (i : ℕ) → i < count → node_level w i ≡ level → over w i s e ≡ true → q ≤ node_start w i / size level

module _ (w : List ℕ) (count level s e : ℕ) (pos : 0 < size level) where
  pub from_start : From w count level s e ((s + 1 - size level) / size level)
  from_start i m l t =
      let b = over_parts w i s e t in
      let c : s < node_start w i + size level = rw l at b.1 in
      div_mono _ _ _ pos (omega arith)

  pub from_next : (q : ℕ) {h : ℕ} → h ≡ chain_in (length w / 4) level q → Searched w count h (λ (i : ℕ). over w i s e) None → From w count level s e q
      → From w count level s e (q + 1)
  unfolding chain_of
  from_next q c none f i m l t =
      ⊎_elim
      (λ (x : q ≡ node_start w i / size level). not_both _ t (none i m (rw (l, sym x) (sym c))))
      (λ (x : q < node_start w i / size level). omega arith)
      (eq-or-lt_of_le (f i m l t))

  pub from_end : (q : ℕ) → (e - 1) / size level < q → From w count level s e q → MetAt w count level s e false
  from_end q g f = record {
    yes = λ x. not_both false x refl;
    no = λ _ i m l. false_of _ (λ t.
        let b = over_parts w i s e t in
        let d : node_start w i / size level ≤ (e - 1) / size level = div_mono _ _ _ pos (omega (arith, b.0)) in
        omega (arith, f i m l t));
  }

module _ (w : List ℕ) (count h s e : ℕ) where
  pub some_met : {level : ℕ} (r : Option ℕ) → is_some r ≡ true → Searched w count h (λ (i : ℕ). over w i s e) r → MetAt w count level s e true
  some_met (Some i) t (low, met) = record { yes = λ _. over_some w count i s e low met; no = λ f. not_both true refl f }
  some_met None t f = not_both false t refl

  pub none_met : (r : Option ℕ) → is_some r ≡ false → Searched w count h (λ (i : ℕ). over w i s e) r → Searched w count h (λ (i : ℕ). over w i s e) None
  none_met (Some i) t f = not_both true refl t
  none_met None t f = f

-- ---- the whole list

-- r says whether the header or the root is met
module _ (w : List ℕ) (s : Spans) (start e : ℕ) {r : Bool} (fixed : r ≡ overlaps (header_span ∷ (root_span s.root s.limit ∷ [])) start e) where
  pub whole_fixed : r ≡ true → true ≡ overlaps (spans w s.count s.root s.limit) start e
  whole_fixed t = sym (overlaps_spans w s.count s.root s.limit start e ∙ rw (sym fixed, t))

  pub whole_nodes : r ≡ false → {x : Bool} → x ≡ overlaps (nodes w s.count) start e → x ≡ overlaps (spans w s.count s.root s.limit) start e
  whole_nodes t y = y ∙ sym (overlaps_spans w s.count s.root s.limit start e ∙ rw (sym fixed, t))

-- v says whether the header, the root or a node of a level below n is met
pub record MetBelow (w : List ℕ) (s : Spans) (start e n : ℕ) (v : Bool) : Type 0 where
  pub yes : v ≡ true → overlaps (spans w s.count s.root s.limit) start e ≡ true
  pub no : v ≡ false
      → (overlaps (header_span ∷ (root_span s.root s.limit ∷ [])) start e ≡ false)
      × ((i : ℕ) → i < s.count → node_level w i < n → over w i start e ≡ false)

module _ (w : List ℕ) (s : Spans) (start e : ℕ) where
  pub met_fixed : {v : Bool} → v ≡ overlaps (header_span ∷ (root_span s.root s.limit ∷ [])) start e → MetBelow w s start e 0 v
  met_fixed f = record { yes = λ t. sym (whole_fixed w s start e f t); no = λ x. (sym f ∙ x, λ i m l. absurd (omega arith)) }

  pub met_already : {n : ℕ} {v x : Bool} → MetBelow w s start e n v → v ≡ true → x ≡ v → MetBelow w s start e (n + 1) x
  met_already b t y = record { yes = λ _. b.yes t; no = λ f. not_both _ t (sym y ∙ f) }

  pub met_more : {n : ℕ} {v r x : Bool} → MetBelow w s start e n v → v ≡ false → MetAt w s.count n start e r → x ≡ r → MetBelow w s start e (n + 1) x
  met_more {n} b f m is = record {
    yes = λ t. sym (whole_nodes w s start e (sym (b.no f).0) refl (sym (m.yes (sym is ∙ t))));
    no = λ t. (
      (b.no f).0,
      λ i low level.
          ⊎_elim (λ (x : node_level w i ≡ n). m.no (sym is ∙ t) i low x) (λ (x : node_level w i < n). (b.no f).1 i low x)
          (eq-or-lt_of_le (omega (arith, level))),
    );
  }

  pub met_all : {v : Bool} → Rep w s.count → MetBelow w s start e 3 v → v ≡ overlaps (spans w s.count s.root s.limit) start e
  met_all {v} rep b =
      ⊎_elim (λ t. t ∙ sym (b.yes t))
      (λ f.
      let all = over_none w s.count start e (λ i low. (b.no f).1 i low (rep.level i low)) in
      f ∙ whole_nodes w s start e (sym (b.no f).0) refl (sym all))
      (split v)

pub size_pos : (l : ℕ) → 0 < size l
unfolding size
size_pos zero = omega arith
size_pos (suc zero) = omega arith
size_pos (suc (suc l)) = omega arith

-- ---- for the small functions

pub both : (p q : Bool) → p ≡ true → q ≡ true → true ≡ (p && q)
both p q a b = rw (a, b)

or_right : (p q : Bool) → (p || q) ≡ false → q ≡ false
or_right true q e = not_both true refl e
or_right false q e = e

-- no node of the level starts where no span overlaps
pub clear_of : (w : List ℕ) (k root limit s l i : ℕ) → overlaps (spans w k root limit) s (s + size l) ≡ false → i < k → node_start w i ≡ s
    → node_level w i ≡ l → ⊥
unfolding over
clear_of w k root limit s l i f m a b =
    let z = size_pos l in
    let begins = lt-ltb (node_start w i) (s + size l) (omega arith) in
    let ends = lt-ltb s (node_start w i + size (node_level w i)) (rw b (omega arith)) in
    let t : over w i s (s + size l) ≡ true = sym (both _ _ begins ends) in
    not_both _ (over_some w k i s (s + size l) m t)
    (or_right (overlaps (header_span ∷ (root_span root limit ∷ [])) s (s + size l)) _ (sym (overlaps_spans w k root limit s (s + size l)) ∙ f))

-- (s + 1 - z) / z where s is less than z, and where it is not
pub first_0 : (s z : ℕ) → 0 < z → s < z → 0 ≡ (s + 1 - z) / z
first_0 s z p l = let e : s + 1 - z ≡ 0 = omega arith in rw (e, zero-div z)

pub first_1 : (s z : ℕ) → z ≤ s → (s - z + 1) / z ≡ (s + 1 - z) / z
first_1 s z l = let e : s - z + 1 ≡ s + 1 - z = omega arith in rw e
