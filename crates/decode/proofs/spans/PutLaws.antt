-- One node more: the words after `put` hold the old list with the new span behind it. Assumes nothing.
use mathlib.Core.Path.{◌≡◌, refl, sym, ap, subst, ◌∙◌}
use mathlib.Core.Logic.{◌⊎◌, inl, inr, ⊎_elim}
use mathlib.Core.Bool.{false}
use mathlib.Core.List.{List, [], ◌∷◌, ◌++◌}
use Prim.Native.Nat.{ℕ, zero, suc, ◌+◌, ◌-◌, ◌*◌, ◌/◌, ◌%◌, ◌<◌, ◌≤◌}
use native.Mathlib.Nat.{eq-or-lt_of_le}
use native.Mathlib.Numerals.{add-one}
use native.Mathlib.Omega.{arith}
use lib.ListN.{length, get_or, set, length-set}
use lib.Seq.{get_or-set_same, get_or-set_other}
use lib.Dec.{eqb}
use borrow.Author.Tests.{eqb-true, eqb-false}
use Rattle.nanovdb.specs.Spans.{overlaps}
use Rattle.decode.specs.Inner.WorkTable.{node_start, node_level, node_number, chain_link, chain_head, size, span_at, nodes, spans, node_span}
use Rattle.decode.specs.Inner.WorkTable.{chain_in, chain_of, Last, Rep, put_s, Pushed}
use Rattle.decode.specs.declared.spans.Spans.{Spans}
use Rattle.decode.proofs.spans.Laws.{split, clear_of}

pub same_or : (i j : ℕ) → (i ≡ j) ⊎ (i ≡ j → ⊥)
same_or i j = ⊎_elim (λ t. inl (eqb-true i j t)) (λ f. inr (eqb-false i j f)) (split (eqb i j))

strict : {k : ℕ} (i : ℕ) → i < k + 1 → (i ≡ k → ⊥) → i < k
strict {k} i m n = ⊎_elim (λ (e : i ≡ k). absurd (n e)) (λ (l : i < k). l) (eq-or-lt_of_le (omega arith))

-- the words after each of the first three stores of `put`
abbrev one : List ℕ → ℕ → ℕ → List ℕ
one w k start = set w (k * 4) start

abbrev two : List ℕ → ℕ → ℕ → ℕ → List ℕ
two w k start word = set (one w k start) (k * 4 + 1) word

abbrev three : List ℕ → ℕ → ℕ → ℕ → ℕ → List ℕ
three w h k start word = set (two w k start word) (k * 4 + 2) (get_or w (h * 4 + 3) 0)

module _ (w : List ℕ) (h k start word : ℕ) (room : k * 4 + 4 ≤ length w) (hn : h < length w / 4) where
  pub put_length : length (put_s w h k start word) ≡ length w
  unfolding put_s
  put_length = simp length-set

  -- the last store, and the last two, change no other word
  past_head : (j : ℕ) → (j ≡ h * 4 + 3 → ⊥) → get_or (put_s w h k start word) j 0 ≡ get_or (three w h k start word) j 0
  unfolding put_s
  past_head j d = get_or-set_other (three w h k start word) (h * 4 + 3) j (k + 1) 0 d

  past_link : (j : ℕ) → (j ≡ k * 4 + 2 → ⊥) → (j ≡ h * 4 + 3 → ⊥) → get_or (put_s w h k start word) j 0 ≡ get_or (two w k start word) j 0
  past_link j c d = past_head j d ∙ get_or-set_other (two w k start word) (k * 4 + 2) j (get_or w (h * 4 + 3) 0) 0 c

  put_other : (j : ℕ) → (j ≡ k * 4 → ⊥) → (j ≡ k * 4 + 1 → ⊥) → (j ≡ k * 4 + 2 → ⊥) → (j ≡ h * 4 + 3 → ⊥)
      → get_or (put_s w h k start word) j 0 ≡ get_or w j 0
  put_other j a b c d = past_link j c d ∙ get_or-set_other (one w k start) (k * 4 + 1) j word 0 b ∙ get_or-set_other w (k * 4) j start 0 a

  start_new : node_start (put_s w h k start word) k ≡ start
  unfolding node_start
  start_new =
      past_link (k * 4) (λ e. omega arith) (λ e. omega arith)
      ∙ get_or-set_other (one w k start) (k * 4 + 1) (k * 4) word 0 (λ e. omega arith)
      ∙ get_or-set_same w (k * 4) start 0 (omega arith)

  word_new : get_or (put_s w h k start word) (k * 4 + 1) 0 ≡ word
  word_new =
      past_link (k * 4 + 1) (λ e. omega arith) (λ e. omega arith)
      ∙ get_or-set_same (one w k start) (k * 4 + 1) word 0 (simp length-set (omega arith))

  link_new : chain_link (put_s w h k start word) k ≡ chain_head w h
  unfolding chain_link chain_head
  link_new =
      past_head (k * 4 + 2) (λ e. omega arith)
      ∙ get_or-set_same (two w k start word) (k * 4 + 2) (get_or w (h * 4 + 3) 0) 0 (simp length-set (omega arith))

  head_new : chain_head (put_s w h k start word) h ≡ k + 1
  unfolding put_s chain_head
  head_new = get_or-set_same (three w h k start word) (h * 4 + 3) (k + 1) 0 (simp length-set (omega arith))

  start_other : (i : ℕ) → (i ≡ k → ⊥) → node_start (put_s w h k start word) i ≡ node_start w i
  unfolding node_start
  start_other i n = put_other (i * 4) (λ e. n (omega arith)) (λ e. omega arith) (λ e. omega arith) (λ e. omega arith)

  word_other : (i : ℕ) → (i ≡ k → ⊥) → get_or (put_s w h k start word) (i * 4 + 1) 0 ≡ get_or w (i * 4 + 1) 0
  word_other i n = put_other (i * 4 + 1) (λ e. omega arith) (λ e. n (omega arith)) (λ e. omega arith) (λ e. omega arith)

  level_other : (i : ℕ) → (i ≡ k → ⊥) → node_level (put_s w h k start word) i ≡ node_level w i
  unfolding node_level
  level_other i n = ap (λ (x : ℕ). x % 4) (word_other i n)

  number_other : (i : ℕ) → (i ≡ k → ⊥) → node_number (put_s w h k start word) i ≡ node_number w i
  unfolding node_number
  number_other i n = ap (λ (x : ℕ). x / 4) (word_other i n)

  link_other : (i : ℕ) → (i ≡ k → ⊥) → chain_link (put_s w h k start word) i ≡ chain_link w i
  unfolding chain_link
  link_other i n = put_other (i * 4 + 2) (λ e. omega arith) (λ e. omega arith) (λ e. n (omega arith)) (λ e. omega arith)

  head_other : (i : ℕ) → (i ≡ h → ⊥) → chain_head (put_s w h k start word) i ≡ chain_head w i
  unfolding chain_head
  head_other i n = put_other (i * 4 + 3) (λ e. omega arith) (λ e. omega arith) (λ e. omega arith) (λ e. n (omega arith))

  level_new : node_level (put_s w h k start word) k ≡ word % 4
  unfolding node_level
  level_new = ap (λ (x : ℕ). x % 4) word_new

  number_new : node_number (put_s w h k start word) k ≡ word / 4
  unfolding node_number
  number_new = ap (λ (x : ℕ). x / 4) word_new

  chain_other : (i : ℕ) → (i ≡ k → ⊥) → chain_of (put_s w h k start word) i ≡ chain_of w i
  unfolding chain_of
  chain_other i n = rw (put_length, level_other i n, start_other i n)

  chain_new : h ≡ chain_in (length w / 4) (word % 4) (start / size (word % 4)) → chain_of (put_s w h k start word) k ≡ h
  unfolding chain_of
  chain_new e = rw (put_length, level_new, start_new) (sym e)

  -- the links and heads below k are as they were
  carried : (c m v : ℕ) → m ≤ k → Last w c m v → Last (put_s w h k start word) c m v
  carried c m v l q = record {
    below = q.below;
    here = λ p. chain_other (v - 1) (λ e. omega (arith, q.below)) ∙ q.here p;
    none = λ i a b e. q.none i a b (sym (chain_other i (λ f. omega arith)) ∙ e);
  }

  span_other : (i : ℕ) → (i ≡ k → ⊥) → span_at (put_s w h k start word) i ≡ span_at w i
  span_other i n = rw (start_other i n, level_other i n, number_other i n)

  nodes_other : (m : ℕ) → m ≤ k → nodes (put_s w h k start word) m ≡ nodes w m
  unfolding nodes
  nodes_other zero l = refl
  nodes_other (suc m) l = rw (nodes_other m (omega arith), span_other m (λ e. omega arith))

  pub list_new : (root limit level number : ℕ) → word % 4 ≡ level → word / 4 ≡ number
      → spans (put_s w h k start word) (k + 1) root limit ≡ spans w k root limit ++ (node_span start level number ∷ [])
  unfolding spans nodes
  list_new root limit level number a b =
      let s : span_at (put_s w h k start word) k ≡ node_span start level number = rw (start_new, level_new, number_new, a, b) in
      rw (add-one k, nodes_other k (omega arith), s)

  -- the chain h ends in the new node
  module _ (new : chain_of (put_s w h k start word) k ≡ h) (rep : Rep w k) where
    head_here : Last (put_s w h k start word) h (k + 1) (chain_head (put_s w h k start word) h)
    head_here = subst (Last (put_s w h k start word) h (k + 1)) (sym head_new) (record {
      below = omega arith;
      here = λ p. (let f : k + 1 - 1 ≡ k = omega arith in rw f new);
      none = λ i u v e. omega arith;
    })

    head_there : (j : ℕ) → j < length w / 4 → (j ≡ h → ⊥) → Last (put_s w h k start word) j (k + 1) (chain_head (put_s w h k start word) j)
    head_there j m n =
        let q = carried j k (chain_head w j) (omega arith) (rep.head j m) in
        subst (Last (put_s w h k start word) j (k + 1)) (sym (head_other j n)) (record {
          below = omega (arith, q.below);
          here = q.here;
          none = λ i u v c.
              ⊎_elim
              (λ (e : i ≡ k). n (sym c ∙ (ap (chain_of (put_s w h k start word)) e ∙ new)))
              (λ (o : i ≡ k → ⊥). q.none i u (strict i v o) c)
              (same_or i k);
        })

    link_here : Last (put_s w h k start word) (chain_of (put_s w h k start word) k) k (chain_link (put_s w h k start word) k)
    link_here =
        subst (Last (put_s w h k start word) (chain_of (put_s w h k start word) k) k) (sym link_new)
        (subst (λ (x : ℕ). Last (put_s w h k start word) x k (chain_head w h)) (sym new) (carried h k (chain_head w h) (omega arith) (rep.head h hn)))

    link_there : (i : ℕ) → i < k → (i ≡ k → ⊥)
        → Last (put_s w h k start word) (chain_of (put_s w h k start word) i) i (chain_link (put_s w h k start word) i)
    link_there i m n =
        subst (Last (put_s w h k start word) (chain_of (put_s w h k start word) i) i) (sym (link_other i n))
        (subst (λ (x : ℕ). Last (put_s w h k start word) x i (chain_link w i)) (sym (chain_other i n))
        (carried (chain_of w i) i (chain_link w i) (omega arith) (rep.link i m)))

  pub rep_new : (root limit level : ℕ) → word % 4 ≡ level → level < 3 → word / 4 < 4294967295 → k * 4 + 12 ≤ length w
      → h ≡ chain_in (length w / 4) level (start / size level) → overlaps (spans w k root limit) start (start + size level) ≡ false
      → Rep w k → Rep (put_s w h k start word) (k + 1)
  rep_new root limit level a low num more he free rep =
      let new : chain_of (put_s w h k start word) k ≡ h = chain_new (rw a he) in
      let len = put_length in
      record {
        room = omega arith;
        level = λ i m.
            ⊎_elim
            (λ (e : i ≡ k). rw (e, level_new, a) low)
            (λ (n : i ≡ k → ⊥). rw (level_other i n) (rep.level i (strict i m n)))
            (same_or i k);
        number = λ i m.
            ⊎_elim
            (λ (e : i ≡ k). rw (e, number_new) num)
            (λ (n : i ≡ k → ⊥). rw (number_other i n) (rep.number i (strict i m n)))
            (same_or i k);
        apart = λ i j l m s t.
            let n : i ≡ k → ⊥ = λ e. omega arith in
            ⊎_elim
            (λ (e : j ≡ k).
            clear_of w k root limit start level i free (omega arith)
            (sym (start_other i n) ∙ (s ∙ (ap (node_start (put_s w h k start word)) e ∙ start_new)))
            (sym (level_other i n) ∙ (t ∙ (ap (node_level (put_s w h k start word)) e ∙ (level_new ∙ a)))))
            (λ (o : j ≡ k → ⊥).
            rep.apart i j l (strict j m o) (sym (start_other i n) ∙ (s ∙ start_other j o)) (sym (level_other i n) ∙ (t ∙ level_other j o)))
            (same_or j k);
        head = λ j m.
            ⊎_elim
            (λ (e : j ≡ h).
            subst (λ (x : ℕ). Last (put_s w h k start word) x (k + 1) (chain_head (put_s w h k start word) x)) (sym e) (head_here new rep))
            (λ (n : j ≡ h → ⊥). head_there new rep j (rw len at m) n)
            (same_or j h);
        link = λ i m.
            ⊎_elim
            (λ (e : i ≡ k).
            subst (λ (x : ℕ). Last (put_s w h k start word) (chain_of (put_s w h k start word) x) x (chain_link (put_s w h k start word) x)) (sym e)
            (link_here new rep))
            (λ (n : i ≡ k → ⊥). link_there new rep i (strict i m n) n)
            (same_or i k);
      }

pub pushed : {w w' : List ℕ} {s : Spans} {h start level number : ℕ} → Rep w s.count → s.count * 4 + 12 ≤ length w → level < 3 → number < 4294967295
    → h < length w / 4 → h ≡ chain_in (length w / 4) level (start / size level)
    → overlaps (spans w s.count s.root s.limit) start (start + size level) ≡ false
    → w' ≡ put_s w h s.count start (number * 4 + level)
    → Pushed w w' s (record { count = s.count + 1; root = s.root; limit = s.limit }) start level number
pushed {w} {w'} {s} {h} {start} {level} {number} rep more low num hn he free e =
    let room : s.count * 4 + 4 ≤ length w = omega arith in
    let a : (number * 4 + level) % 4 ≡ level = omega arith in
    let b : (number * 4 + level) / 4 ≡ number = omega arith in
    subst (λ (x : List ℕ). Pushed w x s (record { count = s.count + 1; root = s.root; limit = s.limit }) start level number) (sym e) (record {
      rep = rep_new w h s.count start (number * 4 + level) room hn s.root s.limit level a low (rw b num) more he free rep;
      size_kept = put_length w h s.count start (number * 4 + level) room hn;
      count = refl;
      list = list_new w h s.count start (number * 4 + level) room hn s.root s.limit level number a b;
    })

-- ---- no node

pub clear_next : (w : List ℕ) (h : ℕ) → h * 4 + 3 < length w → ((j : ℕ) → j < h → chain_head w j ≡ 0) → (j : ℕ) → j < h + 1
    → chain_head (set w (h * 4 + 3) 0) j ≡ 0
unfolding chain_head
clear_next w h l f j m =
    ⊎_elim
    (λ (e : j ≡ h). rw e (get_or-set_same w (h * 4 + 3) 0 0 l))
    (λ (n : j ≡ h → ⊥). get_or-set_other w (h * 4 + 3) (j * 4 + 3) 0 0 (λ e. n (omega arith)) ∙ f j (strict j m n))
    (same_or j h)

pub clear_rep : (w : List ℕ) (h : ℕ) → 8 ≤ length w → length w / 4 ≤ h → ((j : ℕ) → j < h → chain_head w j ≡ 0) → Rep w 0
clear_rep w h l m f = record {
  room = omega arith;
  level = λ i k. absurd (omega arith);
  number = λ i k. absurd (omega arith);
  apart = λ i j a b. absurd (omega arith);
  head = λ j k. subst (Last w j 0) (sym (f j (omega arith))) (record {
    below = omega arith;
    here = λ p. absurd (omega arith);
    none = λ i a b. absurd (omega arith);
  });
  link = λ i k. absurd (omega arith);
}
