-- Runs of pushes, each handed what the one before left. The law: from an opening, the answer is that of the last w tables that were
-- accepted, or of all of them where there are fewer, and +0 where there are none. Which tables those are, and their answer, is
-- said of the tables alone: no ring. Assumes nothing.
use Rattle.std.specs.Prelude.{◌≡◌, Bool, ◌&&◌, length, drop, Float}
use Rattle.std.proofs.Math.Path.{refl, sym, ap, subst}
use Rattle.std.proofs.Common.{◌∙◌, add-one, arith, length-append}
use Rattle.std.proofs.Math.Bool.{true, false, cond}
use mathlib.Core.List.{List, [], ◌∷◌, ◌++◌, append-nil, append_assoc}
use Prim.Native.Nat.{ℕ, zero, suc, ◌+◌, ◌-◌, ◌*◌, ◌≤◌, ◌<◌, min}
use Rattle.std.proofs.Math.Dec.{T, eqb, leb, ltb}
use Rattle.std.proofs.Math.ListN.{replicate, length-replicate}
use Rattle.std.proofs.Math.Seq.{drop-nil}
use borrow.Author.Tests.{eq-eqb, ne_eqb, eqb-true, le-leb, lt-ltb, ltb-true, ltb-false}
use Rattle.refusals.specs.Faults.{◌then◌, unless}
use Rattle.refusals.specs.FaultLaws.{then_zero}
use Rattle.float.specs.Zero.{+0}
use Rattle.cells.specs.Cells.{Cells, cells_fault, cell_count}
use Rattle.figures.specs.Figures.{figures_fault}
use Rattle.figures.proofs.Parts.{place_in}
use Rattle.window.specs.Tables.{answer_of, last_of}
use Rattle.window.specs.Window.{Table, State, window_of, state_of, after, stored, ring, width_in, same_cells}
use Rattle.window.specs.Window.{fault_of, push_fault, pushed, push, open_fault, opened, shut}
use Rattle.window.specs.Runs.{run, own_fault, accepted, last_answer}
use Rattle.window.proofs.TableLaws.{raised_by_length, raised_by_none, stored_length}
use Rattle.window.proofs.RingLaws.{after_in, ring_rest, ring_more, last_more, last_rest, last_short}
use Rattle.window.proofs.FaultLaws.{same_cells_lem, taken, open_told}

-- ---- what holds along a run, over w = suc v places

module _ (v : ℕ) (n : Cells) where
  -- the window has taken the tables h
  pub record Kept (h : List (List Float)) (held next : ℕ) (m a : List Float) : Type 0 where
    pub high : suc v ≤ 16
    pub held_is : held ≡ min (suc v) (length h)
    pub next_in : next < suc v
    pub memory_long : length m ≡ suc v * (cell_count n)
    pub tables : ring (cell_count n) (suc v) m held next ≡ last_of (suc v) h
    pub answers : a ≡ answer_of (cell_count n) (last_of (suc v) h)

  abbrev state : ℕ → ℕ → List Float → List Float → State
  state held next m a = state_of (window_of (suc v) n held next) m a

  -- the tests that are the window's own pass
  same_fault : (u r : ℕ) (s p q : Bool) → (T s → p ≡ true) → (u then unless s 26 then unless (q && p) 18 then r) ≡ (u then unless s 26 then unless q 18 then r)
  same_fault u r true p true h = ap (λ (t : Bool). u then unless t 18 then r) (h tt)
  same_fault u r true p false h = refl
  same_fault u r false p q h = refl

  answer_long : (h : List (List Float)) (held next : ℕ) (m a : List Float) → Kept h held next m a → length a ≡ cell_count n
  answer_long h held next m a k =
      ap length k.answers ∙ raised_by_length (replicate (cell_count n) +0) (last_of (suc v) h) ∙ length-replicate (cell_count n) +0

  -- whether a push is taken, the table alone decides
  kept_fault : (h : List (List Float)) (held next : ℕ) (m a : List Float) → Kept h held next m a → (t : Table)
      → push_fault (state held next m a) t ≡ own_fault n t
  unfolding fault_of own_fault
  kept_fault h held next m a k t =
      let w = suc v in
      let c = cell_count t.cells in
      let same = same_cells t.cells n in
      let f = figures_fault t.figures in
      let long = eqb (length t.figures) c in
      let wide : width_in w ≡ true = ap (λ (b : Bool). b && leb w 16) (le-leb 1 w (omega arith)) ∙ le-leb w 16 k.high in
      let rest = eqb (length m) (w * c) && (eqb (length a) c && (leb held w && ltb next w)) in
      ap (λ (b : Bool). cells_fault t.cells then unless (b && same) 26 then unless (long && rest) 18 then f) wide
      ∙ same_fault (cells_fault t.cells) f same rest long (λ s. passes s)
    where
      passes : T (same_cells t.cells n)
          → eqb (length m) (suc v * cell_count t.cells) && (eqb (length a) (cell_count t.cells) && (leb held (suc v) && ltb next (suc v))) ≡ true
      passes s =
          let e : cell_count n ≡ cell_count t.cells = ap cell_count (sym (same_cells_lem t.cells n s)) in
          let p = eq-eqb (length m) (suc v * cell_count t.cells) (k.memory_long ∙ ap (λ (j : ℕ). suc v * j) e) in
          let q = eq-eqb (length a) (cell_count t.cells) (answer_long h held next m a k ∙ e) in
          let few = le-leb held (suc v) (omega (arith, k.held_is)) in
          let place = lt-ltb next (suc v) k.next_in in
          λ i. p i && (q i && (few i && place i))

  -- the tables that are held after one more: the last v, and it
  held_more : (h : List (List Float)) (f : List Float) (held next : ℕ) (m a : List Float) → Kept h held next m a → length f ≡ cell_count n
      → (t : Bool) → ltb held (suc v) ≡ t
      → ring (cell_count n) (suc v) (stored (cell_count n) m next f) (cond t (held + 1) held) (after (suc v) next) ≡ last_of (suc v) (h ++ (f ∷ []))
  held_more h f held next m a k long t e = held_by t e ∙ sym (last_more v h f)
    where
      fits : next * (cell_count n) + cell_count n ≤ length m
      fits = omega (arith, k.memory_long, place_in (cell_count n) (suc v) next k.next_in)

      one_more : (j : ℕ) → j < suc v
          → ring (cell_count n) (suc v) (stored (cell_count n) m next f) (suc j) (after (suc v) next) ≡ ring (cell_count n) (suc v) m j next ++ (f ∷ [])
      one_more j l = ring_more (cell_count n) (suc v) m next f long fits k.next_in j l

      held_by : (t : Bool) → ltb held (suc v) ≡ t
          → ring (cell_count n) (suc v) (stored (cell_count n) m next f) (cond t (held + 1) held) (after (suc v) next) ≡ last_of v h ++ (f ∷ [])
      held_by true e =
          ap (λ (j : ℕ). ring (cell_count n) (suc v) (stored (cell_count n) m next f) j (after (suc v) next)) (add-one held)
          ∙ one_more held (ltb-true held (suc v) e)
          ∙ ap (λ (l : List (List Float)). l ++ (f ∷ [])) (k.tables ∙ last_short v h (omega (arith, k.held_is, ltb-true held (suc v) e)))
      held_by false e =
          let full : held ≡ suc v = omega (arith, k.held_is, ltb-false held (suc v) e) in
          let many : suc v ≤ length h = omega (arith, k.held_is, ltb-false held (suc v) e) in
          ap (λ (j : ℕ). ring (cell_count n) (suc v) (stored (cell_count n) m next f) j (after (suc v) next)) full
          ∙ one_more v (omega arith)
          ∙ ap (λ (l : List (List Float)). l ++ (f ∷ []))
          (sym (ring_rest (cell_count n) (suc v) m v next)
          ∙ ap (λ (j : ℕ). drop 1 (ring (cell_count n) (suc v) m j next)) (sym full)
          ∙ ap (drop 1) k.tables
          ∙ last_rest v h many)

  count_more : (h : List (List Float)) (f : List Float) (held : ℕ) → held ≡ min (suc v) (length h) → (t : Bool) → ltb held (suc v) ≡ t
      → cond t (held + 1) held ≡ min (suc v) (length (h ++ (f ∷ [])))
  count_more h f held e true q = omega (arith, length-append h (f ∷ []), ltb-true held (suc v) q)
  count_more h f held e false q = omega (arith, length-append h (f ∷ []), ltb-false held (suc v) q)

  abbrev held' : ℕ → ℕ
  held' held = cond (ltb held (suc v)) (held + 1) held

  abbrev memory' : List Float → ℕ → List Float → List Float
  memory' m next f = stored (cell_count n) m next f

  -- a table that is taken
  kept_more : (h : List (List Float)) (held next : ℕ) (m a : List Float) → Kept h held next m a → (f : List Float) → length f ≡ cell_count n
      → Kept (h ++ (f ∷ [])) (held' held) (after (suc v) next) (memory' m next f)
      (answer_of (cell_count n) (ring (cell_count n) (suc v) (memory' m next f) (held' held) (after (suc v) next)))
  kept_more h held next m a k f long =
      let fits : next * (cell_count n) + cell_count n ≤ length m = omega (arith, k.memory_long, place_in (cell_count n) (suc v) next k.next_in) in
      let rung = held_more h f held next m a k long (ltb held (suc v)) refl in
      record {
        high = k.high;
        held_is = count_more h f held k.held_is (ltb held (suc v)) refl;
        next_in = after_in (suc v) next k.next_in;
        memory_long = stored_length (cell_count n) m next f long fits ∙ k.memory_long;
        tables = rung;
        answers = ap (λ (l : List (List Float)). answer_of (cell_count n) l) rung;
      }

  -- a state that has taken the tables h
  pub record Has (s : State) (h : List (List Float)) : Type 0 where
    pub held : ℕ
    pub next : ℕ
    pub memory : List Float
    pub answer : List Float
    pub is : s ≡ state held next memory answer
    pub kept : Kept h held next memory answer

  -- one push: where there is no fault it takes the table, and otherwise it changes nothing
  push_step : (t : Table) (h : List (List Float)) (held next : ℕ) (m a : List Float) → Kept h held next m a → (b : Bool) → eqb (own_fault n t) 0 ≡ b
      → Has (push (state held next m a) t) (cond b (h ++ (t.figures ∷ [])) h)
  unfolding push
  push_step t h held next m a k true e =
      let ok = kept_fault h held next m a k t ∙ eqb-true (own_fault n t) 0 e in
      let long = (taken (window_of (suc v) n held next) (length m) (length a) t ok).lengths.table_long in
      record {
        held = _;
        next = _;
        memory = _;
        answer = _;
        is = ap (λ (b : Bool). cond b (pushed (state held next m a) t) (state held next m a)) (eq-eqb _ 0 ok);
        kept = kept_more h held next m a k t.figures long;
      }
  push_step t h held next m a k false e =
      let same = ap (λ (n : ℕ). eqb n 0) (kept_fault h held next m a k t) in
      record {
        held = held;
        next = next;
        memory = m;
        answer = a;
        is = ap (λ (b : Bool). cond b (pushed (state held next m a) t) (state held next m a)) (same ∙ e);
        kept = k;
      }

  -- the tables behind h
  cond_append : (b : Bool) (h l : List (List Float)) (f : List Float) → cond b (h ++ (f ∷ [])) h ++ l ≡ h ++ cond b (f ∷ l) l
  cond_append true h l f = append_assoc h (f ∷ []) l
  cond_append false h l f = refl

  kept_run : (ts : List Table) (s : State) (h : List (List Float)) → Has s h → Has (run s ts) (h ++ accepted n ts)
  unfolding run accepted
  kept_run [] s h k = subst (λ (l : List (List Float)). Has s l) (sym (append-nil h)) k
  kept_run (t ∷ ts) s h k =
      let b = eqb (own_fault n t) 0 in
      let one = push_step t h k.held k.next k.memory k.answer k.kept b refl in
      let here = subst (λ (q : State). Has (push q t) (cond b (h ++ (t.figures ∷ [])) h)) (sym k.is) one in
      subst (λ (l : List (List Float)). Has (run (push s t) ts) l) (cond_append b h (accepted n ts) t.figures) (kept_run ts (push s t) _ here)

  -- the window that an opening leaves has taken none
  kept_none : (memory answer : ℕ) → suc v ≤ 16 → memory ≡ suc v * (cell_count n) → answer ≡ cell_count n
      → Kept [] 0 0 (replicate memory +0) (replicate answer +0)
  unfolding ring
  kept_none memory answer high m a = record {
    high = high;
    held_is = omega arith;
    next_in = omega arith;
    memory_long = length-replicate memory +0 ∙ m;
    tables = sym (drop-nil (0 - suc v));
    answers =
        ap (λ (n : ℕ). replicate n +0) a
        ∙ sym (raised_by_none (replicate (cell_count n) +0))
        ∙ ap (λ (l : List (List Float)). answer_of (cell_count n) l) (sym (drop-nil (0 - suc v)));
  }

-- ---- the law of runs

-- after any run from an opening that is not refused
opened_run : (v : ℕ) (n : Cells) (memory answer : ℕ) → open_fault (suc v) n memory answer ≡ 0 → (ts : List Table)
    → Has v n (run (opened (suc v) n memory answer) ts) (accepted n ts)
unfolding opened
opened_run v n memory answer e ts =
    let o = open_told (suc v) n memory answer e in
    kept_run v n ts (opened (suc v) n memory answer) [] (record {
      held = 0;
      next = 0;
      memory = replicate memory +0;
      answer = replicate answer +0;
      is = ap (λ (b : Bool). state_of (cond b (window_of (suc v) n 0 0) shut) (replicate memory +0) (replicate answer +0)) (eq-eqb _ 0 e);
      kept = kept_none v n memory answer o.width.high o.memory_long o.answer_long;
    })

-- w = 0 is refused
no_width : (n : Cells) (memory answer : ℕ) → open_fault 0 n memory answer ≡ 0 → ⊥
no_width n memory answer e = let o = open_told 0 n memory answer e in omega (arith, o.width.low)

-- THE LAW: the answer after a run is that of the last w accepted tables
pub runs : (w : ℕ) (n : Cells) (memory answer : ℕ) → open_fault w n memory answer ≡ 0 → (ts : List Table)
    → (run (opened w n memory answer) ts).answer ≡ last_answer w n ts
runs zero n memory answer e ts = absurd (no_width n memory answer e)
runs (suc v) n memory answer e ts =
    let h = opened_run v n memory answer e ts in
    ap (λ (s : State). s.answer) h.is ∙ h.kept.answers

-- and the fault of the next push is the table's own
pub runs_fault : (w : ℕ) (n : Cells) (memory answer : ℕ) → open_fault w n memory answer ≡ 0 → (ts : List Table) (t : Table)
    → push_fault (run (opened w n memory answer) ts) t ≡ own_fault n t
runs_fault zero n memory answer e ts t = absurd (no_width n memory answer e)
runs_fault (suc v) n memory answer e ts t =
    let h = opened_run v n memory answer e ts in
    ap (λ (s : State). push_fault s t) h.is ∙ kept_fault v n (accepted n ts) h.held h.next h.memory h.answer h.kept t

-- ---- after a refused opening every push is refused

shut_fault : (m a : List Float) (t : Table) → eqb (push_fault (state_of shut m a) t) 0 ≡ false
unfolding fault_of
shut_fault m a t = by_cells (cells_fault t.cells) refl
  where
    by_cells : (k : ℕ) → cells_fault t.cells ≡ k → eqb (k then 26) 0 ≡ false
    by_cells zero e = refl
    by_cells (suc k) e = ne_eqb (suc k then 26) 0 (λ (z : (suc k then 26) ≡ 0). omega (arith, (then_zero (suc k) 26 z).0))

shut_run : (ts : List Table) (m a : List Float) → run (state_of shut m a) ts ≡ state_of shut m a
unfolding run
shut_run [] m a = refl
shut_run (t ∷ ts) m a =
    let s = state_of shut m a in
    ap (λ (b : Bool). run (cond b (pushed s t) s) ts) (shut_fault m a t) ∙ shut_run ts m a

-- so it leaves the zeros that it was handed
pub runs_refused : (w : ℕ) (n : Cells) (memory answer : ℕ) → (open_fault w n memory answer ≡ 0 → ⊥) → (ts : List Table)
    → run (opened w n memory answer) ts ≡ state_of shut (replicate memory +0) (replicate answer +0)
unfolding opened
runs_refused w n memory answer ne ts =
    ap (λ (b : Bool). run (state_of (cond b (window_of w n 0 0) shut) (replicate memory +0) (replicate answer +0)) ts) (ne_eqb _ 0 ne)
    ∙ shut_run ts (replicate memory +0) (replicate answer +0)
