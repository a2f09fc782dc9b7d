-- What an answer is, said without the order of the tables: in each cell it is the greatest of +0 and the figures there. Assumes nothing.
use Rattle.std.specs.Prelude.{◌≡◌, refl, Bool, true, false, cond, ◌⊎◌, List, [], ◌∷◌, ℕ, zero, suc, ◌+◌, ◌-◌, ◌<◌, eqb, length, drop, get_or, replicate, Float}
use Rattle.std.proofs.Common.{sym, ap, ◌∙◌, subst, inl, inr, not-suc-le-zero, le_of_suc-le-suc, arith, eqb→eq, length-drop, get_or-drop, eqb-true}
use Rattle.std.proofs.lemmas.List.{get_or-replicate, length-replicate}
use Rattle.std.specs.Float.Ieee.{lt}
use Rattle.refusals.specs.Faults.{◌then◌, unless}
use Rattle.refusals.specs.FaultLaws.{then_zero, unless_zero}
use Rattle.float.specs.Zero.{+0}
use Rattle.float.proofs.Ordered.{number_l, not_lt_through, lt_le, lt_turned, same_not_lt, lt_through}
use Rattle.cells.specs.Cells.{Cells, cells_fault, cell_count}
use Rattle.figures.specs.Figures.{greater, figures_fault}
use Rattle.window.specs.Tables.{raised, raised_by, answer_of, last_of}
use Rattle.window.specs.Window.{Table, same_cells, open_fault, opened}
use Rattle.window.proofs.FaultLaws.{same_cells_lem}
use Rattle.window.specs.Runs.{run, own_fault, accepted}
use Rattle.window.proofs.Runs.{runs}
use Rattle.window.proofs.TableLaws.{raised_by_length}

-- the figure of cell i in table k
abbrev pub figure_of : List (List Float) → ℕ → ℕ → Float
figure_of ts k i = get_or (get_or ts k []) i +0

-- r is the greatest of +0 and the figures of cell i; where it is a zero it is +0
pub record Greatest (ts : List (List Float)) (i : ℕ) (r : Float) : Type 0 where
  pub covers : (k : ℕ) → k < length ts → lt r (figure_of ts k i) ≡ false
  pub reached : (r ≡ +0) ⊎ ((k : ℕ) × (k < length ts) × (figure_of ts k i ≡ r) × (lt +0 r ≡ true))

raised_at : (a t : List Float) (i : ℕ) → i < length a → i < length t → get_or (raised a t) i +0 ≡ greater (get_or a i +0) (get_or t i +0)
unfolding raised
raised_at [] t i h k = absurd (not-suc-le-zero h)
raised_at (x ∷ a) [] i h k = absurd (not-suc-le-zero k)
raised_at (x ∷ a) (v ∷ t) zero h k = refl
raised_at (x ∷ a) (v ∷ t) (suc i) h k = raised_at a t i (le_of_suc-le-suc h) (le_of_suc-le-suc k)

-- one table more
greatest_more : (ts : List (List Float)) (t : List Float) (i : ℕ) (a : Float) → Greatest ts i a → Greatest (t ∷ ts) i (greater a (get_or t i +0))
greatest_more ts t i a g = by_test (lt a b) refl
  where
    b : Float
    b = get_or t i +0

    above : lt a (get_or t i +0) ≡ true → lt +0 (get_or t i +0) ≡ true
    above e = elim g.reached [
      | inl z ↦ subst (λ (q : Float). lt q (get_or t i +0) ≡ true) z e
      | inr w ↦ lt_through +0 a (get_or t i +0) w.3 e
    ]

    by_test : (s : Bool) → lt a (get_or t i +0) ≡ s → Greatest (t ∷ ts) i (cond s (get_or t i +0) a)
    by_test true e = record { covers = cover; reached = inr (0, omega arith, refl, above e) }
      where
        cover : (k : ℕ) → k < length (t ∷ ts) → lt (get_or t i +0) (figure_of (t ∷ ts) k i) ≡ false
        cover zero h = same_not_lt (get_or t i +0)
        cover (suc k) h =
            not_lt_through (get_or t i +0) a (figure_of ts k i) (number_l a (get_or t i +0) (lt_le a (get_or t i +0) e)) (lt_turned a (get_or t i +0) e)
            (g.covers k (le_of_suc-le-suc h))
    by_test false e = record { covers = cover; reached = reach g.reached }
      where
        cover : (k : ℕ) → k < length (t ∷ ts) → lt a (figure_of (t ∷ ts) k i) ≡ false
        cover zero h = e
        cover (suc k) h = g.covers k (le_of_suc-le-suc h)

        reach : (a ≡ +0) ⊎ ((k : ℕ) × (k < length ts) × (figure_of ts k i ≡ a) × (lt +0 a ≡ true))
            → (a ≡ +0) ⊎ ((k : ℕ) × (k < length (t ∷ ts)) × (figure_of (t ∷ ts) k i ≡ a) × (lt +0 a ≡ true))
        reach (inl z) = inl z
        reach (inr w) = inr (suc w.0, omega (arith, w.1), w.2, w.3)

-- the answer of tables of n figures
pub answer_greatest : (n : ℕ) (ts : List (List Float)) → ((k : ℕ) → k < length ts → length (get_or ts k []) ≡ n) → (i : ℕ) → i < n
    → Greatest ts i (get_or (answer_of n ts) i +0)
unfolding raised_by
answer_greatest n [] long i h = record {
  covers = λ k l. absurd (not-suc-le-zero l);
  reached = inl (get_or-replicate n i +0 +0 h);
}
answer_greatest n (t ∷ ts) long i h =
    let a = answer_of n ts in
    let room : i < length a = omega (arith, raised_by_length (replicate n +0) ts, length-replicate n +0) in
    let place : i < length t = omega (arith, long 0 (omega arith)) in
    subst (λ (r : Float). Greatest (t ∷ ts) i r) (sym (raised_at a t i room place))
    (greatest_more ts t i (get_or a i +0) (answer_greatest n ts (λ k l. long (suc k) (omega arith)) i h))

-- ---- along a run

table_long : (n : Cells) (t : Table) → own_fault n t ≡ 0 → length t.figures ≡ cell_count n
unfolding own_fault
table_long n t e =
    let c = cell_count t.cells in
    let b = unless (same_cells t.cells n) 26 in
    let d = unless (eqb (length t.figures) c) 18 in
    let f = figures_fault t.figures in
    let p = then_zero b (d then f) (then_zero (cells_fault t.cells) (b then d then f) e).1 in
    let same = same_cells_lem t.cells n (unless_zero (same_cells t.cells n) 25 p.0) in
    eqb→eq (length t.figures) c (unless_zero (eqb (length t.figures) c) 17 (then_zero d f p.1).0) ∙ ap cell_count same

-- the tables that are accepted have as many figures as there are cells
accepted_long : (n : Cells) (ts : List Table) (k : ℕ) → k < length (accepted n ts) → length (get_or (accepted n ts) k []) ≡ cell_count n
unfolding accepted
accepted_long n [] k h = absurd (not-suc-le-zero h)
accepted_long n (t ∷ ts) k h = by_test (accepted_long n ts) (eqb (own_fault n t) 0) refl k h
  where
    by_test : ((k : ℕ) → k < length (accepted n ts) → length (get_or (accepted n ts) k []) ≡ cell_count n)
        → (b : Bool) → eqb (own_fault n t) 0 ≡ b
        → (k : ℕ) → k < length (cond b (t.figures ∷ accepted n ts) (accepted n ts))
        → length (get_or (cond b (t.figures ∷ accepted n ts) (accepted n ts)) k []) ≡ cell_count n
    by_test ih true e zero h = table_long n t (eqb-true (own_fault n t) 0 e)
    by_test ih true e (suc k) h = ih k (le_of_suc-le-suc h)
    by_test ih false e k h = ih k h

-- after any run from an opening, each cell's answer is the greatest of +0 and the figures there of the last w accepted tables
pub runs_greatest : (w : ℕ) (n : Cells) (memory answer : ℕ) → open_fault w n memory answer ≡ 0 → (ts : List Table) (i : ℕ) → i < cell_count n
    → Greatest (last_of w (accepted n ts)) i (get_or (run (opened w n memory answer) ts).answer i +0)
runs_greatest w n memory answer e ts i h =
    let l = accepted n ts in
    let j = length l - w in
    let long : (k : ℕ) → k < length (drop j l) → length (get_or (drop j l) k []) ≡ cell_count n =
    λ k b. ap length (get_or-drop j l k []) ∙ accepted_long n ts (j + k) (omega (arith, b, length-drop j l)) in
    let greatest = answer_greatest (cell_count n) (last_of w l) long i h in
    subst (λ (a : List Float). Greatest (last_of w l) i (get_or a i +0)) (sym (runs w n memory answer e ts)) greatest
