-- The loop of a trace: after i pieces those stand in the tables, and the rest comes from the state that is left. Assumes nothing.
use Rattle.std.proofs.Common.{◌≡◌, ℕ, suc, ◌+◌, ◌-◌, ◌<◌, ◌≤◌, Bool, true, false, ◌&&◌, leb, ◌⊎◌, List, [], ◌∷◌, ◌++◌, length, set, replicate}
use Rattle.std.proofs.Common.{sym, refl, ap, ◌∙◌, subst, inl, inr, append_assoc, append-nil, arith, length-append, le-leb}
use lib.ListN.{length-replicate}
use lib.Ieee.{Float}
use borrow.Author.Tests.{lt-leb}
use Rattle.refusals.specs.Results.{Result, ok, refused, number_of, bind, need}
use Rattle.float.specs.Zero.{+0}
use Rattle.lent.specs.Padded.{padded}
use Rattle.lent.proofs.PaddedLaws.{padded_none, padded_length, padded_push}
use Rattle.medium.specs.Medium.{Medium}
use Rattle.rays.specs.Open.{Beam, open_ray}
use Rattle.rays.specs.Ray.{State, Piece, Step, piece, next}
use Rattle.rays.specs.Run.{follow, pieces, most}
use Rattle.rays.specs.Trace.{fitted, traced, ends_of, figures_of, Written}
use Rattle.rays.specs.Followed.{Followed}

-- ---- the columns of a list of pieces

ends_length : (l : List Piece) → length (ends_of l) ≡ length l
unfolding ends_of
ends_length [] = refl
ends_length (p ∷ l) = ap suc (ends_length l)

figures_length : (l : List Piece) → length (figures_of l) ≡ length l
unfolding figures_of
figures_length [] = refl
figures_length (p ∷ l) = ap suc (figures_length l)

ends_push : (l : List Piece) (p : Piece) → ends_of l ++ (p.to ∷ []) ≡ ends_of (l ++ (p ∷ []))
unfolding ends_of
ends_push [] p = refl
ends_push (q ∷ l) p = ap (λ (t : List Float). q.to ∷ t) (ends_push l p)

figures_push : (l : List Piece) (p : Piece) → figures_of l ++ (p.figure ∷ []) ≡ figures_of (l ++ (p ∷ []))
unfolding figures_of
figures_push [] p = refl
figures_push (q ∷ l) p = ap (λ (t : List Float). q.figure ∷ t) (figures_push l p)

-- a column one longer
pushed : (t : List Float) (n i : ℕ) (l : List Float) (v : Float) → t ≡ padded n +0 l → length l ≡ i → i < n → set t i v ≡ padded n +0 (l ++ (v ∷ []))
pushed t n i l v e q h =
    ap (λ (x : List Float). set x i v) e ∙ ap (λ (k : ℕ). set (padded n +0 l) k v) (sym q) ∙ padded_push n +0 l v (omega arith)

and_false : (b : Bool) → (b && false) ≡ false
and_false true = refl
and_false false = refl

-- ---- what a call for the next piece tells

-- no piece: none is left
pub none_left : (n : ℕ) (s : State) (table : List Float) (r : Result Step) → r ≡ next s table → follow r (λ s'. pieces n s' table) ≡ []
    → pieces (suc n) s table ≡ []
unfolding pieces
none_left n s table r e h = ap (λ (q : Result Step). follow q (λ s'. pieces n s' table)) (sym e) ∙ h

pieces_more : (n : ℕ) (s : State) (table : List Float) (p : Piece) (s' : State) → next s table ≡ ok (piece p s')
    → pieces (suc n) s table ≡ p ∷ pieces n s' table
unfolding pieces
pieces_more n s table p s' e = ap (λ (r : Result Step). follow r (λ t. pieces n t table)) e

pub pieces_zero : (s : State) (table : List Float) → pieces 0 s table ≡ []
unfolding pieces
pieces_zero s table = refl

-- ---- after i pieces

pub record Going (most : ℕ) (table : List Float) (first s : State) (e f i : ℕ) (ends figures : List Float) : Type 0 where
  pub done : List Piece
  pub passed : length done ≡ i
  pub within : i ≤ most
  pub all : pieces most first table ≡ done ++ pieces (most - i) s table
  pub ended : ends ≡ padded e +0 (ends_of done)
  pub figured : figures ≡ padded f +0 (figures_of done)
  pub ends_room : i ≤ e
  pub figures_room : i ≤ f

pub begin : (most : ℕ) (table : List Float) (s : State) (ends figures : List Float)
    → ends ≡ replicate (length ends) +0 → figures ≡ replicate (length figures) +0 → Going most table s s (length ends) (length figures) 0 ends figures
unfolding ends_of figures_of
begin most table s ends figures p q = record {
  done = [];
  passed = refl;
  within = omega arith;
  all = ap (λ (k : ℕ). pieces k s table) (omega arith);
  ended = p ∙ sym (padded_none (length ends) +0);
  figured = q ∙ sym (padded_none (length figures) +0);
  ends_room = omega arith;
  figures_room = omega arith;
}

module _ (most : ℕ) (table : List Float) (first s : State) (e f i : ℕ) (ends figures : List Float) (g : Going most table first s e f i ends figures) where
  pub ends_kept : length ends ≡ e
  ends_kept = ap length g.ended ∙ padded_length e +0 (ends_of g.done) (omega (arith, ends_length g.done, g.passed, g.ends_room))

  pub figures_kept : length figures ≡ f
  figures_kept = ap length g.figured ∙ padded_length f +0 (figures_of g.done) (omega (arith, figures_length g.done, g.passed, g.figures_room))

  module _ {p : Piece} {s' : State} (stepped : ok (piece p s') ≡ next s table) (l : i < most) where
    more : pieces most first table ≡ g.done ++ (p ∷ pieces (most - (i + 1)) s' table)
    more =
        g.all ∙ ap (λ (k : ℕ). g.done ++ pieces k s table) (omega arith)
        ∙ ap (λ (t : List Piece). g.done ++ t) (pieces_more (most - (i + 1)) s table p s' (sym stepped))

    pub go_on : i < e → i < f → Going most table first s' e f (i + 1) (set ends i p.to) (set figures i p.figure)
    go_on le lf = record {
      done = g.done ++ (p ∷ []);
      passed = length-append g.done (p ∷ []) ∙ ap (λ (k : ℕ). k + 1) g.passed;
      within = omega arith;
      all = more ∙ sym (append_assoc g.done (p ∷ []) (pieces (most - (i + 1)) s' table));
      ended = pushed ends e i (ends_of g.done) p.to g.ended (ends_length g.done ∙ g.passed) le ∙ ap (padded e +0) (ends_push g.done p);
      figured = pushed figures f i (figures_of g.done) p.figure g.figured (figures_length g.done ∙ g.passed) lf
          ∙ ap (padded f +0) (figures_push g.done p);
      ends_room = omega arith;
      figures_room = omega arith;
    }

    -- a table is full
    pub full : (e ≤ i) ⊎ (f ≤ i) → Followed (pieces most first table) e f 9 0 ends figures
    full out = record {
      number = sym (ap (λ (b : Bool). number_of (need b 9 (ok (pieces most first table)))) (too_long (length (pieces most first table)) longer out));
      counted = λ z. absurd (omega arith);
      written = λ z. absurd (omega arith);
      figured = λ z. absurd (omega arith);
    }
      where
        longer : i < length (pieces most first table)
        longer =
            let rest = pieces (most - (i + 1)) s' table in
            omega (arith, ap length more, length-append g.done (p ∷ rest), g.passed)

        too_long : (k : ℕ) → i < k → (e ≤ i) ⊎ (f ≤ i) → (leb k e && leb k f) ≡ false
        too_long k b (inl x) = ap (λ (t : Bool). t && leb k f) (lt-leb k e (omega arith))
        too_long k b (inr x) = ap (λ (t : Bool). leb k e && t) (lt-leb k f (omega arith)) ∙ and_false (leb k e)

  -- no piece is left
  pub stop : pieces (most - i) s table ≡ [] → Followed (pieces most first table) e f 0 i ends figures
  stop n =
      let whole : pieces most first table ≡ g.done = g.all ∙ ap (λ (t : List Piece). g.done ++ t) n ∙ append-nil g.done in
      subst (λ (l : List Piece). Followed l e f 0 i ends figures) (sym whole)
      (record {
        number = sym (λ j. number_of (need (in_e j && in_f j) 9 (ok g.done)));
        counted = λ _. sym g.passed;
        written = λ _. g.ended;
        figured = λ _. g.figured;
      })
    where
      in_e : leb (length g.done) e ≡ true
      in_e = le-leb (length g.done) e (omega (arith, g.passed, g.ends_room))

      in_f : leb (length g.done) f ≡ true
      in_f = le-leb (length g.done) f (omega (arith, g.passed, g.figures_room))

-- ---- what a trace leaves

pub zeros_length : (t : List Float) (n : ℕ) → t ≡ replicate n +0 → length t ≡ n
zeros_length t n e = ap length e ∙ length-replicate n +0

pub zeros : (t : List Float) (n : ℕ) → t ≡ replicate n +0 → t ≡ replicate (length t) +0
zeros t n e = e ∙ ap (λ (k : ℕ). replicate k +0) (sym (zeros_length t n e))

-- a table that is cleared once more
pub zeros_again : (z t s : List Float) (n : ℕ) → z ≡ replicate (length t) +0 → length t ≡ length s → s ≡ replicate n +0 → z ≡ replicate n +0
zeros_again z t s n e l f = e ∙ ap (λ (k : ℕ). replicate k +0) (l ∙ zeros_length s n f)

pub followed_same : {l l' : List Piece} {e e' f f' n k : ℕ} {ends figures : List Float} → l ≡ l' → e ≡ e' → f ≡ f'
    → Followed l e f n k ends figures → Followed l' e' f' n k ends figures
followed_same {l' = l'} {e = e} {e' = e'} {f = f} {n = n} {k = k} {ends = x} {figures = y} p q r w =
    subst (λ (j : ℕ). Followed l' e' j n k x y) r (subst (λ (j : ℕ). Followed l' j f n k x y) q (subst (λ (t : List Piece). Followed t e f n k x y) p w))

-- nothing but zeros
module _ (e f : ℕ) {ends figures : List Float} (p : ends ≡ replicate e +0) (q : figures ≡ replicate f +0) where
  none_written : (n j : ℕ) → j ≡ n → Written (refused n) e f j 0 ends figures
  unfolding ends_of figures_of
  none_written n j h = record { number = h; counted = refl; written = p ∙ sym (padded_none e +0); figured = q ∙ sym (padded_none f +0) }

  -- the ray was not opened
  pub refused_written : (r : Result State) (k : State → Result (List Piece)) {n : ℕ} → n ≡ number_of r → (n ≡ 0 → ⊥) → Written (bind r k) e f n 0 ends figures
  refused_written (ok s) k h ne = absurd (ne h)
  refused_written (refused n) k {n = j} h ne = none_written n j h

  -- a table was full
  pub full_written : (l : List Piece) {n k : ℕ} {x y : List Float} → Followed l e f n k x y → (n ≡ 0 → ⊥) → Written (fitted l e f) e f n 0 ends figures
  full_written l {n} w ne = go (leb (length l) e && leb (length l) f) w.number
    where
      go : (b : Bool) → n ≡ number_of (need b 9 (ok l)) → Written (need b 9 (ok l)) e f n 0 ends figures
      go true h = absurd (ne h)
      go false h = none_written 9 n h

pub all_written : (l : List Piece) (e f : ℕ) {n k : ℕ} {x y : List Float} → Followed l e f n k x y → n ≡ 0 → Written (fitted l e f) e f n k x y
all_written l e f {n} {k} {x} {y} w z = go (leb (length l) e && leb (length l) f) w.number
  where
    go : (b : Bool) → n ≡ number_of (need b 9 (ok l)) → Written (need b 9 (ok l)) e f n k x y
    go true h = record { number = h; counted = w.counted z; written = w.written z; figured = w.figured z }
    go false h = absurd (omega arith)

pub written_same : {o o' : Result (List Piece)} {e f n k : ℕ} {x y : List Float} → o ≡ o' → Written o' e f n k x y → Written o e f n k x y
written_same {e = e} {f = f} {n = n} {k = k} {x = x} {y = y} q w = subst (λ (r : Result (List Piece)). Written r e f n k x y) (sym q) w

-- of an opened ray
pub traced_opened : (m : Medium) (b : Beam) (table : List Float) (e f : ℕ) (s : State) → open_ray m b (length table) ≡ ok s
    → traced m b table e f ≡ fitted (pieces (most m.cells) s table) e f
unfolding traced
traced_opened m b table e f s q = ap (λ (r : Result State). bind r (λ (t : State). fitted (pieces (most m.cells) t table) e f)) q
