-- Rays over what the contracts of the C interface say, proved. Assumes nothing.
use Rattle.std.specs.Prelude.{ℕ, zero, suc, ◌&&◌, ◌≡◌, refl, List, eqb, ℤ, pos, length, replicate, Float}
use Rattle.std.proofs.Common.{sym, ap, subst, ◌∙◌}
use Rattle.refusals.specs.Results.{Result, ok, refused, number_of}
use Rattle.refusals.specs.Faults.{◌then◌, unless}
use Rattle.cells.specs.Cells.{table_fault}
use Rattle.medium.specs.Medium.{Medium, each, bounds_fault}
use Rattle.rays.specs.Ray.{State, Step, piece, over, next}
use Rattle.rays.specs.Open.{Beam, beam_fault, start_of, open_ray}
use Rattle.rays.specs.Run.{calls, most}
use Rattle.rays.specs.Run as Run
use Rattle.rays.proofs.Theorems.{none_after, never_refused}
use Rattle.smokegrid.specs.Flat.{medium_from}
use Rattle.smokegrid.specs.FlatRay.{ray_state_from, times_of, words_of, ray_open_flat, next_flat, times_opened, numbers_opened, state_after, more_of, piece_in}
use Rattle.smokegrid.specs.Promises.{OpensRay, RayLeft, NextPiece}
use Rattle.smokegrid_claim.specs.RaysThroughC.{Called, Answered, RayKept, RaysThroughC}
use Rattle.smokegrid_claim.proofs.Passed.{passed}

-- ---- one call

-- what is left in the arrays, whatever the call gave
times_left : (s : State) (r : Result Step) → times_opened 8 (state_after s r) ≡ times_of (Run.left s r)
times_left s (ok (piece p s')) = refl
times_left s (ok over) = refl
times_left s (refused k) = refl

words_left : (s : State) (r : Result Step) → numbers_opened 9 (state_after s r) ≡ words_of (Run.left s r)
words_left s (ok (piece p s')) = refl
words_left s (ok over) = refl
words_left s (refused k) = refl

-- the arrays of a state are read back as it was
same_next : (s : State) (table : List Float) → next_flat (times_of s) (words_of s) table ≡ next s table
unfolding next_flat
same_next s table = refl

module _ (table : List Float) (s : State) {number : ℕ} {left : RayLeft} (N : NextPiece table (times_of s) (words_of s) number left) where
  times_go : left.times ≡ times_of (Run.left s (next s table))
  times_go = N.times_are ∙ ap (λ (r : Result Step). times_opened 8 (state_after s r)) (same_next s table) ∙ times_left s (next s table)

  words_go : left.numbers ≡ words_of (Run.left s (next s table))
  words_go = N.numbers_are ∙ ap (λ (r : Result Step). numbers_opened 9 (state_after s r)) (same_next s table) ∙ words_left s (next s table)

-- ---- a row of calls

-- the arrays t and n hold the state s
record Holds (s : State) (t : List Float) (n : List ℤ) : Type 0 where
  times : t ≡ times_of s
  words : n ≡ words_of s

held : {table : List Float} {s : State} {t : List Float} {n : List ℤ} {number : ℕ} {left : RayLeft} → Holds s t n
    → NextPiece table t n number left → NextPiece table (times_of s) (words_of s) number left
held {table} {s} {t} {n} {number} {left} h N = subst (λ (X : Type 0). X) (λ i. NextPiece table (h.times i) (h.words i) number left) N

holds_after : (table : List Float) (i : ℕ) (s : State) (t : List Float) (n : List ℤ) → Holds s t n
    → (t' : List Float) (n' : List ℤ) → Called table i t n t' n' → Holds (calls i s table) t' n'
unfolding calls
holds_after table zero s t n h t' n' (p, q) = record { times = p ∙ h.times; words = q ∙ h.words }
holds_after table (suc i) s t n h t' n' (number, left, N, rest) =
    let M = held h N in
    holds_after table i (Run.left s (next s table)) left.times left.numbers (record { times = times_go table s M; words = words_go table s M }) t' n' rest

-- ---- the theorem

answered : (m : Medium) (b : Beam) (table : List Float) (s : State) → open_ray m b (length table) ≡ ok s → (i : ℕ)
    → (number : ℕ) (left : RayLeft) → NextPiece table (times_of (calls i s table)) (words_of (calls i s table)) number left
    → Answered table s (most m.cells) i number left
answered m b table s e i number left N =
    let same = same_next (calls i s table) table in
    record {
      number_is = N.number_is ∙ ap number_of same ∙ never_refused m b table s e i;
      more_is = N.more_is ∙ ap more_of same;
      t0_is = N.t0_is ∙ ap (λ (r : Result Step). (piece_in r).from) same;
      t1_is = N.t1_is ∙ ap (λ (r : Result Step). (piece_in r).to) same;
      figure_is = N.figure_is ∙ ap (λ (r : Result Step). (piece_in r).figure) same;
      none_after = λ h. N.more_is ∙ ap more_of (same ∙ none_after m b table s e i h);
    }

-- an opening that answers 0 gave a state
opened_is : (m : Medium) (b : Beam) (places : ℕ) → number_of (open_ray m b places) ≡ 0 → open_ray m b places ≡ ok (start_of m b)
unfolding open_ray
opened_is m b places z = passed (table_fault m.cells places then each (bounds_fault m) then beam_fault b) (ok (start_of m b)) z

flat_opened : (medium : List Float) (cells : List ℕ) (b : Beam) (places times numbers : ℕ) → number_of (ray_open_flat medium cells b places times numbers) ≡ 0
    → ray_open_flat medium cells b places times numbers ≡ open_ray (medium_from medium (replicate 6 (pos 0)) cells) b places
unfolding ray_open_flat
flat_opened medium cells b places times numbers z =
    passed (unless (eqb (length medium) 18 && eqb (length cells) 3 && eqb times 8 && eqb numbers 9) 18)
    (open_ray (medium_from medium (replicate 6 (pos 0)) cells) b places) z

pub rays_through_c : RaysThroughC
rays_through_c medium cells b table times numbers t n O =
    let m = medium_from medium (replicate 6 (pos 0)) cells in
    let flat = flat_opened medium cells b (length table) times numbers (sym O.number_is) in
    let s = start_of m b in
    let e : open_ray m b (length table) ≡ ok s = opened_is m b (length table) (sym (ap number_of flat) ∙ sym O.number_is) in
    let start : Holds s t n =
    record {
      times = O.times_are ∙ ap (times_opened times) (flat ∙ e);
      words = O.numbers_are ∙ ap (numbers_opened numbers) (flat ∙ e);
    } in
    let after : (i : ℕ) (t' : List Float) (n' : List ℤ) → Called table i t n t' n' → Holds (calls i s table) t' n' = λ i t' n' C.
    holds_after table i s t n start t' n' C in
    record {
      opened = s;
      is = e;
      states = λ i t' n' C. let h = after i t' n' C in λ k. ray_state_from (h.times k) (h.words k);
      answers = λ i t' n' C number left N. answered m b table s e i number left (held (after i t' n' C) N);
    }
