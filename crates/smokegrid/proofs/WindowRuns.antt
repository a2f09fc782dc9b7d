-- The law of runs through the C interface: an opening that answers 0, and then pushes, each handed the arrays that the one before left.
-- What is left is what `OpensWindow` and `PushesTable` say. Assumes nothing.
use Rattle.std.specs.Prelude.{◌≡◌, refl, Bool, true, false, cond, ◌&&◌, List, [], ◌∷◌, ℕ, eqb, length, replicate, Float}
use Rattle.std.proofs.Common.{ap, ◌∙◌, eq-eqb}
use Rattle.medium.specs.Record.{cells_of}
use Rattle.refusals.specs.Faults.{◌then◌, unless}
use Rattle.refusals.specs.FaultLaws.{then_zero}
use Rattle.float.specs.Zero.{+0}
use Rattle.window.specs.Window.{Table, State, push_fault, pushed, push, open_fault, opened}
use Rattle.window.specs.Runs.{run, last_answer}
use Rattle.window.proofs.Runs.{runs}
use Rattle.smokegrid.specs.FlatTables.{WindowArrays, window_arrays, arrays_of, table_from, size_fault, open_flat, opened_flat, push_flat, pushed_flat}

-- what one push is handed
pub record Handed : Type 0 where
  pub numbers : List ℕ
  pub figures : List Float

-- what a run of pushes leaves
unfoldable pub run_flat : WindowArrays → List Handed → WindowArrays
unfolding pushed_flat
run_flat a [] = a
run_flat a (p ∷ ps) = run_flat (pushed_flat a p.numbers p.figures) ps

-- the tables of those with three numbers; the others are refused by 18
unfoldable pub tables_in : List Handed → List Table
tables_in [] = []
tables_in (p ∷ ps) = cond (eqb (length p.numbers) 3) (table_from p.numbers p.figures ∷ tables_in ps) (tables_in ps)

-- one push, by whether it has three numbers
one_push : (s : State) (numbers : List ℕ) (figures : List Float) (b : Bool) → eqb (length numbers) 3 ≡ b
    → pushed_flat (arrays_of s) numbers figures ≡ cond b (arrays_of (push s (table_from numbers figures))) (arrays_of s)
unfolding pushed_flat push_flat push
one_push s numbers figures true e =
    let t = table_from numbers figures in
    let own = push_fault s t in
    ap (λ (b : Bool). cond (eqb (unless (b && true) 18 then own) 0) (arrays_of (push s t)) (arrays_of s)) e ∙ by_fault_lem (eqb own 0)
  where
    by_fault_lem : (b : Bool) → cond b (arrays_of (cond b (pushed s (table_from numbers figures)) s)) (arrays_of s)
        ≡ arrays_of (cond b (pushed s (table_from numbers figures)) s)
    by_fault_lem true = refl
    by_fault_lem false = refl
one_push s numbers figures false e =
    let t = table_from numbers figures in
    ap (λ (b : Bool). cond (eqb (unless (b && true) 18 then push_fault s t) 0) (arrays_of (push s t)) (arrays_of s)) e

flat_run : (ps : List Handed) (s : State) → run_flat (arrays_of s) ps ≡ arrays_of (run s (tables_in ps))
unfolding run_flat tables_in run
flat_run [] s = refl
flat_run (p ∷ ps) s = ap (λ (a : WindowArrays). run_flat a ps) (one_push s p.numbers p.figures three refl) ∙ by_size (λ q. flat_run ps q) three
  where
    three : Bool
    three = eqb (length p.numbers) 3

    by_size : ((q : State) → run_flat (arrays_of q) ps ≡ arrays_of (run q (tables_in ps))) → (b : Bool)
        → run_flat (cond b (arrays_of (push s (table_from p.numbers p.figures))) (arrays_of s)) ps
        ≡ arrays_of (run s (cond b (table_from p.numbers p.figures ∷ tables_in ps) (tables_in ps)))
    by_size ih true = ih (push s (table_from p.numbers p.figures))
    by_size ih false = ih s

-- the answer is that of the last w accepted tables
pub runs_c : (w : ℕ) (numbers : List ℕ) (window memory answer : ℕ) → open_flat w numbers window memory answer ≡ 0 → (ps : List Handed)
    → (run_flat (opened_flat w numbers window memory answer) ps).answer ≡ last_answer w (cells_of numbers) (tables_in ps)
unfolding open_flat opened_flat
runs_c w numbers window memory answer e ps =
    let n = cells_of numbers in
    let zeros = window_arrays (replicate window 0) (replicate memory +0) (replicate answer +0) in
    let own = (then_zero (size_fault numbers window) (open_fault w n memory answer) e).1 in
    let left = ap (λ (b : Bool). cond b (arrays_of (opened w n memory answer)) zeros) (eq-eqb (open_flat w numbers window memory answer) 0 e) in
    ap (λ (a : WindowArrays). (run_flat a ps).answer) left
    ∙ ap (λ (a : WindowArrays). a.answer) (flat_run ps (opened w n memory answer))
    ∙ runs w n memory answer own (tables_in ps)
