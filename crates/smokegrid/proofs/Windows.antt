-- What the functions on tables of cells leave, as C takes it. Assumes nothing.
use mathlib.Core.Path.{◌≡◌, refl, sym, ap, ◌∙◌}
use mathlib.Core.Bool.{Bool, true, false, cond, ◌&&◌}
use mathlib.Core.List.{List, []}
use Prim.Native.Nat.{ℕ}
use lib.Dec.{eqb, eqb→eq}
use lib.ListN.{length, replicate}
use lib.Ieee.{Float}
use borrow.Author.Tests.{eq-eqb, ne_eqb}
use Rattle.medium.specs.Record.{cells_of}
use Rattle.refusals.specs.Results.{Result, ok, refused, number_of, value_or}
use Rattle.refusals.specs.ResultLaws.{ok_injective, stopped}
use Rattle.refusals.specs.Faults.{◌then◌, unless, passing}
use Rattle.refusals.proofs.FaultSteps.{then_next}
use Rattle.refusals.specs.TestLaws.{and_l, and_r}
use Rattle.float.specs.Zero.{+0}
use Rattle.float.proofs.Tests.{yes}
use Rattle.lent.specs.Padded.{padded}
use Rattle.lent.proofs.PaddedLaws.{padded_none}
use Rattle.cells.specs.Cells.{Cells}
use Rattle.sheet.specs.Sheet.{sheet}
use Rattle.sheet.specs.Answers.{length_of}
use Rattle.window.specs.Window.{State, table_of, window_of, state_of, shut, push_fault, pushed, push, open_fault, opened}
use Rattle.window.specs.declared.Window.{Window}
use Rattle.smokegrid.specs.FlatTables.{print_flat, words_of, window_from, WindowArrays, window_arrays, arrays_of, state_from, table_from}
use Rattle.smokegrid.specs.FlatTables.{size_fault, open_flat, opened_flat, push_flat, pushed_flat}
use Rattle.smokegrid.specs.Promises.{PrintsLayer, OpensWindow, PushesTable}

-- ---- a layer

module _ {table : List Float} {numbers : List ℕ} {k room : ℕ} {text : List ℕ} where
  pub print_size : {number : ℕ} → (length numbers ≡ 3 → ⊥) → number ≡ 18 → text ≡ replicate room 0 → PrintsLayer table numbers k room number text 0
  unfolding print_flat
  print_size h n e =
      let a = ap (λ (t : Bool). passing (unless t 18) (sheet (cells_of numbers) k table room)) (ne_eqb (length numbers) 3 h) in
      record {
        number_is = n ∙ sym (ap number_of a);
        text_is = e ∙ sym (padded_none room 0) ∙ sym (ap (λ (s : Result (List ℕ)). padded room 0 (value_or [] s)) a);
        written_is = sym (ap (λ (s : Result (List ℕ)). length (value_or [] s)) a);
      }

  pub print_taken : {number written : ℕ} → length numbers ≡ 3 → number ≡ number_of (sheet (cells_of numbers) k table room)
      → text ≡ padded room 0 (value_or [] (sheet (cells_of numbers) k table room)) → written ≡ length (value_or [] (sheet (cells_of numbers) k table room))
      → PrintsLayer table numbers k room number text written
  unfolding print_flat
  print_taken long n t w =
      let a = sym (ap (λ (b : Bool). passing (unless b 18) (sheet (cells_of numbers) k table room)) (eq-eqb (length numbers) 3 long)) in
      record {
        number_is = n ∙ ap number_of a;
        text_is = t ∙ ap (λ (s : Result (List ℕ)). padded room 0 (value_or [] s)) a;
        written_is = w ∙ ap (λ (s : Result (List ℕ)). length (value_or [] s)) a;
      }

  -- what was written, and a layer that was refused
  module _ (long : length numbers ≡ 3) {n : Cells} (n-is : n ≡ cells_of numbers) where
    pub print_written : {length : ℕ} → ok length ≡ length_of (sheet n k table room) → text ≡ padded room 0 (value_or [] (sheet n k table room))
        → PrintsLayer table numbers k room 0 text length
    print_written e t =
        let (a, b) = written (sheet n k table room) e in
        print_taken long (a ∙ ap (λ (n : Cells). number_of (sheet n k table room)) n-is)
        (t ∙ ap (λ (n : Cells). padded room 0 (value_or [] (sheet n k table room))) n-is)
        (b ∙ ap (λ (n : Cells). length (value_or [] (sheet n k table room))) n-is)
      where
        written : {l : ℕ} (r : Result (List ℕ)) → ok l ≡ length_of r → (0 ≡ number_of r) × (l ≡ length (value_or [] r))
        written (ok text) e = (refl, ok_injective e)
        written (refused m) e = absurd (stopped (sym e))

    pub print_none : {m number : ℕ} → refused m ≡ length_of (sheet n k table room) → number ≡ m → text ≡ padded room 0 (value_or [] (sheet n k table room))
        → PrintsLayer table numbers k room number text 0
    print_none e is t =
        let (a, b) = none (sheet n k table room) e in
        print_taken long (is ∙ a ∙ ap (λ (n : Cells). number_of (sheet n k table room)) n-is)
        (t ∙ ap (λ (n : Cells). padded room 0 (value_or [] (sheet n k table room))) n-is)
        (b ∙ ap (λ (n : Cells). length (value_or [] (sheet n k table room))) n-is)
      where
        none : {m : ℕ} (r : Result (List ℕ)) → refused m ≡ length_of r → (m ≡ number_of r) × (0 ≡ length (value_or [] r))
        none (ok text) e = absurd (stopped e)
        none (refused m) e = (ap number_of e, refl)

-- ---- the test of the small arrays

abbrev pub sized : List ℕ → ℕ → Bool
sized numbers window = eqb (length numbers) 3 && eqb window 6

pub numbers_long : (numbers : List ℕ) (window : ℕ) → sized numbers window ≡ true → length numbers ≡ 3
numbers_long numbers window e = eqb→eq (length numbers) 3 (and_l (eqb (length numbers) 3) (eqb window 6) (yes e))

pub window_long : (numbers : List ℕ) (window : ℕ) → sized numbers window ≡ true → window ≡ 6
window_long numbers window e = eqb→eq window 6 (and_r (eqb (length numbers) 3) (eqb window 6) (yes e))

-- ---- an opening

abbrev zeros : ℕ → ℕ → ℕ → WindowArrays
zeros window memory answer = window_arrays (replicate window 0) (replicate memory +0) (replicate answer +0)

-- what it leaves, by its number
abbrev open_by : ℕ → List ℕ → ℕ → ℕ → ℕ → ℕ → WindowArrays
open_by w numbers window memory answer n = cond (eqb n 0) (arrays_of (opened w (cells_of numbers) memory answer)) (zeros window memory answer)

-- the window by a test, with zeros
abbrev open_if : ℕ → Cells → ℕ → ℕ → Bool → State
open_if w n memory answer b = state_of (cond b (window_of w n 0 0) shut) (replicate memory +0) (replicate answer +0)

if_open : (w : ℕ) (n : Cells) (memory answer : ℕ) (b : Bool)
    → arrays_of (open_if w n memory answer b) ≡ cond b (arrays_of (open_if w n memory answer b)) (zeros 6 memory answer)
if_open w n memory answer true = refl
if_open w n memory answer false = refl

opened_left : (w : ℕ) (numbers : List ℕ) (window memory answer : ℕ) → window ≡ 6
    → arrays_of (opened w (cells_of numbers) memory answer) ≡ open_by w numbers window memory answer (open_fault w (cells_of numbers) memory answer)
unfolding opened
opened_left w numbers window memory answer six =
    let b = eqb (open_fault w (cells_of numbers) memory answer) 0 in
    if_open w (cells_of numbers) memory answer b
    ∙ ap (λ (j : ℕ). cond b (arrays_of (open_if w (cells_of numbers) memory answer b)) (zeros j memory answer)) (sym six)

module _ {w : ℕ} {numbers : List ℕ} {window memory answer : ℕ} where
  pub open_size : {number : ℕ} {v : List ℕ} {m a : List Float} → sized numbers window ≡ false → number ≡ 18
      → v ≡ replicate window 0 → m ≡ replicate memory +0 → a ≡ replicate answer +0
      → OpensWindow w numbers window memory answer number (window_arrays v m a)
  unfolding open_flat opened_flat
  open_size h k e f g =
      let n = ap (λ (b : Bool). unless b 18 then open_fault w (cells_of numbers) memory answer) h in
      record { number_is = k ∙ sym n; left_is = (λ i. window_arrays (e i) (f i) (g i)) ∙ sym (ap (open_by w numbers window memory answer) n) }

  pub open_taken : {number : ℕ} {v : Window} {words : List ℕ} {m a : List Float} → sized numbers window ≡ true
      → number ≡ open_fault w (cells_of numbers) memory answer → state_of v m a ≡ opened w (cells_of numbers) memory answer → words ≡ words_of v
      → OpensWindow w numbers window memory answer number (window_arrays words m a)
  unfolding open_flat opened_flat
  open_taken {m = m} {a} h n s e =
      let f : size_fault numbers window ≡ 0 = ap (λ (b : Bool). unless b 18) h in
      let all = sym (then_next (size_fault numbers window) (open_fault w (cells_of numbers) memory answer) f) in
      record {
        number_is = n ∙ all;
        left_is = ap (λ (l : List ℕ). window_arrays l m a) e ∙ ap arrays_of s
            ∙ opened_left w numbers window memory answer (window_long numbers window h) ∙ ap (open_by w numbers window memory answer) all;
      }

  -- the window that was opened, and none
  module _ (h : sized numbers window ≡ true) {n : Cells} (n-is : n ≡ cells_of numbers) where
    pub open_window : {v : Window} {words : List ℕ} {m a : List Float} → 0 ≡ open_fault w n memory answer → state_of v m a ≡ opened w n memory answer
        → words ≡ words_of v → OpensWindow w numbers window memory answer 0 (window_arrays words m a)
    open_window f s e =
        open_taken h (f ∙ ap (λ (n : Cells). open_fault w n memory answer) n-is) (s ∙ ap (λ (n : Cells). opened w n memory answer) n-is) e

    pub open_none : {k number : ℕ} {words : List ℕ} {m a : List Float} → k ≡ open_fault w n memory answer → state_of shut m a ≡ opened w n memory answer
        → number ≡ k → words ≡ replicate window 0 → OpensWindow w numbers window memory answer number (window_arrays words m a)
    open_none f s is e =
        open_taken h (is ∙ f ∙ ap (λ (n : Cells). open_fault w n memory answer) n-is) (s ∙ ap (λ (n : Cells). opened w n memory answer) n-is)
        (e ∙ ap (λ (k : ℕ). replicate k 0) (window_long numbers window h))

-- ---- a push

module _ (numbers : List ℕ) (figures : List Float) (before : WindowArrays) where
  -- what it leaves where it is taken, its own fault, and what it leaves by a test
  abbrev after : State
  after = push (state_from before) (table_from numbers figures)

  abbrev own : ℕ
  own = push_fault (state_from before) (table_from numbers figures)

  abbrev push_if : Bool → WindowArrays
  push_if b = cond b (arrays_of after) before

  own_is : sized numbers (length before.window) ≡ true → own ≡ push_flat before numbers figures
  unfolding push_flat
  own_is h = sym (then_next (size_fault numbers (length before.window)) own (ap (λ (b : Bool). unless b 18) h))

module _ {numbers : List ℕ} {figures : List Float} {before : WindowArrays} where
  pub push_size : {number : ℕ} → sized numbers (length before.window) ≡ false → number ≡ 18 → PushesTable numbers figures before number before
  unfolding push_flat pushed_flat
  push_size h k =
      let n = ap (λ (b : Bool). unless b 18 then own numbers figures before) h in
      record { number_is = k ∙ sym n; left_is = sym (ap (λ (j : ℕ). push_if numbers figures before (eqb j 0)) n) }

  pub push_refused : {number : ℕ} {v : Window} {m a : List Float} → sized numbers (length before.window) ≡ true
      → number ≡ push_fault (state_from before) (table_from numbers figures) → (number ≡ 0 → ⊥)
      → state_of v m a ≡ push (state_from before) (table_from numbers figures) → PushesTable numbers figures before number (window_arrays before.window m a)
  unfolding push_flat pushed_flat push
  push_refused h n ne s =
      let t = table_from numbers figures in
      let f = own numbers figures before in
      let all = n ∙ own_is numbers figures before h in
      let same = s ∙ ap (λ (b : Bool). cond b (pushed (state_from before) t) (state_from before)) (ne_eqb f 0 (λ z. ne (n ∙ z))) in
      record {
        number_is = all;
        left_is = (λ i. window_arrays before.window (same i).memory (same i).answer)
            ∙ sym (ap (push_if numbers figures before) (ne_eqb (push_flat before numbers figures) 0 (λ z. ne (all ∙ z))));
      }

  pub push_taken : {number : ℕ} {v : Window} {words : List ℕ} {m a : List Float} → sized numbers (length before.window) ≡ true
      → number ≡ push_fault (state_from before) (table_from numbers figures) → number ≡ 0
      → state_of v m a ≡ push (state_from before) (table_from numbers figures) → words ≡ words_of v
      → PushesTable numbers figures before 0 (window_arrays words m a)
  unfolding pushed_flat
  push_taken {m = m} {a} h n z s e =
      let all = n ∙ own_is numbers figures before h in
      record {
        number_is = sym z ∙ all;
        left_is = ap (λ (l : List ℕ). window_arrays l m a) e ∙ ap arrays_of s
            ∙ sym (ap (push_if numbers figures before) (eq-eqb (push_flat before numbers figures) 0 (sym all ∙ z)));
      }

-- the push of a window that was read from the words
module _ (numbers : List ℕ) (figures : List Float) (before : WindowArrays) where
  abbrev held_in : Window → State
  held_in v = state_of v before.memory before.answer

  abbrev fault_at : Window → Cells → ℕ
  fault_at v n = push_fault (held_in v) (table_of n figures)

  abbrev pushed_at : Window → Cells → State
  pushed_at v n = push (held_in v) (table_of n figures)

  module _ (h : sized numbers (length before.window) ≡ true) {held : Window} (held-is : held ≡ window_from before.window) {n : Cells}
      (n-is : n ≡ cells_of numbers) where
    pub push_one : {v : Window} {words : List ℕ} {m a : List Float} → 0 ≡ fault_at held n → state_of v m a ≡ pushed_at held n → words ≡ words_of v
        → PushesTable numbers figures before 0 (window_arrays words m a)
    push_one f s e = push_taken h (f ∙ (λ i. fault_at (held-is i) (n-is i))) refl (s ∙ (λ i. pushed_at (held-is i) (n-is i))) e

    pub push_none : {k number : ℕ} {v : Window} {m a : List Float} → k ≡ fault_at held n → (k ≡ 0 → ⊥) → number ≡ k → state_of v m a ≡ pushed_at held n
        → PushesTable numbers figures before number (window_arrays before.window m a)
    push_none f ne is s =
        push_refused h (is ∙ f ∙ (λ i. fault_at (held-is i) (n-is i))) (λ z. ne (sym is ∙ z)) (s ∙ (λ i. pushed_at (held-is i) (n-is i)))
