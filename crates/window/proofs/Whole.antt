-- An opening, and a push from what its parts leave. Assumes nothing.
use mathlib.Core.Path.{◌≡◌, sym, ap, ◌∙◌, subst}
use mathlib.Core.Bool.{Bool, cond}
use mathlib.Core.List.{List}
use Prim.Native.Nat.{ℕ, ◌+◌, ◌*◌, ◌≤◌, ◌<◌}
use native.Mathlib.Nat.{le_trans, le_of_eq}
use native.Mathlib.Omega.{arith}
use lib.ListN.{length, replicate, length-replicate}
use lib.Seq.{paste, length-paste}
use lib.Ieee.{Float}
use borrow.Author.Tests.{eq-eqb, ne_eqb}
use Rattle.float.specs.Zero.{+0}
use Rattle.cells.specs.Cells.{Cells, cell_count}
use Rattle.figures.proofs.Parts.{place_in}
use Rattle.window.specs.Tables.{raised_by, answer_of}
use Rattle.window.specs.Window.{State, Table, window_of, state_of, cells_of, advanced, stored, ring, push_fault, pushed, push}
use Rattle.window.specs.Window.{open_fault, opened, shut}
use Rattle.window.proofs.TableLaws.{raised_by_length}
use Rattle.window.proofs.RingLaws.{after_in}
use Rattle.window.proofs.FaultLaws.{Taken, taken}
use Rattle.window.specs.declared.Window.{Window}

-- a push with a fault changes nothing
pub push_refused : (s : State) (t : Table) → (push_fault s t ≡ 0 → ⊥) → s ≡ push s t
unfolding push
push_refused s t ne = ap (λ (b : Bool). cond b (pushed s t) s) (sym (ne_eqb (push_fault s t) 0 ne))

-- an opening: the window that the fault allows, and zeros
module _ (w : ℕ) (n : Cells) (m a : ℕ) {memory answer : List Float} (zeros : memory ≡ replicate m +0) (nothing : answer ≡ replicate a +0) where
  abbrev by_fault : Bool → State
  by_fault b = state_of (cond b (window_of w n 0 0) shut) (replicate m +0) (replicate a +0)

  pub open_refused : (open_fault w n m a ≡ 0 → ⊥) → state_of shut memory answer ≡ opened w n m a
  unfolding opened
  open_refused ne = (λ i. state_of shut (zeros i) (nothing i)) ∙ ap by_fault (sym (ne_eqb (open_fault w n m a) 0 ne))

  pub open_taken : open_fault w n m a ≡ 0 → state_of (window_of w n 0 0) memory answer ≡ opened w n m a
  unfolding opened
  open_taken e = (λ i. state_of (window_of w n 0 0) (zeros i) (nothing i)) ∙ ap by_fault (sym (eq-eqb (open_fault w n m a) 0 e))

-- what the parts of a push leave: the memory with the table, zeros for the answer, and the window after it
pub record Parts (s : State) (t : Table) (m a : List Float) (v : Window) : Type 0 where
  pub none : push_fault s t ≡ 0
  pub kept : m ≡ paste s.memory (s.window.next * length t.figures) t.figures (length t.figures)
  pub zeros : a ≡ replicate (length s.answer) +0
  pub next : v ≡ advanced s.window

module _ (s : State) (t : Table) (none : push_fault s t ≡ 0) where
  told : Taken s.window (length s.memory) (length s.answer) t
  told = taken s.window (length s.memory) (length s.answer) t none

  pub next_in : s.window.next < s.window.w
  next_in = told.lengths.next_in

  -- the table's place lies in the memory
  pub place_fits : s.window.next * length t.figures + length t.figures ≤ length s.memory
  place_fits =
      let f = length t.figures in
      let m : length s.memory ≡ s.window.w * f = told.lengths.memory_long ∙ ap (λ (k : ℕ). s.window.w * k) (sym told.lengths.table_long) in
      le_trans (place_in f s.window.w s.window.next next_in) (le_of_eq (sym m))

module _ {s : State} {t : Table} {m a : List Float} {v : Window} (p : Parts s t m a v) where
  known : Taken s.window (length s.memory) (length s.answer) t
  known = told s t p.none

  zeros_long : length a ≡ cell_count (cells_of s.window)
  zeros_long = ap length p.zeros ∙ length-replicate (length s.answer) +0 ∙ known.lengths.answer_long

  pub memory_kept : length m ≡ length s.memory
  memory_kept = ap length p.kept ∙ length-paste s.memory _ t.figures (length t.figures) (place_fits s t p.none) (omega arith)

  -- what the last step asks for
  pub ring_fits : (v.next < v.w) × (v.w * length a ≤ length m)
  ring_fits =
      let w = s.window.w in
      let long : w * length a ≡ length m = ap (λ (k : ℕ). w * k) zeros_long ∙ sym (memory_kept ∙ known.lengths.memory_long) in
      subst (λ (u : Window). (u.next < u.w) × (u.w * length a ≤ length m)) (sym p.next)
      (after_in w s.window.next (next_in s t p.none), le_of_eq long)

  -- and what it leaves
  pub push_taken : {b : List Float} → b ≡ raised_by a (ring (length a) v.w m v.held v.next) → state_of v m b ≡ push s t
  unfolding push
  push_taken {b} e =
      let u = s.window in
      let n = cell_count (cells_of u) in
      let m' : m ≡ stored n s.memory u.next t.figures =
      p.kept ∙ ap (λ (k : ℕ). paste s.memory (u.next * k) t.figures k) known.lengths.table_long in
      let a' : a ≡ replicate n +0 = p.zeros ∙ ap (λ (k : ℕ). replicate k +0) known.lengths.answer_long in
      let b' : b ≡ answer_of n (ring n u.w (stored n s.memory u.next t.figures) (advanced u).held (advanced u).next) =
      e ∙ (λ i. raised_by (a' i) (ring (zeros_long i) (p.next i).w (m' i) (p.next i).held (p.next i).next)) in
      (λ i. state_of (p.next i) (m' i) (b' i)) ∙ ap (λ (c : Bool). cond c (pushed s t) s) (sym (eq-eqb _ 0 p.none))

  pub answer_kept : {b : List Float} → b ≡ raised_by a (ring (length a) v.w m v.held v.next) → length b ≡ length s.answer
  answer_kept e = ap length e ∙ raised_by_length a _ ∙ ap length p.zeros ∙ length-replicate (length s.answer) +0
