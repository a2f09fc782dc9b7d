-- What a push or an opening without a fault tells. Assumes nothing.
use Rattle.std.specs.Prelude.{◌≡◌, ◌&&◌, ℕ, ◌*◌, ◌≤◌, ◌<◌, T, eqb, leb, ltb, length}
use Rattle.std.proofs.Common.{subst, eqb→eq, leb→le, ltb→lt}
use Rattle.refusals.specs.TestLaws.{and_l, and_r}
use Rattle.refusals.specs.Faults.{◌then◌, unless}
use Rattle.refusals.specs.FaultLaws.{then_zero, unless_zero}
use Rattle.cells.specs.Cells.{Cells, cells_fault, cell_count}
use Rattle.figures.specs.Figures.{figures_fault}
use Rattle.window.specs.Window.{Table, width_in, same_cells, cells_of, fits_window, fits_lengths, fault_of, open_fault}
use Rattle.window.specs.declared.Window.{Window}

pub same_cells_lem : (m n : Cells) → T (same_cells m n) → m ≡ n
same_cells_lem m n t =
    let s = and_r (eqb m.x n.x) (eqb m.y n.y && eqb m.z n.z) t in
    let ex = eqb→eq m.x n.x (and_l (eqb m.x n.x) (eqb m.y n.y && eqb m.z n.z) t) in
    let ey = eqb→eq m.y n.y (and_l (eqb m.y n.y) (eqb m.z n.z) s) in
    let ez = eqb→eq m.z n.z (and_r (eqb m.y n.y) (eqb m.z n.z) s) in
    λ i. record { x = ex i; y = ey i; z = ez i }

pub record Wide (w : ℕ) : Type 0 where
  pub low : 1 ≤ w
  pub high : w ≤ 16

pub wide : (w : ℕ) → T (width_in w) → Wide w
wide w t = record { low = leb→le 1 w (and_l (leb 1 w) (leb w 16) t); high = leb→le w 16 (and_r (leb 1 w) (leb w 16) t) }

pub record Long (v : Window) (n table memory answer : ℕ) : Type 0 where
  pub table_long : table ≡ n
  pub memory_long : memory ≡ v.w * n
  pub answer_long : answer ≡ n
  pub held_in : v.held ≤ v.w
  pub next_in : v.next < v.w

long : (v : Window) (n table memory answer : ℕ) → T (fits_lengths v n table memory answer) → Long v n table memory answer
long v n table memory answer t =
    let places = leb v.held v.w && ltb v.next v.w in
    let b = and_r (eqb table n) (eqb memory (v.w * n) && (eqb answer n && places)) t in
    let c = and_r (eqb memory (v.w * n)) (eqb answer n && places) b in
    let d = and_r (eqb answer n) places c in
    record {
      table_long = eqb→eq table n (and_l (eqb table n) (eqb memory (v.w * n) && (eqb answer n && places)) t);
      memory_long = eqb→eq memory (v.w * n) (and_l (eqb memory (v.w * n)) (eqb answer n && places) b);
      answer_long = eqb→eq answer n (and_l (eqb answer n) places c);
      held_in = leb→le v.held v.w (and_l (leb v.held v.w) (ltb v.next v.w) d);
      next_in = ltb→lt v.next v.w (and_r (leb v.held v.w) (ltb v.next v.w) d);
    }

-- a push that is taken
pub record Taken (v : Window) (memory answer : ℕ) (t : Table) : Type 0 where
  pub width : Wide v.w
  pub same : t.cells ≡ cells_of v
  pub lengths : Long v (cell_count (cells_of v)) (length t.figures) memory answer
  pub sound : figures_fault t.figures ≡ 0

pub taken : (v : Window) (memory answer : ℕ) (t : Table) → fault_of v memory answer t ≡ 0 → Taken v memory answer t
unfolding fault_of
taken v memory answer t e =
    let n = t.cells in
    let b = unless (fits_window v n) 26 in
    let d = unless (fits_lengths v (cell_count n) (length t.figures) memory answer) 18 in
    let f = figures_fault t.figures in
    let q = then_zero b (d then f) (then_zero (cells_fault n) (b then d then f) e).1 in
    let r = then_zero d f q.1 in
    let m = unless_zero (fits_window v n) 25 q.0 in
    let same = same_cells_lem n (cells_of v) (and_r (width_in v.w) (same_cells n (cells_of v)) m) in
    let fits = unless_zero (fits_lengths v (cell_count n) (length t.figures) memory answer) 17 r.0 in
    let own = long v (cell_count n) (length t.figures) memory answer fits in
    record {
      width = wide v.w (and_l (width_in v.w) (same_cells n (cells_of v)) m);
      same = same;
      lengths = subst (λ (k : Cells). Long v (cell_count k) (length t.figures) memory answer) same own;
      sound = r.1;
    }

-- an opening that is not refused
pub record Open (w : ℕ) (n : Cells) (memory answer : ℕ) : Type 0 where
  pub width : Wide w
  pub memory_long : memory ≡ w * cell_count n
  pub answer_long : answer ≡ cell_count n

pub open_told : (w : ℕ) (n : Cells) (memory answer : ℕ) → open_fault w n memory answer ≡ 0 → Open w n memory answer
unfolding open_fault
open_told w n memory answer e =
    let m = eqb memory (w * cell_count n) in
    let a = eqb answer (cell_count n) in
    let q = then_zero (unless (width_in w) 26) (unless (m && a) 18) (then_zero (cells_fault n) (unless (width_in w) 26 then unless (m && a) 18) e).1 in
    let lengths = unless_zero (m && a) 17 q.1 in
    record {
      width = wide w (unless_zero (width_in w) 25 q.0);
      memory_long = eqb→eq memory (w * cell_count n) (and_l m a lengths);
      answer_long = eqb→eq answer (cell_count n) (and_r m a lengths);
    }
