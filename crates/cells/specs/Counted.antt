-- Numbers of cells that pass are 1 to 128 on each axis, so that their products are small. Assumes nothing.
use Rattle.std.specs.Prelude.{◌≡◌, Bool, cond, ◌&&◌, ℕ, ◌*◌, ◌≤◌, T, leb, eqb}
use Rattle.std.proofs.Common.{ap, mul-le-mul, leb→le, eqb→eq, eq-eqb}
use Rattle.refusals.specs.TestLaws.{and_l, and_r}
use Rattle.refusals.specs.FaultLaws.{then_zero, unless_zero}
use Rattle.cells.specs.Cells.{Cells, some_cells, cells_fault, cell_count, table_fault, table_length}

pub record Few (k : ℕ) : Type 0 where
  pub some : 1 ≤ k
  pub most : k ≤ 128

pub record Counted (n : Cells) : Type 0 where
  pub x : Few n.x
  pub y : Few n.y
  pub z : Few n.z

few : (k : ℕ) → T (some_cells k) → Few k
few k t = record { some = leb→le 1 k (and_l (leb 1 k) (leb k 128) t); most = leb→le k 128 (and_r (leb 1 k) (leb k 128) t) }

pub counted : (n : Cells) → cells_fault n ≡ 0 → Counted n
unfolding cells_fault
counted n e =
    let t = unless_zero (some_cells n.x && some_cells n.y && some_cells n.z) 22 e in
    let s = and_l (some_cells n.x && some_cells n.y) (some_cells n.z) t in
    record {
      x = few n.x (and_l (some_cells n.x) (some_cells n.y) s);
      y = few n.y (and_r (some_cells n.x) (some_cells n.y) s);
      z = few n.z (and_r (some_cells n.x && some_cells n.y) (some_cells n.z) t);
    }

-- a table without a fault has a place for each cell
pub record Tabled (n : Cells) (places : ℕ) : Type 0 where
  pub count : Counted n
  pub places_is : places ≡ cell_count n

pub tabled : (n : Cells) (places : ℕ) → table_fault n places ≡ 0 → Tabled n places
unfolding table_fault
tabled n places e =
    let s = then_zero (cells_fault n) (unless' (eqb places (cell_count n))) e in
    record { count = counted n s.0; places_is = eqb→eq places (cell_count n) (unless_zero (eqb places (cell_count n)) 17 s.1) }
  where
    unless' : Bool → ℕ
    unless' t = cond t 0 18

pub length_is : (n : Cells) → cells_fault n ≡ 0 → table_length n ≡ cell_count n
unfolding table_length
length_is n e = ap (λ (t : Bool). cond t (cell_count n) 0) (eq-eqb (cells_fault n) 0 e)

-- a layer of cells, and all of them
module _ (n : Cells) (N : Counted n) where
  pub layer_small : n.x * n.y ≤ 16384
  layer_small = mul-le-mul N.x.most N.y.most

  pub count_small : cell_count n ≤ 2097152
  count_small = mul-le-mul layer_small N.z.most
