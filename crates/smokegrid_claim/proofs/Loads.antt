-- The counted box maximum through C, of a grid whose box maximum is known: the same maximum, the counts of the walk, and no cube dearer. Assumes nothing.
use Rattle.std.specs.Prelude.{ℕ, zero, suc, ◌+◌, ◌*◌, ◌/◌, ◌%◌, ◌≡◌, refl, List, Float}
use Rattle.std.proofs.Common.{mul_comm, arith, sym, ap, ◌∙◌, subst}
use Rattle.std.proofs.Math.Nat.{div-add-mod}
use Rattle.refusals.specs.Results.{Result, ok, number_of, value_or}
use Rattle.refusals.specs.Faults.{passing}
use Rattle.float.specs.Zero.{+0}
use Rattle.sparse_grid.specs.Tables.{Grid}
use Rattle.sparse_grid.specs.Validate.{validate}
use Rattle.sparse_grid.specs.Lookup.{read_in}
use Rattle.boxes.specs.Boxes.{Box, box_maximum}
use Rattle.walk.specs.Walk.{CubeBox}
use Rattle.majorant.specs.Build.{public_maximum}
use Rattle.majorant.specs.Counted.{Read, unread, read_for, NoDearer}
use Rattle.majorant.proofs.Dearest.{answers, never_dearer}
use Rattle.smokegrid.specs.FlatCounted.{counted_flat, five_of, counts_after}
use Rattle.smokegrid.specs.Promises.{CountsBox}
use Rattle.smokegrid_claim.specs.ThroughC.{read_of}

-- what is said of a box, where its maximum is m
pub record Loaded (g : Grid) (x : Box) (m : Float) (number : ℕ) (value : Float) (counts : List ℕ) : Type 0 where
  pub number_is : number ≡ 0
  pub value_is : value ≡ m
  pub read_is : read_of value counts ≡ read_for g x
  pub no_dearer : (n : ℕ) → CubeBox n x → NoDearer n (read_of value counts)

accepted : (f : ℕ) {A : Type 0} (v m : A) → passing f (ok v) ≡ ok m → f ≡ 0
accepted zero v m e = refl
accepted (suc f) v m e = absurd (never (ap number_of e))
  where
    never : suc f ≡ 0 → ⊥
    never h = omega arith

-- a box maximum that is answered is of a valid grid
valid : (g : Grid) (x : Box) (m : Float) → public_maximum g x ≡ ok m → validate g ≡ 0
unfolding public_maximum
valid g x m e = accepted (validate g) (box_maximum (read_in g) x) m e

same_maximum : (g : Grid) (x : Box) (m : Float) → public_maximum g x ≡ ok m → box_maximum (read_in g) x ≡ m
unfolding public_maximum
same_maximum g x m e = ap (value_or +0) (sym (ap (λ (n : ℕ). passing n (ok (box_maximum (read_in g) x))) (valid g x m e)) ∙ e)

-- the five numbers, read back
five_back : (r : Read) → read_of r.maximum (five_of r) ≡ r
five_back r =
    let e : r.leaves / 18446744073709551616 * 18446744073709551616 + r.leaves % 18446744073709551616 ≡ r.leaves =
    ap (λ (n : ℕ). n + r.leaves % 18446744073709551616) (mul_comm (r.leaves / 18446744073709551616) 18446744073709551616)
    ∙ div-add-mod r.leaves 18446744073709551616 in
    λ i. record { maximum = r.maximum; roots = r.roots; uppers = r.uppers; lowers = r.lowers; leaves = e i }

pub load : (g : Grid) (x : Box) {m : Float} → public_maximum g x ≡ ok m → (number : ℕ) (value : Float) (counts : List ℕ)
    → CountsBox g x 5 number value counts → Loaded g x m number value counts
unfolding counted_flat
load g x {m} e number value counts c =
    let r = read_for g x in
    let a : counted_flat g x 5 ≡ ok r = answers g x (valid g x m e) in
    let v : value ≡ r.maximum = c.value_is ∙ ap (λ (k : Result Read). (value_or unread k).maximum) a in
    let l : counts ≡ five_of r = c.counts_are ∙ ap (counts_after 5) a in
    let h : read_of value counts ≡ r = (λ i. read_of (v i) (l i)) ∙ five_back r in
    record {
      number_is = c.number_is ∙ ap number_of a;
      value_is = v ∙ same_maximum g x m e;
      read_is = h;
      no_dearer = λ n k. subst (NoDearer n) (sym h) (never_dearer g x n k r (answers g x (valid g x m e)));
    }
