-- A build that answers 0 was accepted: no refusal has the number 0. Assumes nothing.
use Rattle.std.specs.Prelude.{◌≡◌, ℕ, zero, suc, Bool, true, false, not, List, [], ◌∷◌, ◌++◌, refl, Float}
use Rattle.std.proofs.Common.{sym, ap, ◌∙◌, inl, inr, arith}
use Rattle.std.specs.Float.Ieee.{lt}
use Rattle.refusals.specs.Results.{Result, ok, refused, number_of, bind, need}
use Rattle.refusals.specs.ResultLaws.{stopped}
use Rattle.refusals.specs.Faults.{◌then◌, passing}
use Rattle.refusals.specs.FaultLaws.{passing_ok}
use Rattle.sparse_grid.specs.Tables.{Grid}
use Rattle.sparse_grid.specs.Validate.{validate, density_fault}
use Rattle.sparse_grid.specs.Lookup.{read_in}
use Rattle.cells.specs.Cells.{cell_count, table_fault}
use Rattle.cells.specs.Counted.{Tabled, tabled}
use Rattle.medium.specs.Medium.{Medium, Axis, x_axis, y_axis, z_axis, medium_fault}
use Rattle.index.specs.Cells.{Cells, Ends, first_ends, second_ends}
use Rattle.index.proofs.Sixteen.{Only}
use Rattle.index.proofs.Alone.{only_first, only_second}
use Rattle.boxes.specs.Boxes.{Box, box_maximum}
use Rattle.majorant.specs.Figures.{box_of, figure, figures}
use Rattle.majorant.specs.Build.{build, build_into}

-- 0 is the number of a value alone
abbrev Given : {A : Type 0} → Result A → Type 0
Given {A = A} r = number_of r ≡ 0 → (a : A) × (r ≡ ok a)

given_ok : {A : Type 0} (a : A) → Given (ok a)
given_ok a e = (a, refl)

given_bind : {A B : Type 0} (r : Result A) (f : A → Result B) → Given r → ((a : A) → Given (f a)) → Given (bind r f)
given_bind (ok a) f h g e = g a e
given_bind (refused n) f h g e = absurd (stopped (h e).1)

given_need : {A : Type 0} (t : Bool) (n : ℕ) (r : Result A) → Given r → Given (need t (suc n) r)
given_need true n r h e = h e
given_need false n r h e = absurd (omega arith)

given_passing : {A : Type 0} (n : ℕ) (r : Result A) → Given r → Given (passing n r)
given_passing zero r h e = h e
given_passing (suc n) r h e = absurd (omega arith)

given_only : {A : Type 0} (r : Result A) → Only r → Given r
given_only r (inl p) e = p
given_only r (inr p) e = let z : ◌≡◌ {A = ℕ} 16 0 = ap number_of (sym p) ∙ e in absurd (omega arith)

given_box : (f : Axis → Result Ends) → ((a : Axis) → Given (f a)) → Given (box_of f)
given_box f h =
    given_bind (f x_axis) (λ (x : Ends). bind (f y_axis) (λ (y : Ends). bind (f z_axis) (λ (z : Ends). ok (made x y z)))) (h x_axis) (λ x.
    given_bind (f y_axis) (λ (y : Ends). bind (f z_axis) (λ (z : Ends). ok (made x y z))) (h y_axis) (λ y.
    given_bind (f z_axis) (λ (z : Ends). ok (made x y z)) (h z_axis) (λ z. given_ok (made x y z))))
  where
    made : Ends → Ends → Ends → Box
    made x y z = record { lo = record { x = x.lo; y = y.lo; z = z.lo }; hi = record { x = x.hi; y = y.hi; z = z.hi } }

given_figure : (maximum : Box → Float) (m : Medium) (n : Cells) (k : ℕ) → Given (figure maximum m n k)
unfolding figure
given_figure maximum m n k =
    given_bind (box_of (first_ends m n k))
    (λ (f : Box). bind (box_of (second_ends m n k)) (λ (s : Box). need (not (lt (maximum f) (maximum s))) 17 (ok (maximum f))))
    (given_box (first_ends m n k) (λ a. given_only (first_ends m n k a) (only_first m n k a))) (λ f.
    given_bind (box_of (second_ends m n k)) (λ (s : Box). need (not (lt (maximum f) (maximum s))) 17 (ok (maximum f)))
    (given_box (second_ends m n k) (λ a. given_only (second_ends m n k a) (only_second m n k a))) (λ s.
    given_need (not (lt (maximum f) (maximum s))) 16 (ok (maximum f)) (given_ok (maximum f))))

given_figures : (maximum : Box → Float) (m : Medium) (n : Cells) (c : ℕ) → Given (figures maximum m n c)
unfolding figures
given_figures maximum m n zero = given_ok []
given_figures maximum m n (suc c) =
    given_bind (figures maximum m n c) (λ (l : List Float). bind (figure maximum m n c) (λ (v : Float). ok (l ++ (v ∷ [])))) (given_figures maximum m n c) (λ l.
    given_bind (figure maximum m n c) (λ (v : Float). ok (l ++ (v ∷ []))) (given_figure maximum m n c) (λ v. given_ok (l ++ (v ∷ []))))

-- the numbers of cells pass, the table has a place for each cell, and the build gave its figures
pub record Accepted (g : Grid) (m : Medium) (places : ℕ) : Type 0 where
  pub table : List Float
  pub size : Tabled m.cells places
  pub is : build g m ≡ ok table
  pub into : build_into g m places ≡ ok table

pub into_parts : (g : Grid) (m : Medium) (places : ℕ) {l : List Float} → build_into g m places ≡ ok l → Tabled m.cells places × (build g m ≡ ok l)
unfolding build_into
into_parts g m places e =
    let p = passing_ok (table_fault m.cells places) (build g m) e in
    (tabled m.cells places p.0, p.1)

pub accepted : (g : Grid) (m : Medium) (places : ℕ) → number_of (build_into g m places) ≡ 0 → Accepted g m places
unfolding build_into build
accepted g m places e =
    let faults = validate g then density_fault g then medium_fault m in
    let r = figures (box_maximum (read_in g)) m m.cells (cell_count m.cells) in
    let each = given_figures (box_maximum (read_in g)) m m.cells (cell_count m.cells) in
    let p = given_passing (table_fault m.cells places) (passing faults r) (given_passing faults r each) e in
    let q = into_parts g m places p.1 in
    record { table = p.0; size = q.0; is = q.1; into = p.1 }
