-- The text of the classes, from what a count answers. Assumes nothing.
use mathlib.Core.Path.{◌≡◌, refl, sym, ap, ◌∙◌}
use mathlib.Core.Bool.{Bool, cond}
use mathlib.Core.List.{List, ◌++◌}
use Prim.Native.Nat.{ℕ, zero, suc, ◌+◌, ◌^◌, ◌<◌}
use native.Mathlib.Numerals.{add-one}
use native.Mathlib.Omega.{arith}
use lib.Dec.{eqb}
use lib.ListN.{get_or, replicate}
use lib.Ieee.{of_bits, lt}
use borrow.Author.Tests.{ne_eqb}
use Rattle.refusals.specs.Results.{Result, ok, value_or}
use Rattle.refusals.specs.Faults.{◌then◌, first_fault, passing}
use Rattle.refusals.specs.FaultLaws.{then_zero}
use Rattle.refusals.proofs.FaultSteps.{then_next}
use Rattle.medium.specs.Medium.{Medium}
use Rattle.sparse_grid.specs.Tables.{Grid}
use Rattle.sparse_grid.specs.Validate.{validate}
use Rattle.sparse_grid.specs.Lookup.{read_in}
use Rattle.sparse_grid.specs.Count.{sum}
use Rattle.boxes.specs.Boxes.{Box}
use Rattle.walk.specs.Classes.{class_count, limits_fault, sides_fault, listed, public_counts}
use Rattle.walk.proofs.ClassLaws.{total_size}
use Rattle.text.specs.declared.Page.{Page}
use Rattle.text.specs.Written.{Writes}
use Rattle.text.proofs.Writing.{◌then◌ as ◌after◌, as_text}
use Rattle.report.specs.Report.{refused_line}
use Rattle.report.specs.ClassReport.{limits, index_box, class_line, class_lines, total_line, count_lines, class_text}
use Rattle.report.specs.Inner.{accepted, counts_in}
use Rattle.report.specs.ClassRoom.{size_most}

three_sum : (f : ℕ → ℕ) → f 0 + f 1 + f 2 ≡ sum 3 f
unfolding sum
three_sum f = omega arith

-- one class more
pub class_more : {p q r : Page} (count : ℕ → ℕ) (k i : ℕ) → i ≡ k → Writes p (class_lines count k) q → Writes q (class_line k (count i)) r
    → Writes p (class_lines count (k + 1)) r
unfolding class_lines
class_more count k i e a b =
    as_text (a after b) (ap (λ (n : ℕ). class_lines count k ++ class_line k (count n)) e ∙ ap (class_lines count) (sym (add-one k)))

-- the lines of three counts, and their total
pub three_lines : {p q r : Page} (count : ℕ → ℕ) (k : ℕ) → k ≡ 3 → Writes p (class_lines count k) q
    → Writes q (total_line (count 0 + count 1 + count 2)) r → Writes p (count_lines count) r
unfolding count_lines
three_lines count k z a b = as_text a (ap (class_lines count) z) after as_text b (ap total_line (three_sum count))

-- ---- the count

limits_pass : limits_fault limits ≡ 0
unfolding limits_fault first_fault of_bits lt
limits_pass = refl

first_three : (f : ℕ → ℕ) → get_or (listed 17 0 f) 0 0 + get_or (listed 17 0 f) 1 0 + get_or (listed 17 0 f) 2 0 ≡ sum 3 f
unfolding listed sum
first_three f = omega arith

-- three counts of a box add up to no more than its coordinates, and after a refusal they are zero
pub counts_fit : (g : Grid) (b : Box) {l : List ℕ} → ok l ≡ public_counts g limits b
    → get_or l 0 0 + get_or l 1 0 + get_or l 2 0 < 2 ^ 64
unfolding public_counts
counts_fit g b e =
    let s = ap (λ (r : Result (List ℕ)). three (value_or (replicate 17 0) r)) e in
    omega (arith, s, go (validate g then limits_fault limits then sides_fault b) refl)
  where
    three : List ℕ → ℕ
    three m = get_or m 0 0 + get_or m 1 0 + get_or m 2 0

    go : (n : ℕ) → (validate g then limits_fault limits then sides_fault b) ≡ n
        → three (value_or (replicate 17 0) (passing n (ok (listed 17 0 (class_count (read_in g) limits b))))) < 2 ^ 64
    go zero f =
        let sides = (then_zero (limits_fault limits) (sides_fault b) (then_zero (validate g) (limits_fault limits then sides_fault b) f).1).1 in
        omega (arith, first_three (class_count (read_in g) limits b), total_size (read_in g) limits b, size_most b sides)
    go (suc n) f = omega arith

by_sides : (count : ℕ → ℕ) (n : ℕ) → counts_in (passing n (ok (listed 17 0 count))) ≡ cond (eqb n 0) (count_lines count) (refused_line n)
unfolding counts_in count_lines class_lines sum listed
by_sides count zero = refl
by_sides count (suc n) = ap (λ (t : Bool). cond t (count_lines count) (refused_line (suc n))) (sym (ne_eqb (suc n) 0 (λ e. omega arith)))

-- what the text says of a valid grid
pub classes_text : (n : ℕ) (g : Grid) (m : Medium) → validate g ≡ 0
    → counts_in (public_counts g limits (index_box m)) ≡ class_text n (accepted g m)
unfolding public_counts class_text
classes_text n g m v =
    let b = index_box m in
    let count = class_count (read_in g) limits b in
    ap (λ (n : ℕ). counts_in (passing n (ok (listed 17 0 count))))
    (then_next (validate g) (limits_fault limits then sides_fault b) v ∙ then_next (limits_fault limits) (sides_fault b) limits_pass)
    ∙ by_sides count (sides_fault b)
