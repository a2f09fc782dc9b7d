-- What the last line of the classes says: the sum of the class lines, which is the number of coordinates of the index box. Assumes nothing.
use Rattle.std.specs.Prelude.{ℕ, ◌+◌, ◌≡◌, Bool, cond, ◌++◌, length}
use Rattle.std.proofs.Common.{ap, ◌∙◌, eq-eqb}
use Rattle.sparse_grid.specs.Tables.{Grid}
use Rattle.sparse_grid.specs.Lookup.{read_in}
use Rattle.nanovdb.specs.Decode.{Accepted}
use Rattle.boxes.specs.Boxes.{Box}
use Rattle.walk.specs.Classes.{class_count, box_size, sides_fault}
use Rattle.walk.proofs.ClassLaws.{total_size}
use Rattle.report.specs.Report.{refused_line}
use Rattle.report.specs.ClassReport.{limits, index_box, class_lines, total_line, count_lines, class_text}

pub total_coordinates : (g : Grid) (b : Box) →
    let count = class_count (read_in g) limits b in
    count_lines count ≡ class_lines count (length limits + 1) ++ total_line (box_size b)
unfolding count_lines
total_coordinates g b =
    ap (λ (n : ℕ). class_lines (class_count (read_in g) limits b) (length limits + 1) ++ total_line n) (total_size (read_in g) limits b)

-- so the whole text of a grid whose sides pass
pub text_coordinates : (n : ℕ) (t : Accepted) →
    let b = index_box t.medium in
    sides_fault b ≡ 0 → class_text n t ≡ class_lines (class_count (read_in t.grid) limits b) (length limits + 1) ++ total_line (box_size b)
unfolding class_text
text_coordinates n t e =
    let b = index_box t.medium in
    ap (λ (x : Bool). cond x (count_lines (class_count (read_in t.grid) limits b)) (refused_line (sides_fault b))) (eq-eqb (sides_fault b) 0 e)
    ∙ total_coordinates t.grid b
