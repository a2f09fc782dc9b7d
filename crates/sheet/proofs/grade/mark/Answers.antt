-- A zero, or the grade of the two numbers of units.
use Rattle.std.proofs.Common.{◌+◌, Bool, sym, ap, ◌∙◌}
use Rattle.std.specs.Prelude.{cond}
use Rattle.std.specs.Float.{binary32}
use Rattle.std.specs.Float.Ieee.{eq}
use Rattle.float.proofs.Patterns.{nought}
use Rattle.sheet.specs.Grades.{units_of, grade, mark}
use Rattle.sheet.proofs.grade.mark.Goals as goal

pub returns-then-v : goal.returns-then-v
unfolding mark
returns-then-v c =
    let a = c.args in
    let test = ap (eq a.v) (sym (nought binary32)) ∙ c.if-v.true in
    ap (λ (t : Bool). cond t 46 (48 + grade (units_of a.v) (units_of a.g))) (sym test)

pub returns : goal.returns
unfolding mark
returns c =
    let test = ap (eq c.args.v) (sym (nought binary32)) ∙ c.if-v.false in
    let k = c.grade-k.ensures.0 ∙ (λ j. grade (c.units.ensures.0 j) (c.units-2.ensures.0 j)) in
    (λ i. cond (sym test i) 46 (48 + k i))
