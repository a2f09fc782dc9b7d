-- The grade from k on is the grade from 1 on.
use Rattle.std.proofs.Common.{◌≡◌, ◌-◌, ◌*◌}
use Rattle.std.specs.Prelude.{◌^◌}
use Rattle.sheet.specs.Grades.{grade_from, grade}
use Rattle.sheet.proofs.grade.grade.Given as goal

abbrev pub invariant-loop-k : goal.invariant-loop-k
invariant-loop-k l =
    let f = l.fn.f.digits * 2 ^ l.fn.f.place in
    let g = l.fn.g.digits * 2 ^ l.fn.g.place in
    grade_from (9 - l.k) l.k f g ≡ grade f g
