use Rattle.std.proofs.Common.{◌≡◌, ◌*◌, Bool, ℕ, sym, ◌∙◌, mul_comm, refl, arith}
use Rattle.std.specs.Prelude.{◌^◌, leb}
use Rattle.sheet.specs.Grades.{grade}
use Rattle.sheet.proofs.Steps.{grade_stop, grade_next, grade_end}
use Rattle.sheet.proofs.grade.grade.Goals as goal

-- the test of the code: n is 9 f and m is k g
tested : (f g k : ℕ) {n m : ℕ} {t : Bool} → n ≡ 9 * f → m ≡ k * g → t ≡ leb n m → leb (f * 9) (k * g) ≡ t
tested f g k p q e = (λ i. leb ((mul_comm f 9 ∙ sym p) i) (sym q i)) ∙ sym e

pub loop-k-init : goal.loop-k-init
unfolding grade
loop-k-init c = refl

pub returns-then-at_most : goal.returns-then-at_most
returns-then-at_most c =
    let f = c.args.f.digits * 2 ^ c.args.f.place in
    let g = c.args.g.digits * 2 ^ c.args.g.place in
    let test = tested f g c.loop-k.k c.times-nine.ensures.0 c.times.ensures.0 c.if-at_most.ensures in
    (grade_stop c.loop-k.k f g _ c.loop-k-test.true test c.loop-k.invariant, omega arith)

pub loop-k-preserved : goal.loop-k-preserved
loop-k-preserved c =
    let f = c.args.f.digits * 2 ^ c.args.f.place in
    let g = c.args.g.digits * 2 ^ c.args.g.place in
    let test = tested f g c.loop-k.k c.times-nine.ensures.0 c.times.ensures.0 c.if-at_most.ensures in
    grade_next c.loop-k.k f g _ c.loop-k-test.true test c.loop-k.invariant

pub returns : goal.returns
returns c =
    let f = c.args.f.digits * 2 ^ c.args.f.place in
    let g = c.args.g.digits * 2 ^ c.args.g.place in
    let last : c.loop-k.k ≡ 9 = omega arith in
    (sym last ∙ grade_end c.loop-k.k f g _ last c.loop-k.invariant, omega arith)
