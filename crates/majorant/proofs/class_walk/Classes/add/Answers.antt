-- One count grows, that of the value's class.
use Rattle.std.proofs.Common.{ℕ, ◌+◌, ◌*◌, get_or, eqb, refl, ap, ◌∙◌, arith, length-set}
use Rattle.sparse_grid.specs.Count.{bit}
use Rattle.walk.proofs.ClassLaws.{class_most}
use Rattle.majorant.proofs.Tallying.{count_more}
use Rattle.majorant.proofs.class_walk.Classes.add.Goals as goal

pub bounds-self-k : goal.bounds-self-k
bounds-self-k c = omega (arith, c.class_of-k.ensures, class_most c.args.self.now.limits.now c.args.value)

pub bounds-self-k-2 : goal.bounds-self-k-2
bounds-self-k-2 c = omega (arith, c.class_of-k.ensures, class_most c.args.self.now.limits.now c.args.value)

pub offset_bounds-self-k : goal.offset_bounds-self-k
offset_bounds-self-k c = omega (arith, c.class_of-k.ensures, class_most c.args.self.now.limits.now c.args.value)

pub returns : goal.returns
returns c =
    let a = c.args in
    let t = a.self.now.counts in
    let h = class_most a.self.now.limits.now a.value in (
      refl,
      length-set t c.class_of-k.result _,
      λ k K. count_more t c.class_of-k.result a.size k (omega (arith, c.class_of-k.ensures))
          ∙ ap (λ (n : ℕ). get_or t k 0 + bit (eqb n k) * a.size) c.class_of-k.ensures,
    )
