-- a value that passes leaves the fault so far, and one that fails makes it the refusal
use Rattle.std.proofs.Common.{sym, ap, ◌∙◌, Bool, rules}
use Rattle.refusals.specs.Faults.{unless}
use Rattle.refusals.proofs.FaultSteps.{first_fault_none}
use Rattle.sparse_grid.proofs.Tested.{passed, failed}
use Rattle.sparse_grid.proofs.checks.all_pass.Goals as goal
use Rattle.sparse_grid.proofs.checks.all_pass.Goals.{then-not-passes, else-not-passes}

pub loop-v-init : goal.loop-v-init
loop-v-init g c = λ n. first_fault_none _

pub loop-v-preserved : goal.loop-v-preserved
loop-v-preserved g c = λ n.
    let l = c.loop-v in
    let values = c.args.values.now in
    let says = λ (s : Bool). unless s n in
    elim c.if-not-passes.branch [
      | then-not-passes w ↦ failed values g.test n l.v-index l.sound c.loop-v-test.true (l.invariant n) (search rules) ∙ ap says (sym w.sound-is)
      | else-not-passes w ↦ passed values g.test n l.v-index l.sound c.loop-v-test.true (l.invariant n) (search rules) ∙ ap says (sym w.sound-is)
    ]
