-- Each turn tests the figure at the index.
use Rattle.figures.proofs.Tested.{begun, turned, ended}
use Rattle.figures.proofs.all_pass.Goals as goal

pub loop-v-init : goal.loop-v-init
loop-v-init g c = λ p same. begun

pub loop-v-preserved : goal.loop-v-preserved
loop-v-preserved g c = λ p same. turned (c.loop-v.invariant p same) c.loop-v-test.true (same _ _ c.passes-sound.ensures)

pub returns : goal.returns
returns g c = λ p same. ended (c.loop-v.invariant p same) c.loop-v-test.false
