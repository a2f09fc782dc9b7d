-- The field where the end test passes, and 5 where it does not.
use Rattle.layout.proofs.Laws.{read_value, read_refused}
use Rattle.layout.proofs.read.Goals as goal

pub returns-then-inside : goal.returns-then-inside
returns-then-inside g c = read_value g.T.Field.field _ _ c.WIDTH.ensures c.inside.ensures c.if-inside.true c.at.ensures

pub returns-else-inside : goal.returns-else-inside
returns-else-inside g c = read_refused g.T.Field.field _ _ c.WIDTH.ensures c.inside.ensures c.if-inside.false
