-- Nothing is met yet.
use Rattle.std.proofs.Common.{arith}
use Rattle.boxes.proofs.JoinedLaws.{joined_none}
use Rattle.majorant.proofs.node_max.MaximumGather.upper.Goals as goal

pub returns : goal.returns
returns g c f q r k h = (joined_none h (λ x y z s. omega (arith, s.x_low, s.x_high)), c.upper.ensures)
