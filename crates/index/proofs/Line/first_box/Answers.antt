-- Both ends are coordinates, and std's greater and lesser clip them.
use Rattle.std.proofs.Common.{arith, rules}
use Rattle.float.proofs.WholeLaws.{one_literal_64}
use Rattle.index.specs.Axes.{first_on, first_low, first_high}
use Rattle.index.proofs.Steps.{greater_held, lesser_held}
use Rattle.index.proofs.Line.first_box.Goals as goal

pub returns : goal.returns
unfolding first_on first_low first_high
returns c =
    let l = c.args.self in
    let lo = greater_held c.max.result c.in_ok-lo.lo l.index_low c.max.ensures.value c.max.type_inv (search rules) (search rules) in
    let hi = lesser_held c.min.result c.in_ok-hi.hi l.index_high c.min.ensures.value c.min.type_inv (search rules) (search rules) in
    grind (arith, one_literal_64)
