-- The floor is taken by way of an f64.
use Rattle.std.proofs.Common.{ap, ◌∙◌, rules}
use Rattle.std.specs.Float.{binary32, binary64}
use Rattle.std.specs.Float.Ieee.{sub}
use Rattle.float.specs.Fused.{floor, narrow}
use Rattle.float.proofs.Parts.{floor_by_64}
use Rattle.mix.specs.Mix.{part}
use Rattle.mix.proofs.point.part.Goals as goal

pub returns : goal.returns
unfolding part
returns c =
    let p = c.args.p in
    ap (sub binary32 p) (c.narrow.ensures ∙ ap narrow (c.floor.ensures ∙ ap (floor binary64) c.widen.ensures) ∙ floor_by_64 p (search rules))
