-- A tile's value stands at every place of the part.
use Rattle.boxes.proofs.JoinedLaws.{joined_flat}
use Rattle.boxes.proofs.MostLaws.{low_corner}
use Rattle.majorant.proofs.node_max.MaximumGather.tile.Goals as goal

pub returns : goal.returns
returns g c f same =
    let p = c.args.part in
    let w = c.requires.0.full in (
      joined_flat c.requires.1 c.args.value same p.x.lo p.y.lo p.z.lo (low_corner w.x_some w.y_some w.z_some) c.greater-self.ensures,
      g.C.Count.laws.none c.args.self.now.counts,
    )
