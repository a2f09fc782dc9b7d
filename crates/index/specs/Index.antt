-- The index position of a world point, in the two ways that the build takes it.
use Rattle.std.specs.Prelude.{Float}
use Rattle.std.specs.Float.{binary32, binary64}
use Rattle.std.specs.Float.Ieee.{sub, mul}
use Rattle.float.specs.Fused.{fma, narrow}
use Rattle.medium.specs.Medium.{Point, Medium, Axis, map_at}

-- world_to_index_f on one axis: differences in f32, and three products of which the last is rounded by itself
unfoldable pub world_to_index : Medium → Point → Axis → Float
world_to_index m p a =
    fma binary32 (sub binary32 p.x m.translation.x) (map_at m a 0)
    (fma binary32 (sub binary32 p.y m.translation.y) (map_at m a 1)
    (mul binary32 (sub binary32 p.z m.translation.z) (map_at m a 2)))

-- majorant_index on one axis: differences and the last product in f64, each narrowed
unfoldable pub majorant_index : Medium → Point → Axis → Float
majorant_index m p a =
    fma binary32 (narrow (sub binary64 p.x m.translation.x)) (map_at m a 0)
    (fma binary32 (narrow (sub binary64 p.y m.translation.y)) (map_at m a 1)
    (narrow (mul binary64 (sub binary64 p.z m.translation.z) (map_at m a 2))))
