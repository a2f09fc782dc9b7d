-- The two halves of a medium: the world box, which is tested before the tree is read, and the index box with the map.
use Rattle.std.specs.Prelude.{◌≡◌}
use Rattle.medium.specs.Medium.{Medium}

pub record SameWorld (m n : Medium) : Type 0 where
  pub low : m.low ≡ n.low
  pub high : m.high ≡ n.high

pub record SameFrame (m n : Medium) : Type 0 where
  pub index_low : m.index_low ≡ n.index_low
  pub index_high : m.index_high ≡ n.index_high
  pub map : m.map ≡ n.map
  pub translation : m.translation ≡ n.translation
