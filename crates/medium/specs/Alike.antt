-- When two media are alike: the same corners of the world box, map and translation, from which the corners of a cell and an index
-- position are read. The index box, the numbers of cells and the temperature are left free.
use Rattle.std.specs.Prelude.{◌≡◌, refl}
use Rattle.medium.specs.Medium.{Medium, make_medium, with_temperature}

pub record Alike (m n : Medium) : Type 0 where
  pub low : n.low ≡ m.low
  pub high : n.high ≡ m.high
  pub map : n.map ≡ m.map
  pub translation : n.translation ≡ m.translation

pub alike_same : {m : Medium} → Alike m m
alike_same = record { low = refl; high = refl; map = refl; translation = refl }

-- so n is m but for the index box, the cells and the temperature: what does not read these is the same of both
pub alike_but_box : {m n : Medium} → Alike m n
    → n ≡ with_temperature n.temperature (make_medium m.low m.high n.index_low n.index_high m.map m.translation n.cells)
alike_but_box {n = n} A = λ i.
    with_temperature n.temperature
    (make_medium (A.low i) (A.high i) n.index_low n.index_high (A.map i) (A.translation i) n.cells)
