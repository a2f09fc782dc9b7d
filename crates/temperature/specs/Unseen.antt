-- Records that differ in their temperature alone, and functions of the other fields; what follows is proofs/Unseen.
use Rattle.std.specs.Prelude.{◌≡◌}
use Rattle.medium.specs.Medium.{Medium, make_medium}

-- a record without its temperature: what is made of its other fields
abbrev pub bare : Medium → Medium
bare m = make_medium m.low m.high m.index_low m.index_high m.map m.translation m.cells

-- a function of a record's other fields
abbrev pub OfTheRest : {A : Type 0} → (Medium → A) → Type 0
OfTheRest f = (m : Medium) → f m ≡ f (bare m)

-- two records that differ in temperature only
abbrev pub ButTemperature : Medium → Medium → Type 0
ButTemperature m n = bare m ≡ bare n
