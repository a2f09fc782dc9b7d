-- Four tables raised one after another: what only the contracts of private functions cite.
use Rattle.std.specs.Prelude.{◌≡◌, List, length, Float}
use Rattle.window.specs.Tables.{raised}

-- each of the four is as long as l
abbrev pub Alike : List Float → List Float → List Float → List Float → List Float → Type 0
Alike l a b c d = (length a ≡ length l) × (length b ≡ length l) × (length c ≡ length l) × (length d ≡ length l)

abbrev pub raised_four : List Float → List Float → List Float → List Float → List Float → List Float
raised_four l a b c d = raised (raised (raised (raised l a) b) c) d
