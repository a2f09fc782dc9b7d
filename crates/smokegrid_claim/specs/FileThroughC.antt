-- What C is told of a grid of a file: the part lies inside the file, and its bytes are those of the grid, or of its name. `ThroughC`
-- speaks of all bytes, so of these.
use Rattle.std.specs.Prelude.{ℕ, ◌+◌, ◌≤◌, ◌≡◌, List, length, take, drop}
use Rattle.refusals.specs.Results.{Result}
use Rattle.layout.specs.Bytes.{Bytes}
use Rattle.contents.specs.Segments.{Part}
use Rattle.contents.specs.Contents.{pick, pick_name, loaded}
use Rattle.smokegrid.specs.Promises.{GivesPart}

pub record Told (file : List ℕ) (p : Result Part) (least start size : ℕ) : Type 0 where
  pub inside : start + size ≤ length file
  pub long : least ≤ size
  pub part : take size (drop start file) ≡ loaded file p
  pub bytes : Bytes (take size (drop start file))

-- of a number 0: 736 bytes or more of a grid, a byte or more of its name
abbrev pub FileThroughC : Type 0
FileThroughC = (file : List ℕ) → Bytes file → (n start size : ℕ)
    → (GivesPart (pick file n) 0 start size → Told file (pick file n) 736 start size)
    × (GivesPart (pick_name file n) 0 start size → Told file (pick_name file n) 1 start size)
