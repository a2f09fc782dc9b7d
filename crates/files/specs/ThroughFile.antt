-- The one claim over a decode out of a file: what it answered and left is held to the bytes of the grid's part.
use Rattle.std.specs.Prelude.{ℕ, ◌≡◌, List}
use Rattle.layout.specs.Bytes.{Bytes}
use Rattle.contents.specs.Contents.{pick, loaded}
use Rattle.nanovdb.specs.Decode.{decode_density}
use Rattle.nanovdb.specs.Lent.{Lent, Answer, Tables, answer_of, left_of}
use Rattle.claim.specs.Promises.{Handed}
use Rattle.files.specs.OfFile.{decode_part}

abbrev pub ThroughFile : Type 0
ThroughFile = (file : List ℕ) → Bytes file → (n : ℕ) (l : Lent) (a : Answer) (left : Tables)
    → a ≡ answer_of (decode_part decode_density file n l) → left ≡ left_of l (decode_part decode_density file n l)
    → a.number ≡ 0 → Handed (loaded file (pick file n)) l a left
