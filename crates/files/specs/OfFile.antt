-- The decode of grid n of a file into lent tables: the file's refusal, or what the bytes of the grid's part decode to.
use Rattle.std.specs.Prelude.{ℕ, List}
use Rattle.refusals.specs.Results.{Result, ok, bind}
use Rattle.contents.specs.Segments.{Part}
use Rattle.contents.specs.Contents.{pick, loaded}
use Rattle.nanovdb.specs.Nodes.{Places}
use Rattle.nanovdb.specs.Decode.{Accepted}
use Rattle.nanovdb.specs.Lent.{Lent, decode_into}

-- 19, 20, 21, and then the decode of those bytes alone, which begins with 18
unfoldable pub decode_part : (List ℕ → Places → Result Accepted) → List ℕ → ℕ → Lent → Result Accepted
decode_part decode b n l = bind (pick b n) (λ (p : Part). decode_into decode (loaded b (ok p)) l)
