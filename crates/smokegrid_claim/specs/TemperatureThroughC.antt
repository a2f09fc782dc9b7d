-- Temperature over what the contracts of the C interface say: what a load leaves is handed on as it is, and every reading is held to the bytes.
use Rattle.std.specs.Prelude.{ℕ, ◌≡◌, List, [], Float}
use Rattle.layout.specs.Bytes.{Bytes}
use Rattle.layout.specs.Coordinates.{Coord, Signed32}
use Rattle.sparse_grid.specs.Tables.{Grid}
use Rattle.nanovdb.specs.Lent.{Lent}
use Rattle.temperature.specs.ThroughLoad.{heat_in}
use Rattle.smokegrid.specs.Promises.{Left, HeatLeft, LoadsTemperature, GetsTemperature}
use Rattle.smokegrid_claim.specs.ThroughC.{used, Fits}

-- the tables, counts and background as a decode leaves them, with no medium beside
abbrev pub tables_in : HeatLeft → Left
tables_in l = record { tables = l.tables; counts = l.counts; background = l.background; medium = []; corners = []; cells = [] }

-- What holds of a temperature grid that the functions are handed.
pub record KeepsHeat (b : List ℕ) (offset scale : Float) (g : Grid) : Type 0 where
  -- a reading is not refused, and is the walk's value, less the offset, times the scale
  pub readings : (present : ℕ) → (present ≡ 0 → ⊥) → (c : Coord) → Signed32 c → (number bits : ℕ)
      → GetsTemperature present g offset scale c number bits → (number ≡ 0) × (bits ≡ heat_in b offset scale c)

-- a load that answers 0: the used parts of what it leaves lie within the tables, and their readings are those of the bytes
abbrev pub TemperatureThroughC : Type 0
TemperatureThroughC = (b : List ℕ) → Bytes b → (offset scale : Float) (lent : Lent) (counts number : ℕ) (left : HeatLeft)
    → LoadsTemperature b offset scale lent counts number left → number ≡ 0
    → Fits (tables_in left) × KeepsHeat b offset scale (used (tables_in left))

-- where `present` is 0 there is no grid: the answer is 0 and nothing is tested
abbrev pub NoneThroughC : Type 0
NoneThroughC = (g : Grid) (offset scale : Float) (c : Coord) (number bits : ℕ) → GetsTemperature 0 g offset scale c number bits
    → (number ≡ 0) × (bits ≡ 0)

-- no load answers 15
abbrev pub NeverNegative : Type 0
NeverNegative = (b : List ℕ) (offset scale : Float) (lent : Lent) (counts number : ℕ) (left : HeatLeft)
    → LoadsTemperature b offset scale lent counts number left → number ≡ 15 → ⊥
