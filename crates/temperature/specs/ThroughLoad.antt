-- What is claimed of a temperature grid that has loaded: on the left what the functions answered and left, on the right the bytes.
use Rattle.std.specs.Prelude.{ℕ, ◌≡◌, List, Float, Result as Answer}
use Rattle.std.specs.Float.{binary32}
use Rattle.std.specs.Float.Ieee.{to_bits}
use Rattle.refusals.specs.Results.{ok}
use Rattle.refusals.specs.Numbers.{said_by}
use Rattle.refusals.specs.declared.Refusal.{Refusal}
use Rattle.layout.specs.Bytes.{Bytes}
use Rattle.layout.specs.Coordinates.{Coord, Signed32}
use Rattle.layout.specs.Walk.{voxel}
use Rattle.nanovdb.specs.Lent.{Lent, Tables, left_of, filled, Used, used_of}
use Rattle.temperature.specs.Temperature.{heated, load_into, degrees, temperature_at}
use Rattle.temperature.specs.Answers.{Loaded, loaded_of, counts_in}

-- the bits of the temperature that the walk of the bytes reads: its value, less the offset, times the scale
abbrev pub heat_in : List ℕ → Float → Float → Coord → ℕ
heat_in b offset scale c = to_bits binary32 (degrees (heated offset scale) (voxel b c))

-- What a load that answered 0 hands on: the used parts that it counts lie within the tables and zeros stand past them, and no
-- reading of them is refused.
pub record HandedHeat (b : List ℕ) (offset scale : Float) (l : Lent) (a : Loaded) (left : Tables) : Type 0 where
  pub room : Used (counts_in a) left
  pub tables : left ≡ filled l (used_of (counts_in a) left)
  pub temperature : a.temperature ≡ heated offset scale
  pub readings : (c : Coord) → Signed32 c → (h : Answer ℕ Refusal) → said_by h ≡ temperature_at a.temperature (used_of (counts_in a) left) c
      → said_by h ≡ ok (heat_in b offset scale c)

-- of every load: a is what it answered, and left what it left in the lent tables
abbrev pub ThroughLoad : Type 0
ThroughLoad = (b : List ℕ) → Bytes b → (offset scale : Float) (l : Lent) (a : Loaded) (left : Tables)
    → a ≡ loaded_of (heated offset scale) (load_into b (heated offset scale) l) → left ≡ left_of l (load_into b (heated offset scale) l)
    → a.number ≡ 0 → HandedHeat b offset scale l a left
