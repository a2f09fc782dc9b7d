-- A temperature grid beside a density grid: its load, and a reading of it.
use Rattle.std.specs.Prelude.{ℕ, List, true, ◌&&◌, cond, Float}
use Rattle.std.specs.Float.{binary32}
use Rattle.std.specs.Float.Ieee.{sub, mul, to_bits}
use Rattle.std.specs.Float.Ieee.Scale.{finite}
use Rattle.refusals.specs.Results.{Result, ok, bind}
use Rattle.refusals.specs.Faults.{unless, passing}
use Rattle.layout.specs.Coordinates.{Coord}
use Rattle.sparse_grid.specs.Tables.{Grid}
use Rattle.sparse_grid.specs.Lookup.{lookup}
use Rattle.sparse_grid.specs.Answers.{value_only}
use Rattle.medium.specs.Medium.{Temperature}
use Rattle.nanovdb.specs.Decode.{Accepted, decode_scalar}
use Rattle.nanovdb.specs.Lent.{Lent, decode_into}

-- a temperature grid that is read by this offset and scale
abbrev pub heated : Float → Float → Temperature
heated offset scale = record { present = true; offset = offset; scale = scale }

-- 27: an offset or a scale that is not finite
abbrev pub heat_fault : Temperature → ℕ
heat_fault t = unless (finite t.offset && finite t.scale) 27

-- decode_scalar_grid into the lent tables, and then 27. The grid's own box and map are tested there and go no further.
unfoldable pub load_into : List ℕ → Temperature → Lent → Result Accepted
load_into b t l = bind (decode_into decode_scalar b l) (λ (a : Accepted). passing (heat_fault t) (ok a))

-- a value as a temperature, each step rounded
abbrev pub degrees : Temperature → Float → Float
degrees t v = mul binary32 (sub binary32 v t.offset) t.scale

-- the bits of what a lookup reads, as a temperature
abbrev pub read_by : Temperature → Result Float → Result ℕ
read_by t r = bind r (λ (v : Float). ok (to_bits binary32 (degrees t v)))

-- the bits of the reading at a coordinate of the temperature grid: 27 first, then the lookup's own. Without such a grid +0, with nothing tested.
unfoldable pub temperature_at : Temperature → Grid → Coord → Result ℕ
temperature_at t g c = cond t.present (passing (heat_fault t) (read_by t (value_only (lookup g c)))) (ok 0)
