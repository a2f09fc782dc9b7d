-- What the answers of a load and of a reading say.
use Rattle.std.specs.Prelude.{ℕ, Float, Ok, Err, Result as Said}
use Rattle.refusals.specs.Results.{Result, ok, refused}
use Rattle.refusals.specs.Numbers.{number}
use Rattle.refusals.specs.declared.Refusal.{Refusal}
use Rattle.medium.specs.Medium.{Temperature, no_temperature}
use Rattle.medium.specs.Record.{as_temperature}
use Rattle.nanovdb.specs.Decode.{Accepted}
use Rattle.nanovdb.specs.Lent.{Answer, no_medium, answer_of}
use Rattle.temperature.specs.declared.Loaded as Code

-- the number (0 where there is a grid), how many roots and nodes are used, the background, and how the grid is read
pub record Loaded : Type 0 where
  pub number : ℕ
  pub roots : ℕ
  pub upper : ℕ
  pub lower : ℕ
  pub leaf : ℕ
  pub background : Float
  pub temperature : Temperature

-- what a record gains by a load: the temperature, or none after a refusal
abbrev pub gained : Temperature → Result Accepted → Temperature
gained t (ok a) = t
gained t (refused n) = no_temperature

abbrev pub loaded_of : Temperature → Result Accepted → Loaded
loaded_of t r = record {
  number = (answer_of r).number;
  roots = (answer_of r).roots;
  upper = (answer_of r).upper;
  lower = (answer_of r).lower;
  leaf = (answer_of r).leaf;
  background = (answer_of r).background;
  temperature = gained t r;
}

-- the counts and the background of a decode that was not refused, with this temperature
abbrev pub loaded_by : Temperature → Answer → Loaded
loaded_by t a = record {
  number = 0;
  roots = a.roots;
  upper = a.upper;
  lower = a.lower;
  leaf = a.leaf;
  background = a.background;
  temperature = t;
}

abbrev pub as_loaded : Code.Loaded → Loaded
as_loaded a = record {
  number = 0;
  roots = a.roots;
  upper = a.upper;
  lower = a.lower;
  leaf = a.leaf;
  background = a.background;
  temperature = as_temperature a.temperature;
}

-- what the code's answer says: after a refusal its number, and nothing loaded
abbrev pub loaded : Said Code.Loaded Refusal → Loaded
loaded (Ok a) = as_loaded a
loaded (Err e) = loaded_of no_temperature (refused (number e))

-- the counts and the background of a load as those of a decode
abbrev pub counts_in : Loaded → Answer
counts_in a = record {
  number = a.number;
  roots = a.roots;
  upper = a.upper;
  lower = a.lower;
  leaf = a.leaf;
  background = a.background;
  medium = no_medium;
}
