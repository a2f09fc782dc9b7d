-- What the code's answer says: the record of the definition, with the medium that its arrays are.
use Rattle.std.specs.Prelude.{Ok, Err, Result as Outcome}
use Rattle.refusals.specs.Results.{refused}
use Rattle.refusals.specs.Numbers.{number}
use Rattle.refusals.specs.declared.Refusal.{Refusal}
use Rattle.medium.specs.Record.{as_medium}
use Rattle.nanovdb.specs.Lent.{Answer, answer_of}
use Rattle.decode.specs.declared.Decoded as Code

-- a grid was read
abbrev pub counts : Code.Decoded → Answer
counts d = record {
  number = 0;
  roots = d.roots;
  upper = d.upper;
  lower = d.lower;
  leaf = d.leaf;
  background = d.background;
  medium = as_medium d.medium;
}

-- and zeros beside the number of a refusal
abbrev pub answer : Outcome Code.Decoded Refusal → Answer
answer (Ok d) = counts d
answer (Err e) = answer_of (refused (number e))
