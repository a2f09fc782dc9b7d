-- The exit of a `?`: what is returned is the refusal of the test that stopped, and that is never no fault. Assumes nothing.
use Rattle.std.specs.Prelude.{◌≡◌, IsErrAnd, Err, Result as Answer}
use Rattle.std.proofs.Common.{ap, ◌∙◌, arith}
use Rattle.std.proofs.lemmas.Result.{err_from_is_err_and}
use Rattle.refusals.specs.Results.{refused}
use Rattle.refusals.specs.Numbers.{number, said_by, fault_of}
use Rattle.refusals.specs.declared.Refusal.{Refusal}
use Rattle.refusals.specs.declared.Refusal.TheVariants.{TooLong, TooShort, Header, WorldBox, PastEnd, Overlap, KeyBit, ChildTarget}
use Rattle.refusals.specs.declared.Refusal.TheVariants.{NoPlace, NodeCounts, Record, NotFinite, Map, IndexBox}
use Rattle.refusals.specs.declared.Refusal.TheVariants.{Negative, Coordinate, SecondBox, Tables, File, Codec, NoGrid}
use Rattle.refusals.specs.declared.Refusal.TheVariants.{Ray, Cells, Outside, Classes, Window, Temperature, Layer}

-- a refusal has a number
pub number_some : (e : Refusal) → number e ≡ 0 → ⊥
number_some TooLong h = omega arith
number_some TooShort h = omega arith
number_some Header h = omega arith
number_some WorldBox h = omega arith
number_some PastEnd h = omega arith
number_some Overlap h = omega arith
number_some KeyBit h = omega arith
number_some ChildTarget h = omega arith
number_some NoPlace h = omega arith
number_some NodeCounts h = omega arith
number_some Record h = omega arith
number_some NotFinite h = omega arith
number_some Map h = omega arith
number_some IndexBox h = omega arith
number_some Negative h = omega arith
number_some Coordinate h = omega arith
number_some SecondBox h = omega arith
number_some Tables h = omega arith
number_some File h = omega arith
number_some Codec h = omega arith
number_some NoGrid h = omega arith
number_some Ray h = omega arith
number_some Cells h = omega arith
number_some Outside h = omega arith
number_some Classes h = omega arith
number_some Window h = omega arith
number_some Temperature h = omega arith
number_some Layer h = omega arith

module _ {A : Type 0} (r : Answer A Refusal) (e : Refusal) (exit : IsErrAnd r (λ d. d ≡ e)) where
  pub exit_is : r ≡ Err e
  exit_is = let (d, is, same) = err_from_is_err_and r exit in is ∙ ap Err same

  pub exit_said : said_by r ≡ refused (number e)
  exit_said = ap said_by exit_is

  pub exit_fault : fault_of r ≡ number e
  exit_fault = ap fault_of exit_is
