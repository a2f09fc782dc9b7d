-- The numbers of the refusals, and what an answer or a test of the program says.
use Rattle.std.specs.Prelude.{ℕ, Ok, Err, Result as Answer}
use Rattle.refusals.specs.Results.{Result, ok, refused}
use Rattle.refusals.specs.declared.Refusal.{Refusal}
use Rattle.refusals.specs.declared.Refusal.TheVariants.{TooLong, TooShort, Header, WorldBox, PastEnd, Overlap, KeyBit, ChildTarget}
use Rattle.refusals.specs.declared.Refusal.TheVariants.{NoPlace, NodeCounts, Record, NotFinite, Map, IndexBox}
use Rattle.refusals.specs.declared.Refusal.TheVariants.{Negative, Coordinate, SecondBox, Tables, File, Codec, NoGrid}
use Rattle.refusals.specs.declared.Refusal.TheVariants.{Ray, Cells, Outside, Classes, Window, Temperature, Layer}

-- the number that document 01 or 02 gives a refusal
abbrev pub number : Refusal → ℕ
number TooLong = 1
number TooShort = 2
number Header = 3
number WorldBox = 4
number PastEnd = 5
number Overlap = 6
number KeyBit = 7
number ChildTarget = 8
number NoPlace = 9
number NodeCounts = 10
number Record = 11
number NotFinite = 12
number Map = 13
number IndexBox = 14
number Negative = 15
number Coordinate = 16
number SecondBox = 17
number Tables = 18
number File = 19
number Codec = 20
number NoGrid = 21
number Ray = 22
number Cells = 23
number Outside = 24
number Classes = 25
number Window = 26
number Temperature = 27
number Layer = 28

-- what an answer says: a value, or the number of the refusal that stands in its place
abbrev pub said_by : {A : Type 0} → Answer A Refusal → Result A
said_by (Ok a) = ok a
said_by (Err e) = refused (number e)

-- what a test says: the number of its refusal, and 0 where it passes
abbrev pub fault_of : {A : Type 0} → Answer A Refusal → ℕ
fault_of (Ok a) = 0
fault_of (Err e) = number e
