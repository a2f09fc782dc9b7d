-- What the code's axes and ends stand for, and what an answer that holds ends says.
use Rattle.std.specs.Prelude.{ℤ, Float, Ok, Err, Result as Answer}
use Rattle.refusals.specs.Results.{Result, ok, refused, bind}
use Rattle.refusals.specs.Numbers.{number}
use Rattle.refusals.specs.declared.Refusal.{Refusal}
use Rattle.medium.specs.Medium.{Axis, x_axis, y_axis, z_axis}
use Rattle.index.specs.Cells.{Ends}
use Rattle.index.specs.Axes.{Both, second_low, second_high}
use Rattle.index.specs.declared.Axis as Code
use Rattle.index.specs.declared.Axis.TheVariants.{X, Y, Z}
use Rattle.index.specs.declared.Ends as CodeEnds
use Rattle.index.specs.declared.CellEnds.{CellEnds}

abbrev pub as_axis : Code.Axis → Axis
as_axis X = x_axis
as_axis Y = y_axis
as_axis Z = z_axis

abbrev pub as_ends : CodeEnds.Ends → Ends
as_ends e = record { lo = e.lo; hi = e.hi }

abbrev pub as_both : CellEnds → Both
as_both b = record { first = as_ends b.first; second = as_ends b.second }

-- what an answer says, of whose value f says what it stands for
abbrev pub said_as : {A B : Type 0} → (A → B) → Answer A Refusal → Result B
said_as f (Ok a) = ok (f a)
said_as f (Err e) = refused (number e)

-- the floor of v, and one more than the floor of w; 16 where one lies outside i32
abbrev pub floors_of : Float → Float → Result Ends
floors_of v w = bind (second_low v) (λ (a : ℤ). bind (second_high w) (λ (b : ℤ). ok (record { lo = a; hi = b })))
