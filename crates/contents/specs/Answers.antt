-- What the code's answers say: the grid or the part, or the number of the refusal.
use Rattle.std.specs.Prelude.{Ok, Err, Result as Answer}
use Rattle.refusals.specs.Results.{Result, ok, refused}
use Rattle.refusals.specs.Numbers.{number}
use Rattle.refusals.specs.declared.Refusal.{Refusal}
use Rattle.contents.specs.Segments as S
use Rattle.contents.specs.declared.Span.{Span}

abbrev pub as_span : Span → S.Part
as_span p = S.part p.start p.length

abbrev pub span_said : Answer Span Refusal → Result S.Part
span_said (Ok p) = ok (as_span p)
span_said (Err e) = refused (number e)
