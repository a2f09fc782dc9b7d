-- The numbers of a line.
use Rattle.std.specs.Prelude.{ℕ, List, [], ◌∷◌, ◌++◌}
use Rattle.report.specs.Report.{newline, number}

-- each behind a blank, and the end of the line
abbrev pub numbers : List ℕ → List ℕ
numbers [] = newline
numbers (n ∷ ns) = number n ++ numbers ns
