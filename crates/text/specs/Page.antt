-- A lent slice that is written from a place on. What has no room is dropped.
use Rattle.std.specs.Prelude.{ℕ, ◌+◌, cond, List, [], ◌∷◌, ltb, length, set}

-- the slice, and the place of the next byte
pub record Page : Type 0 where
  pub cells : List ℕ
  pub at : ℕ

abbrev pub page : List ℕ → ℕ → Page
page l at = record { cells = l; at = at }

-- one byte more, where there is room
abbrev pub put : Page → ℕ → Page
put p b = cond (ltb p.at (length p.cells)) (page (set p.cells p.at b) (p.at + 1)) p

-- one byte after another
unfoldable pub puts : Page → List ℕ → Page
puts p [] = p
puts p (b ∷ bs) = puts (put p b) bs
