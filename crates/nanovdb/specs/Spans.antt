-- The stretches of the bytes that have been read: which overlap, and which node starts where.
use Rattle.std.specs.Prelude.{ℕ, List, [], ◌∷◌, Bool, false, cond, ◌&&◌, ◌||◌, eqb, ltb}

-- a stretch of the bytes that has been read: the header and the root have level 3 and no number
pub record Span : Type 0 where
  pub start : ℕ
  pub end : ℕ
  pub level : ℕ
  pub number : ℕ

-- some span has a byte in common with start to end; spans may touch
unfoldable pub overlaps : List Span → ℕ → ℕ → Bool
overlaps [] start end = false
overlaps (s ∷ ss) start end = (ltb s.start end && ltb start s.end) || overlaps ss start end

pub data Seen : Type 0 where
  at : ℕ → Seen
  nowhere : Seen

-- the number of the node of this level that starts here, if it has been read
unfoldable pub seen : List Span → ℕ → ℕ → Seen
seen [] start level = nowhere
seen (s ∷ ss) start level =
    let rest = seen ss start level in
    cond (eqb s.start start && eqb s.level level) (at s.number) rest
