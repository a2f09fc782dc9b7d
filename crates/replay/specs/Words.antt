-- What a word of a list says in a table of bytes.
use Rattle.std.specs.Prelude.{ℕ, ◌%◌, List}
use Rattle.layout.specs.Bytes.{u32_at}

-- the lowest of its bytes
abbrev pub byte_word : List ℕ → ℕ → ℕ
byte_word list at = u32_at list at % 256
