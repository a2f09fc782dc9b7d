-- What a list's places leave in a table.
use Rattle.std.specs.Prelude.{ℕ, zero, suc, List, drop, set}
use Rattle.layout.specs.Bytes.{u32_at}

-- a table after n places of a list, each of eight bytes: where the word stands, and the word, whose value is put there unless that is past the end
abbrev pub filled : {A : Type 0} → (List ℕ → A) → ℕ → List ℕ → List A → List A
filled value zero list table = table
filled value (suc n) list table = filled value n (drop 8 list) (set table (u32_at list 0) (value list))
