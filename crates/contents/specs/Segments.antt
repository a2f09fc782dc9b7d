-- One segment of a.nvdb file: a header of 16 bytes, for each grid an entry of 176 bytes and its name, then the bodies in the same order.
-- A byte past the end counts as 0, and no such byte decides: the tests are in order, and a field past the end has its fault before it is used.
use Rattle.std.specs.Prelude.{ℕ, zero, suc, ◌+◌, ◌/◌, ◌^◌, List, Bool, ◌&&◌, ◌||◌, eqb, ltb, leb, length}
use Rattle.refusals.specs.Faults.{◌then◌, unless, first_fault}
use Rattle.layout.specs.Bytes.{u16_at, u32_at, u64_at}

-- a part of the file's bytes
pub record Part : Type 0 where
  pub start : ℕ
  pub length : ℕ

abbrev pub part : ℕ → ℕ → Part
part start count = record { start = start; length = count }

-- the part that stands beside a refusal
abbrev pub no_part : Part
no_part = part 0 0

-- where the name of a grid and its body stand
pub record Grid : Type 0 where
  pub name : Part
  pub body : Part

-- ---- the header of the segment at `at`

abbrev pub version : List ℕ → ℕ → ℕ
version b at = u32_at b (at + 8)

-- how many grids the segment has
abbrev pub count : List ℕ → ℕ → ℕ
count b at = u16_at b (at + 12)

abbrev pub codec : List ℕ → ℕ → ℕ
codec b at = u16_at b (at + 14)

-- "NanoVDB0" or "NanoVDB2"
abbrev pub mark_passes : ℕ → Bool
mark_passes mark = eqb mark 0x304244566f6e614e || eqb mark 0x324244566f6e614e

-- a mark, a grid or more, and major version 32
unfoldable pub header_holds : List ℕ → ℕ → Bool
header_holds b at = mark_passes (u64_at b at) && ltb 0 (count b at) && eqb (version b at / 2 ^ 21) 32

-- the header is inside the file
abbrev pub header_passes : List ℕ → ℕ → Bool
header_passes b at = leb (at + 16) (length b) && header_holds b at

-- ---- an entry at `at`, after which its name stands

abbrev pub size : List ℕ → ℕ → ℕ
size b at = u64_at b at

abbrev pub name_length : List ℕ → ℕ → ℕ
name_length b at = u32_at b (at + 136)

-- the place after the name
abbrev pub entry_end : List ℕ → ℕ → ℕ
entry_end b at = at + 176 + name_length b at

-- codec and version are the segment's
abbrev pub alike : List ℕ → ℕ → ℕ → Bool
alike b segment at = eqb (u16_at b (at + 168)) (codec b segment) && eqb (u32_at b (at + 172)) (version b segment)

-- the name has a byte or more and is inside the file
abbrev pub named : List ℕ → ℕ → Bool
named b at = ltb 0 (name_length b at) && leb (entry_end b at) (length b)

unfoldable pub entry_holds : List ℕ → ℕ → ℕ → Bool
entry_holds b segment at = alike b segment at && named b at

-- the entry is inside the file
abbrev pub entry_passes : List ℕ → ℕ → ℕ → Bool
entry_passes b segment at = leb (at + 176) (length b) && entry_holds b segment at

-- a body at `at` in a file of `n` bytes
abbrev pub body_passes : ℕ → ℕ → ℕ → Bool
body_passes n at size = leb 736 size && leb (at + size) n

-- ---- the places in the segment at `at`: the first entry follows the header, and the first body the last name

unfoldable pub entry_at : List ℕ → ℕ → ℕ → ℕ
entry_at b at zero = at + 16
entry_at b at (suc i) = entry_end b (entry_at b at i)

unfoldable pub body_at : List ℕ → ℕ → ℕ → ℕ
unfolding entry_at
body_at b at zero = entry_at b at (count b at)
body_at b at (suc i) = body_at b at i + size b (entry_at b at i)

-- the place after the last body
abbrev pub segment_end : List ℕ → ℕ → ℕ
segment_end b at = body_at b at (count b at)

abbrev pub grid_at : List ℕ → ℕ → ℕ → Grid
grid_at b at i = let entry = entry_at b at i in record { name = part (entry + 176) (name_length b entry); body = part (body_at b at i) (size b entry) }

-- ---- the faults of the segment at `at`

abbrev pub entry_fault : List ℕ → ℕ → ℕ → ℕ
entry_fault b at i = unless (entry_passes b at (entry_at b at i)) 19

abbrev pub body_fault : List ℕ → ℕ → ℕ → ℕ
body_fault b at i = unless (body_passes (length b) (body_at b at i) (size b (entry_at b at i))) 19

abbrev pub entries_fault : List ℕ → ℕ → ℕ
entries_fault b at = first_fault (count b at) (entry_fault b at)

abbrev pub bodies_fault : List ℕ → ℕ → ℕ
bodies_fault b at = first_fault (count b at) (body_fault b at)

-- 20 once the entries and names pass, and before the bodies are looked at
unfoldable pub segment_fault : List ℕ → ℕ → ℕ
segment_fault b at = unless (header_passes b at) 19 then (entries_fault b at then (unless (eqb (codec b at) 0) 20 then bodies_fault b at))
