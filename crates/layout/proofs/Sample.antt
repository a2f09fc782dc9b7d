-- The worked example: a grid of 832 bytes whose root has one tile, 0.5 in block (-1, 0, 0), beside a background of 0.
use Rattle.std.specs.Prelude.{ℕ, zero, suc, ◌+◌, ◌%◌, ◌/◌, List, [], ◌∷◌, ◌++◌, set, replicate}

-- a field of the layout: where it stands, its width in bytes and its number
pub record Field : Type 0 where
  pub at : ℕ
  pub width : ℕ
  pub number : ℕ

abbrev pub field : ℕ → ℕ → ℕ → Field
field at width number = record { at = at; width = width; number = number }

-- b with a number's bytes from `at` on, the lowest first
unfoldable pub put : ℕ → ℕ → ℕ → List ℕ → List ℕ
put at zero number b = b
put at (suc width) number b = put (at + 1) width (number / 256) (set b at (number % 256))

-- `size` zeros with these fields in them; a later field stands over an earlier one
unfoldable pub written : List Field → List ℕ → List ℕ
unfolding put
written [] b = b
written (f ∷ fs) b = written fs (put f.at f.width f.number b)

abbrev pub bytes_of : ℕ → List Field → List ℕ
bytes_of size fs = written fs (replicate size 0)

-- a header that passes: mark, version, count, size, the unit map, the world box from (-8, 0, 0) to (0, 8, 8), class, type, and the root's offset
abbrev pub header : ℕ → ℕ → List Field
header size root =
    field 0 8 0x304244566f6e614e ∷ field 16 4 67108864 ∷ field 28 4 1 ∷ field 32 8 size
    ∷ field 332 4 0x3f800000 ∷ field 348 4 0x3f800000 ∷ field 364 4 0x3f800000
    ∷ field 560 8 0xc020000000000000 ∷ field 592 8 0x4020000000000000 ∷ field 600 8 0x4020000000000000
    ∷ field 632 4 2 ∷ field 636 4 1 ∷ field 696 8 root ∷ []

-- a root at `at`: the index box from (-8, 0, 0) to (-1, 7, 7), and its tile count
abbrev pub root_at : ℕ → ℕ → List Field
root_at at count = field at 4 0xfffffff8 ∷ field (at + 12) 4 0xffffffff ∷ field (at + 16) 4 7 ∷ field (at + 20) 4 7 ∷ field (at + 24) 4 count ∷ []

-- a tile of the root: its key and its value
abbrev pub tile_at : ℕ → ℕ → ℕ → List Field
tile_at at key number = field at 8 key ∷ field (at + 20) 4 number ∷ []

-- the sample with these fields in place of its own
abbrev pub sample_with : List Field → List ℕ
sample_with fs = bytes_of 832 (header 832 64 ++ (root_at 736 1 ++ (tile_at 800 0x3ffffc0000000000 0x3f000000 ++ fs)))

unfoldable pub sample : List ℕ
unfolding written
sample = sample_with []
