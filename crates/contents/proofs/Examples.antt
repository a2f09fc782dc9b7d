-- The definition on worked examples: a file of two segments with three grids, and files with one thing changed. Each is computed.
use Rattle.std.specs.Prelude.{◌≡◌, refl, List, [], ◌∷◌, ◌++◌, ℕ, replicate}
use Rattle.refusals.specs.Results.{ok, refused}
use Rattle.refusals.specs.Faults.{first_fault}
use Rattle.layout.specs.Bytes.{le}
use Rattle.layout.proofs.Sample.{field, written, bytes_of}
use Rattle.contents.specs.Segments.{part, header_holds, entry_holds, entry_at, body_at, segment_fault}
use Rattle.contents.specs.Contents.{places, segments_fault, grid_of, file_fault, located, pick, pick_name}

-- a header: mark, version, count of grids, codec
abbrev pub header : ℕ → ℕ → ℕ → ℕ → List ℕ
header mark version count codec = bytes_of 16 (field 0 8 mark ∷ field 8 4 version ∷ field 12 2 count ∷ field 14 2 codec ∷ [])

-- an entry and its name: the size of the body, the length of the name, codec, version
abbrev pub entry : ℕ → ℕ → ℕ → ℕ → List ℕ
entry size name codec version =
    bytes_of 176 (field 0 8 size ∷ field 136 4 name ∷ field 168 2 codec ∷ field 172 4 version ∷ []) ++ replicate name 65

abbrev zeros : ℕ → List ℕ
zeros n = replicate n 0

-- "NanoVDB0", "NanoVDB2", and version 32.0.0
abbrev pub old : ℕ
old = 0x304244566f6e614e

abbrev new : ℕ
new = 0x324244566f6e614e

abbrev pub v32 : ℕ
v32 = 67108864

-- a segment of one grid of 736 bytes, whose name has 5
abbrev one : ℕ → ℕ → List ℕ
one mark codec = header mark v32 1 codec ++ (entry 736 5 codec v32 ++ zeros 736)

-- two grids, of 736 and 740 bytes, and one after them
abbrev three : List ℕ
three = header old v32 2 0 ++ (entry 736 3 0 v32 ++ (entry 740 1 0 v32 ++ (zeros 1476 ++ one new 0)))

empty : pick [] 0 ≡ refused 19
unfolding pick pick_name located file_fault places segments_fault grid_of segment_fault header_holds entry_holds entry_at body_at first_fault le written
empty = refl

-- the bodies follow the last name, and the second segment the last body
bodies : (pick three 0 ≡ ok (part 372 736)) × (pick three 1 ≡ ok (part 1108 740)) × (pick three 2 ≡ ok (part 2045 736))
unfolding pick pick_name located file_fault places segments_fault grid_of segment_fault header_holds entry_holds entry_at body_at first_fault le written
bodies = (refl, refl, refl)

names : (pick_name three 0 ≡ ok (part 192 3)) × (pick_name three 1 ≡ ok (part 371 1)) × (pick_name three 2 ≡ ok (part 2040 5))
unfolding pick pick_name located file_fault places segments_fault grid_of segment_fault header_holds entry_holds entry_at body_at first_fault le written
names = (refl, refl, refl)

past_last : pick three 3 ≡ refused 21
unfolding pick pick_name located file_fault places segments_fault grid_of segment_fault header_holds entry_holds entry_at body_at first_fault le written
past_last = refl

-- a byte after the last body is a header past the end
byte_after : pick (three ++ (0 ∷ [])) 0 ≡ refused 19
unfolding pick pick_name located file_fault places segments_fault grid_of segment_fault header_holds entry_holds entry_at body_at first_fault le written
byte_after = refl

-- a body that lacks its last byte
cut : pick (header old v32 1 0 ++ (entry 736 5 0 v32 ++ zeros 735)) 0 ≡ refused 19
unfolding pick pick_name located file_fault places segments_fault grid_of segment_fault header_holds entry_holds entry_at body_at first_fault le written
cut = refl

-- a body under 736 bytes
short : pick (header old v32 1 0 ++ (entry 735 5 0 v32 ++ zeros 735)) 0 ≡ refused 19
unfolding pick pick_name located file_fault places segments_fault grid_of segment_fault header_holds entry_holds entry_at body_at first_fault le written
short = refl

-- the greatest size: no sum wraps
longest : pick (header old v32 1 0 ++ (entry 0xffffffffffffffff 5 0 v32 ++ zeros 736)) 0 ≡ refused 19
unfolding pick pick_name located file_fault places segments_fault grid_of segment_fault header_holds entry_holds entry_at body_at first_fault le written
longest = refl

-- a codec other than 0 comes before a body past the end
packed : pick (header old v32 1 1 ++ entry 736 5 1 v32) 0 ≡ refused 20
unfolding pick pick_name located file_fault places segments_fault grid_of segment_fault header_holds entry_holds entry_at body_at first_fault le written
packed = refl

-- an entry whose codec, or version in any bit, is not the segment's
unlike :
    (pick (header old v32 1 1 ++ (entry 736 5 0 v32 ++ zeros 736)) 0 ≡ refused 19)
    × (pick (header old v32 1 0 ++ (entry 736 5 0 67108865 ++ zeros 736)) 0 ≡ refused 19)
unfolding pick pick_name located file_fault places segments_fault grid_of segment_fault header_holds entry_holds entry_at body_at first_fault le written
unlike = (refl, refl)

nameless : pick (header old v32 1 0 ++ (entry 736 0 0 v32 ++ zeros 736)) 0 ≡ refused 19
unfolding pick pick_name located file_fault places segments_fault grid_of segment_fault header_holds entry_holds entry_at body_at first_fault le written
nameless = refl

-- a segment without grids, and major version 31
none :
    (pick (header old v32 0 0) 0 ≡ refused 19)
    × (pick (header old 65011712 1 0 ++ (entry 736 5 0 65011712 ++ zeros 736)) 0 ≡ refused 19)
unfolding pick pick_name located file_fault places segments_fault grid_of segment_fault header_holds entry_holds entry_at body_at first_fault le written
none = (refl, refl)

-- a fault of a later segment counts for each n, and comes before 21
later : (pick (one old 0 ++ one 7 0) 0 ≡ refused 19) × (pick (one old 0 ++ one new 1) 7 ≡ refused 20)
unfolding pick pick_name located file_fault places segments_fault grid_of segment_fault header_holds entry_holds entry_at body_at first_fault le written
later = (refl, refl)
