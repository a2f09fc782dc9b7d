-- A whole .nvdb file: its segments, the first fault in file order, and where grid n stands.
use Rattle.std.specs.Prelude.{ℕ, zero, suc, ◌+◌, ◌-◌, List, [], ◌∷◌, cond, ltb, leb, length, take, drop}
use Rattle.refusals.specs.Results.{Result, ok, refused, value_or, bind}
use Rattle.refusals.specs.Faults.{◌then◌, unless, passing}
use Rattle.contents.specs.Segments.{Part, no_part, Grid, count, segment_end, grid_at, segment_fault}

-- the places of up to `bound` segments from `at` on: each starts where the one before ends, up to the end of the file
unfoldable pub places : ℕ → List ℕ → ℕ → List ℕ
places zero b at = []
places (suc bound) b at = cond (leb (length b) at) [] (at ∷ places bound b (segment_end b at))

-- all the segments from `at` on: none is empty, so there are no more than bytes (`segments_end` and `segments_step` are free of the bound)
abbrev pub segments_from : List ℕ → ℕ → List ℕ
segments_from b at = places (length b - at) b at

-- the first fault of the segments in file order; what stands past it does not count
unfoldable pub segments_fault : List ℕ → List ℕ → ℕ
segments_fault b [] = 0
segments_fault b (at ∷ rest) = segment_fault b at then segments_fault b rest

-- grid n, counted from 0 through the segments
unfoldable pub grid_of : List ℕ → List ℕ → ℕ → Result Grid
grid_of b [] n = refused 21
grid_of b (at ∷ rest) n = cond (ltb n (count b at)) (ok (grid_at b at n)) (grid_of b rest (n - count b at))

-- how many grids the segments have: the numbers below it, and no others, are those of a grid (`picks`, `none_left`)
unfoldable pub grid_count : List ℕ → List ℕ → ℕ
grid_count b [] = 0
grid_count b (at ∷ rest) = count b at + grid_count b rest

-- 19 for an empty file
unfoldable pub file_fault : List ℕ → ℕ
unfolding places segments_fault
file_fault b = unless (ltb 0 (length b)) 19 then segments_fault b (segments_from b 0)

-- every segment is tested, whatever n is, and 21 comes last
unfoldable pub located : List ℕ → ℕ → Result Grid
unfolding file_fault places grid_of
located b n = passing (file_fault b) (grid_of b (segments_from b 0) n)

-- the part of the file that holds grid n
unfoldable pub pick : List ℕ → ℕ → Result Part
unfolding located
pick b n = bind (located b n) (λ (g : Grid). ok g.body)

-- the part that holds its name
unfoldable pub pick_name : List ℕ → ℕ → Result Part
unfolding located
pick_name b n = bind (located b n) (λ (g : Grid). ok g.name)

-- the bytes of a part, none after a refusal
abbrev pub loaded : List ℕ → Result Part → List ℕ
loaded b r = let p = value_or no_part r in take p.length (drop p.start b)
