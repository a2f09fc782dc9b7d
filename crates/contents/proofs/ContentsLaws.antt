-- Laws of a file's contents: the bound on the segments does not matter; a part is inside the file; what is loaded is the grid's own bytes; and in a file
-- without a fault the numbers below the count of grids, and no others, have a part. Assumes nothing.
use Rattle.std.specs.Prelude.{◌≡◌, refl, ◌⊎◌, Bool, true, false, cond, List, [], ◌∷◌, ◌++◌, ltb, leb, take, drop}
use Rattle.std.proofs.Common.{sym, ap, ◌∙◌, inl, inr, length-take, length-drop, take-append-drop, drop-drop, get_or-drop}
use Prim.Native.Nat.{ℕ, zero, suc, ◌+◌, ◌-◌, ◌≤◌, ◌<◌}
use native.Mathlib.Omega.{arith}
use Rattle.std.proofs.Math.ListN.{length}
use Rattle.std.proofs.Math.Seq.{drop-append_seam, take-append_seam}
use borrow.Author.Tests.{le-leb, lt-leb, leb-false, ltb-true, ltb-false, le-ltb}
use Rattle.refusals.specs.Results.{Result, ok, refused, value_or, bind}
use Rattle.refusals.specs.ResultLaws.{stopped, ok_injective, bind_ok}
use Rattle.refusals.specs.Faults.{unless}
use Rattle.refusals.specs.FaultLaws.{then_zero, passing_ok}
use Rattle.refusals.proofs.FaultSteps.{passing_stop}
use Rattle.layout.specs.Bytes.{Bytes}
use Rattle.contents.specs.Segments.{Part, no_part, Grid, count, entry_at, segment_end, grid_at, segment_fault}
use Rattle.contents.proofs.SegmentLaws.{sound, entry_passes_lem, entry_inside, name_some, body_above, body_inside, body_long}
use Rattle.contents.specs.Contents.{places, segments_from, segments_fault, grid_of, grid_count, file_fault, located, pick, pick_name, loaded}

-- ---- choices

cond_same : {A : Type 0} (t : Bool) (x : A) {y z : A} → (t ≡ false → y ≡ z) → cond t x y ≡ cond t x z
cond_same true x h = refl
cond_same false x h = h refl

pub cond_cases : {A : Type 0} (t : Bool) {x y z : A} → cond t x y ≡ z → ((t ≡ true) × (x ≡ z)) ⊎ ((t ≡ false) × (y ≡ z))
cond_cases true e = inl (refl, e)
cond_cases false e = inr (refl, e)

-- ---- the segments, free of the bound

places_end : (b : List ℕ) (k at : ℕ) → length b ≤ at → places k b at ≡ []
unfolding places
places_end b zero at h = refl
places_end b (suc k) at h = rw (le-leb (length b) at h)

-- a bound as great as the number of bytes that are left is as good as any other
pub places_enough : (b : List ℕ) (j k at : ℕ) → length b - at ≤ j → length b - at ≤ k → places j b at ≡ places k b at
unfolding places
places_enough b zero k at p q = sym (places_end b k at (omega arith))
places_enough b (suc j) zero at p q = places_end b (suc j) at (omega arith)
places_enough b (suc j) (suc k) at p q = cond_same (leb (length b) at) [] (λ t.
    let inside = leb-false (length b) at t in let grows = body_above b at (count b at) in
    ap (λ (l : List ℕ). at ∷ l) (places_enough b j k (segment_end b at) (omega arith) (omega arith)))

module _ (b : List ℕ) (at : ℕ) where
  pub segments_end : length b ≤ at → segments_from b at ≡ []
  segments_end h = places_end b (length b - at) at h

  pub segments_step : at < length b → segments_from b at ≡ at ∷ segments_from b (segment_end b at)
  unfolding places
  segments_step h =
      let k = length b - at - 1 in
      let grows = body_above b at (count b at) in
      let one : length b - at ≡ suc k = omega arith in
      rw (one, lt-leb (length b) at h, places_enough b k (length b - segment_end b at) (segment_end b at) (omega arith) (omega arith))

-- ---- a grid that is found stands in a segment without a fault

pub record Stands (b : List ℕ) (g : Grid) : Type 0 where
  pub segment : ℕ
  pub place : ℕ
  pub sound : segment_fault b segment ≡ 0
  pub below : place < count b segment
  pub same : g ≡ grid_at b segment place

stands : (b : List ℕ) {g : Grid} (l : List ℕ) (n : ℕ) → segments_fault b l ≡ 0 → grid_of b l n ≡ ok g → Stands b g
unfolding segments_fault grid_of
stands b [] n e h = absurd (stopped h)
stands b {g} (at ∷ rest) n e h =
    let f = then_zero (segment_fault b at) (segments_fault b rest) e in
    elim (cond_cases (ltb n (count b at)) h) [
      | inl q ↦ record { segment = at; place = n; sound = f.0; below = ltb-true n (count b at) q.0; same = sym (ok_injective q.1) }
      | inr q ↦ stands b rest (n - count b at) f.1 q.1
    ]

-- the name has a byte or more and the body 736 or more, and both are inside the file
pub record Inside (n : ℕ) (g : Grid) : Type 0 where
  pub name : g.name.start + g.name.length ≤ n
  pub named : 0 < g.name.length
  pub body : g.body.start + g.body.length ≤ n
  pub long : 736 ≤ g.body.length

module _ (b : List ℕ) (n : ℕ) where
  pub found : {g : Grid} → located b n ≡ ok g → (file_fault b ≡ 0) × (grid_of b (segments_from b 0) n ≡ ok g)
  unfolding located
  found e = passing_ok (file_fault b) (grid_of b (segments_from b 0) n) e

  pub located_stands : {g : Grid} → located b n ≡ ok g → Stands b g
  unfolding file_fault
  located_stands e =
      let f = found e in
      stands b (segments_from b 0) n (then_zero (unless (ltb 0 (length b)) 19) (segments_fault b (segments_from b 0)) f.0).1 f.1

  pub located_inside : {g : Grid} → located b n ≡ ok g → Inside (length b) g
  located_inside e =
      let s = located_stands e in
      let ok = sound b s.segment s.sound in
      rw s.same (record {
        name = entry_inside b s.segment ok.entries s.place s.below;
        named = name_some b s.segment (entry_at b s.segment s.place) (entry_passes_lem b s.segment ok.entries s.place s.below);
        body = body_inside b s.segment ok.bodies s.place s.below;
        long = body_long b s.segment ok.bodies s.place s.below;
      })

  -- the part that is picked
  pub pick_inside : {p : Part} → pick b n ≡ ok p → (p.start + p.length ≤ length b) × (736 ≤ p.length)
  unfolding pick
  pick_inside e =
      let g = bind_ok (located b n) (λ (g : Grid). ok g.body) e in
      let i = located_inside g.1 in
      rw (← ok_injective g.2) (i.body, i.long)

  pub pick_name_inside : {p : Part} → pick_name b n ≡ ok p → (p.start + p.length ≤ length b) × (0 < p.length)
  unfolding pick_name
  pick_name_inside e =
      let g = bind_ok (located b n) (λ (g : Grid). ok g.name) e in
      let i = located_inside g.1 in
      rw (← ok_injective g.2) (i.name, i.named)

-- ---- the bytes that are loaded

pub refused_bytes : (b : List ℕ) (k : ℕ) → loaded b (refused k) ≡ []
refused_bytes b k = refl

taken_bytes : (k : ℕ) (b : List ℕ) → Bytes b → Bytes (take k b)
taken_bytes zero b h i = omega arith
taken_bytes (suc k) [] h i = omega arith
taken_bytes (suc k) (x ∷ b) h zero = h 0
taken_bytes (suc k) (x ∷ b) h (suc i) = taken_bytes k b (λ j. h (suc j)) i

-- they are bytes as the file's are
pub loaded_bytes : (b : List ℕ) → Bytes b → (r : Result Part) → Bytes (loaded b r)
loaded_bytes b h r = let p = value_or no_part r in taken_bytes p.length (drop p.start b) (λ i. rw (get_or-drop p.start b i 0) (h (p.start + i)))

module _ (b : List ℕ) (n : ℕ) {p : Part} (e : pick b n ≡ ok p) where
  pub picked_bytes : loaded b (pick b n) ≡ take p.length (drop p.start b)
  picked_bytes = rw e

  pub picked_length : length (loaded b (pick b n)) ≡ p.length
  picked_length = let i = (pick_inside b n e).0 in rw picked_bytes (simp (length-take, length-drop) (omega arith))

  -- the same bytes alone, whatever stands before and after them, load exactly so
  pub loads_alone : {A : Type 0} (load : List ℕ → A) (before grid after : List ℕ) → b ≡ before ++ (grid ++ after)
      → p.start ≡ length before → p.length ≡ length grid → load (loaded b (pick b n)) ≡ load grid
  loads_alone load before grid after s q r =
      ap load (picked_bytes ∙ rw (s, q, r, drop-append_seam before (grid ++ after), take-append_seam grid after))

  -- what stands before the part, the part, and what stands after it make up the file
  pub split : b ≡ take p.start b ++ (loaded b (pick b n) ++ drop (p.start + p.length) b)
  split =
      let tail = drop-drop p.length p.start b in
      let rest = take-append-drop p.length (drop p.start b) in
      rw (picked_bytes, ← tail, rest, take-append-drop p.start b)

-- ---- which numbers have a grid

below_count : (b l : List ℕ) (n : ℕ) → n < grid_count b l → (g : Grid) × (grid_of b l n ≡ ok g)
unfolding grid_count grid_of
below_count b [] n h = absurd (omega arith)
below_count b (at ∷ rest) n h = go (ltb n (count b at)) (ltb-false n (count b at)) (λ q. below_count b rest (n - count b at) (omega arith))
  where
    later : Result Grid
    later = grid_of b rest (n - count b at)

    go : (t : Bool) → (t ≡ false → count b at ≤ n) → (count b at ≤ n → (g : Grid) × (later ≡ ok g))
        → (g : Grid) × (cond t (ok (grid_at b at n)) later ≡ ok g)
    go true q f = (grid_at b at n, refl)
    go false q f = f (q refl)

past_count : (b l : List ℕ) (n : ℕ) → grid_count b l ≤ n → grid_of b l n ≡ refused 21
unfolding grid_count grid_of
past_count b [] n h = refl
past_count b (at ∷ rest) n h = rw (le-ltb n (count b at) (omega arith)) (past_count b rest (n - count b at) (omega arith))

module _ (b : List ℕ) (n : ℕ) (sound : file_fault b ≡ 0) where
  pub picks : n < grid_count b (segments_from b 0) → (p : Part) × (pick b n ≡ ok p)
  unfolding pick located
  picks h = let g = below_count b (segments_from b 0) n h in (g.0.body, rw (sound, g.1))

  pub none_left : grid_count b (segments_from b 0) ≤ n → pick b n ≡ refused 21
  unfolding pick located
  none_left h = rw (sound, past_count b (segments_from b 0) n h)

-- a fault is the answer, whatever n is
pub faulty : (b : List ℕ) (n : ℕ) → (file_fault b ≡ 0 → ⊥) → pick b n ≡ refused (file_fault b)
unfolding pick located
faulty b n h = ap (λ (r : Result Grid). bind r (λ (g : Grid). ok g.body)) (passing_stop (file_fault b) (grid_of b (segments_from b 0) n) h)
