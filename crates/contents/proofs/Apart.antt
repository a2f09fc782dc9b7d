-- Parts of different grids do not overlap: the one with the lower number ends before the other starts. Said once, for names and for bodies. Assumes nothing.
use Rattle.std.specs.Prelude.{◌≡◌, ◌⊎◌, Bool, true, false, cond, List, [], ◌∷◌, ltb, leb, length}
use Rattle.std.proofs.Common.{sym, arith, ltb-true, ltb-false}
use Rattle.std.proofs.Math.Logic.{inl, inr}
use Prim.Native.Nat.{ℕ, zero, suc, ◌+◌, ◌-◌, ◌≤◌, ◌<◌}
use Rattle.refusals.specs.Results.{Result, ok}
use Rattle.refusals.specs.ResultLaws.{stopped, ok_injective, bind_ok}
use Rattle.contents.specs.Segments.{Part, Grid, count, grid_at, segment_end}
use Rattle.contents.proofs.SegmentLaws.{entry_above, entry_before, name_before, body_above, body_before}
use Rattle.contents.specs.Contents.{places, grid_of, located, pick, pick_name}
use Rattle.contents.proofs.ContentsLaws.{cond_cases, found}

abbrev pub end : Part → ℕ
end p = p.start + p.length

-- a grid that is found from a place on is one of the segment there or of those to come
placed : (b : List ℕ) {h : Grid} (k at m : ℕ) → grid_of b (places (suc k) b at) m ≡ ok h
    → ((m < count b at) × (h ≡ grid_at b at m)) ⊎ ((count b at ≤ m) × (grid_of b (places k b (segment_end b at)) (m - count b at) ≡ ok h))
unfolding places grid_of
placed b {h} k at m e = go (leb (length b) at) e
  where
    later : Result Grid
    later = grid_of b (places k b (segment_end b at)) (m - count b at)

    go : (t : Bool) → grid_of b (cond t [] (at ∷ places k b (segment_end b at))) m ≡ ok h
        → ((m < count b at) × (h ≡ grid_at b at m)) ⊎ ((count b at ≤ m) × (later ≡ ok h))
    go true e = absurd (stopped e)
    go false e = elim (cond_cases (ltb m (count b at)) e) [
      | inl q ↦ inl (ltb-true m (count b at) q.0, sym (ok_injective q.1))
      | inr q ↦ inr (ltb-false m (count b at) q.0, q.1)
    ]

-- a part of each grid that stands past its segment's start, before the same part of each later grid, and before the segment's end
module _ (b : List ℕ) (of : Grid → Part)
    (above : (at i : ℕ) → at ≤ (of (grid_at b at i)).start)
    (before : (at i j : ℕ) → i < j → end (of (grid_at b at i)) ≤ (of (grid_at b at j)).start)
    (within : (at i : ℕ) → i < count b at → end (of (grid_at b at i)) ≤ segment_end b at) where
  starts_past : {h : Grid} (k at m : ℕ) → grid_of b (places k b at) m ≡ ok h → at ≤ (of h).start
  unfolding places grid_of
  starts_past zero at m e = absurd (stopped e)
  starts_past (suc k) at m e = elim (placed b k at m e) [
    | inl q ↦ rw q.1 (above at m)
    | inr q ↦ omega (arith, starts_past k (segment_end b at) (m - count b at) q.1, body_above b at (count b at))
  ]

  apart_from_lem : {g h : Grid} (k at n m : ℕ) → n < m → grid_of b (places k b at) n ≡ ok g → grid_of b (places k b at) m ≡ ok h
      → end (of g) ≤ (of h).start
  unfolding places grid_of
  apart_from_lem zero at n m l e f = absurd (stopped e)
  apart_from_lem (suc k) at n m l e f = elim (placed b k at n e) [
    | inl p ↦ elim (placed b k at m f) [
      | inl q ↦ rw (p.1, q.1) (before at n m l)
      | inr q ↦ rw p.1 (omega (arith, within at n p.0, starts_past k (segment_end b at) (m - count b at) q.1))
    ]
    | inr p ↦ elim (placed b k at m f) [
      | inl q ↦ absurd (omega (arith, p.0, q.0))
      | inr q ↦ apart_from_lem k (segment_end b at) (n - count b at) (m - count b at) (omega (arith, p.0)) p.1 q.1
    ]
  ]

  located_apart : {g h : Grid} (n m : ℕ) → n < m → located b n ≡ ok g → located b m ≡ ok h → end (of g) ≤ (of h).start
  located_apart n m l e f = apart_from_lem (length b - 0) 0 n m l (found b n e).1 (found b m f).1

module _ (b : List ℕ) (n m : ℕ) (l : n < m) {p q : Part} where
  pub bodies_apart : pick b n ≡ ok p → pick b m ≡ ok q → end p ≤ q.start
  unfolding pick
  bodies_apart e f =
      let g = bind_ok (located b n) (λ (g : Grid). ok g.body) e in
      let h = bind_ok (located b m) (λ (g : Grid). ok g.body) f in
      rw (← ok_injective g.2, ← ok_injective h.2)
      (located_apart b (λ (x : Grid). x.body) (λ at i. omega (arith, body_above b at i)) (λ at i j. body_before b at i j)
      (λ at i. body_before b at i (count b at)) n m l g.1 h.1)

  pub names_apart : pick_name b n ≡ ok p → pick_name b m ≡ ok q → end p ≤ q.start
  unfolding pick_name
  names_apart e f =
      let g = bind_ok (located b n) (λ (g : Grid). ok g.name) e in
      let h = bind_ok (located b m) (λ (g : Grid). ok g.name) f in
      rw (← ok_injective g.2, ← ok_injective h.2)
      (located_apart b (λ (x : Grid). x.name) (λ at i. omega (arith, entry_above b at i)) (λ at i j d. omega (arith, entry_before b at i j d))
      (λ at i d. name_before b at i (count b at) d) n m l g.1 h.1)
