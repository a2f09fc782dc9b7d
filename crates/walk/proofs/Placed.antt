-- A sum over the coordinates of a box is the sum over its biased zone. Assumes nothing.
use Prim.Native.Nat.{ℕ, suc, ◌+◌, ◌-◌, ◌<◌}
use Rattle.std.proofs.Common.{arith, sym, ap, ◌∙◌, lt-ltb, le-ltb}
use Rattle.std.specs.Prelude.{◌≡◌, refl, Bool, cond, List, eqb, negsuc, ◌+ℤ◌, ◌-ℤ◌, Float}
use Rattle.std.proofs.Math.IntN.{ℤ, pos, +ℤ_comm, -ℤ-+ℤ_cancel}
use Rattle.std.specs.Int.Signed.{mag}
use Rattle.layout.specs.Coordinates.{Coord, Signed32}
use Rattle.sparse_grid.specs.Tables.{Grid}
use Rattle.sparse_grid.specs.Lookup.{read_in}
use Rattle.sparse_grid.specs.Biased.{back, place}
use Rattle.sparse_grid.specs.BiasedLaws.{back_low, back_high}
use Rattle.sparse_grid.specs.Count.{sum, bit, split_lt, sum_same}
use Rattle.boxes.specs.Boxes.{Box, span, count}
use Rattle.boxes.specs.RangeMax.{read_at}
use Rattle.walk.specs.Walk.{biased, zone_of}
use Rattle.walk.specs.Classes.{class, box_sum, class_count, box_size}
use Rattle.walk.proofs.Cubes.{biased_add}
use Rattle.walk.specs.Gather.{run, tally, volume}

back_add : (z : ℤ) (i : ℕ) → mag z < 2147483648 → z +ℤ pos i ≡ back 2147483648 (biased z + i)
back_add (pos a) i h = sym (back_high 2147483648 (2147483648 + a + i) (omega arith) ∙ ap pos (omega arith))
back_add (negsuc a) i h =
    split_lt i (suc a)
    (λ l. ap (λ (b : Bool). cond b (negsuc (suc a - suc i)) (pos (i - suc a))) (lt-ltb i (suc a) l)
    ∙ sym (back_low 2147483648 (2147483648 - (a + 1) + i) (omega arith) ∙ ap negsuc (omega arith)))
    (λ l. ap (λ (b : Bool). cond b (negsuc (suc a - suc i)) (pos (i - suc a))) (le-ltb i (suc a) l)
    ∙ sym (back_high 2147483648 (2147483648 - (a + 1) + i) (omega arith) ∙ ap pos (omega arith)))

pub span_biased : (lo hi : ℤ) → mag lo < 2147483648 → mag hi < 2147483648 → span lo hi ≡ biased hi + 1 - biased lo
span_biased lo hi h k = go (hi -ℤ lo) refl
  where
    go : (d : ℤ) → hi -ℤ lo ≡ d → count d ≡ biased hi + 1 - biased lo
    go (pos m) r =
        let w : hi ≡ lo +ℤ pos m = sym (-ℤ-+ℤ_cancel hi lo) ∙ ap (λ (x : ℤ). x +ℤ lo) r ∙ +ℤ_comm (pos m) lo in
        let u = ap biased w ∙ biased_add lo m h in omega arith
    go (negsuc m) r =
        let w : hi ≡ lo -ℤ pos (suc m) = sym (-ℤ-+ℤ_cancel hi lo) ∙ ap (λ (x : ℤ). x +ℤ lo) r ∙ +ℤ_comm (negsuc m) lo in
        let v : hi +ℤ pos (suc m) ≡ lo = ap (λ (x : ℤ). x +ℤ pos (suc m)) w ∙ -ℤ-+ℤ_cancel lo (pos (suc m)) in
        let u = sym (ap biased v) ∙ biased_add hi (suc m) k in omega arith

one_axis : (lo hi : ℤ) (f : ℤ → ℕ) → mag lo < 2147483648 → mag hi < 2147483648
    → sum (span lo hi) (λ i. f (lo +ℤ pos i)) ≡ run (biased lo) (biased hi + 1) (λ x. f (back 2147483648 x))
unfolding run
one_axis lo hi f h k = ap (λ (n : ℕ). sum n (λ i. f (lo +ℤ pos i))) (span_biased lo hi h k)
    ∙ sum_same (biased hi + 1 - biased lo) _ _ (λ i l. ap f (back_add lo i h))

module _ (b : Box) (low : Signed32 b.lo) (high : Signed32 b.hi) where
  pub box_tally : (f : Coord → ℕ) → box_sum f b ≡ tally (λ x y z. f (place x y z)) (zone_of b)
  unfolding box_sum tally
  box_tally f =
      sum_same (span b.lo.x b.hi.x) (λ i. plane (b.lo.x +ℤ pos i)) _ (λ i l.
      sum_same (span b.lo.y b.hi.y) (λ j. line (b.lo.x +ℤ pos i) (b.lo.y +ℤ pos j)) _
      (λ j m. one_axis b.lo.z b.hi.z (λ z. f (record { x = b.lo.x +ℤ pos i; y = b.lo.y +ℤ pos j; z = z })) low.z high.z)
      ∙ one_axis b.lo.y b.hi.y (λ y. line (b.lo.x +ℤ pos i) y) low.y high.y)
      ∙ one_axis b.lo.x b.hi.x plane low.x high.x
    where
      line : ℤ → ℤ → ℕ
      line x y = run (biased b.lo.z) (biased b.hi.z + 1) (λ z. f (record { x = x; y = y; z = back 2147483648 z }))

      plane : ℤ → ℕ
      plane x = run (biased b.lo.y) (biased b.hi.y + 1) (λ y. line x (back 2147483648 y))

  pub box_volume : box_size b ≡ volume (zone_of b)
  box_volume = rw (
    span_biased b.lo.x b.hi.x low.x high.x,
    span_biased b.lo.y b.hi.y low.y high.y,
    span_biased b.lo.z
        b.hi.z low.z high.z,
  )

  -- the count of a class, by biased places
  pub class_tally : (g : Grid) (ls : List Float) (k : ℕ)
      → class_count (read_in g) ls b k ≡ tally (λ x y z. bit (eqb (class ls (read_at g x y z)) k)) (zone_of b)
  unfolding read_at
  class_tally g ls k = box_tally (λ c. bit (eqb (class ls (read_in g c)) k))
