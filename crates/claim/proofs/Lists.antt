-- A list of boxes of an accepted grid, from the bytes: it is not refused, each maximum is that of its box in the bytes, and the greatest is that of the
-- boxes together. Assumes nothing.
use Rattle.std.specs.Prelude.{ℕ, zero, suc, ◌*◌, ◌<◌, ◌≡◌, refl, ℤ, length, Float}
use native.Mathlib.Omega.{arith}
use Rattle.std.proofs.Math.Path.{ap}
use mathlib.Core.List.{List, [], ◌∷◌, ◌++◌}
use borrow.Author.Tests.{eq-eqb}
use Rattle.refusals.specs.Results.{Result, ok, bind}
use Rattle.refusals.specs.ResultLaws.{ok_injective}
use Rattle.refusals.specs.Faults.{◌then◌, unless, passing}
use Rattle.refusals.specs.FaultLaws.{passing_ok}
use Rattle.layout.specs.Coordinates.{Signed32}
use Rattle.layout.specs.Walk.{voxel}
use Rattle.sparse_grid.specs.Validate.{validate}
use Rattle.sparse_grid.specs.Lookup.{read_in}
use Rattle.nanovdb.specs.Decode.{Accepted}
use Rattle.boxes.specs.Boxes.{Box, box_maximum}
use Rattle.majorant.specs.Build.{public_maximum}
use Rattle.majorant.specs.Maxima.{box_at, maxima_of, maxima_into, greatest_of, greatest_into}
use Rattle.claim.specs.Claim.{Holds}
use Rattle.claim.specs.Promises.{SignedBoxes}

-- maxima that are alike box by box
maxima_alike : (f h : Box → Float) (boxes : List ℤ) (n : ℕ) → ((i : ℕ) → i < n → f (box_at boxes i) ≡ h (box_at boxes i))
    → maxima_of f boxes n ≡ maxima_of h boxes n
unfolding maxima_of
maxima_alike f h boxes zero e = refl
maxima_alike f h boxes (suc n) e =
    let rest = maxima_alike f h boxes n (λ i l. e i (omega arith)) in
    let last = e n (omega arith) in
    λ t. rest t ++ (last t ∷ [])

module _ (b : List ℕ) (t : Accepted) (holds : Holds b t) where
  -- what an answer of the single call says
  single : (x : Box) → Signed32 x.lo → Signed32 x.hi → (validate t.grid ≡ 0) × (box_maximum (read_in t.grid) x ≡ box_maximum (voxel b) x)
  unfolding public_maximum
  single x lo hi =
      let p = passing_ok (validate t.grid) (ok (box_maximum (read_in t.grid) x)) (holds.maxima x lo hi).0 in
      (p.0, ok_injective p.1)

  pub listed : (boxes : List ℤ) (n : ℕ) → length boxes ≡ 6 * n → SignedBoxes boxes n
      → maxima_into t.grid boxes n ≡ ok (maxima_of (box_maximum (voxel b)) boxes n)
  unfolding maxima_into
  listed boxes n long signed =
      let origin : Signed32 (box_at [] 0).lo = record { x = omega arith; y = omega arith; z = omega arith } in
      let valid = (single (box_at [] 0) origin origin).0 in
      let six = eq-eqb (length boxes) (6 * n) long in
      let same = maxima_alike (box_maximum (read_in t.grid)) (box_maximum (voxel b)) boxes n
      (λ i l. (single (box_at boxes i) (signed i l).0 (signed i l).1).1) in
      λ j. passing (unless (six j) 18 then valid j) (ok (same j))

  -- and the greatest of it
  pub listed_greatest : (boxes : List ℤ) (n : ℕ) → length boxes ≡ 6 * n → SignedBoxes boxes n
      → greatest_into t.grid boxes n ≡ ok (greatest_of (maxima_of (box_maximum (voxel b)) boxes n))
  unfolding greatest_into
  listed_greatest boxes n long signed =
      ap (λ (r : Result (List Float)). bind r (λ (l : List Float). ok (greatest_of l))) (listed boxes n long signed)
