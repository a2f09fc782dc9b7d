-- Worked examples: no roots and a background that is not above zero, in any box.
use Rattle.std.specs.Prelude.{◌≡◌, ℕ, zero, suc, Bool, false, cond, [], length, ℤ, pos, ◌+ℤ◌, refl, Float}
use Rattle.std.proofs.Common.{ap, ◌∙◌}
use Rattle.std.specs.Float.{binary32}
use Rattle.std.specs.Float.Ieee.{lt, of_bits}
use Rattle.refusals.specs.Results.{ok}
use Rattle.refusals.specs.Faults.{first_fault, passing}
use Rattle.float.specs.Zero.{+0}
use Rattle.layout.specs.Coordinates.{Coord}
use Rattle.sparse_grid.specs.Tables.{Grid, grid_of}
use Rattle.sparse_grid.specs.Validate.{pair_fault, shape_fault, validate}
use Rattle.sparse_grid.specs.Lookup.{read_in, value_in}
use Rattle.sparse_grid.proofs.Examples.{no_roots}
use Rattle.boxes.specs.Boxes.{Box, greater, greatest_run, span, box_maximum}
use Rattle.majorant.specs.Build.{public_maximum}

-- nothing above +0 raises it
unraised : (v : Float) → lt +0 v ≡ false → greater +0 v ≡ +0
unraised v h = ap (λ (t : Bool). cond t v +0) h

flat : (n : ℕ) (from : ℤ) (f : ℤ → Float) → ((z : ℤ) → lt +0 (f z) ≡ false) → greatest_run n from f ≡ +0
unfolding greatest_run
flat zero from f h = refl
flat (suc n) from f h = ap (λ (r : Float). greater r (f (from +ℤ pos n))) (flat n from f h) ∙ unraised (f (from +ℤ pos n)) (h (from +ℤ pos n))

zero_below : lt +0 +0 ≡ false
unfolding lt
zero_below = refl

-- where nothing that is read is above +0, the maximum is +0
pub none_above : (read : Coord → Float) (b : Box) → ((c : Coord) → lt +0 (read c) ≡ false) → box_maximum read b ≡ +0
unfolding box_maximum
none_above read b h =
    flat (span b.lo.x b.hi.x) b.lo.x _ (λ x. below (plane x))
  where
    line : (x y : ℤ) → greatest_run (span b.lo.z b.hi.z) b.lo.z (λ z. read (record { x = x; y = y; z = z })) ≡ +0
    line x y = flat (span b.lo.z b.hi.z) b.lo.z _ (λ z. h (record { x = x; y = y; z = z }))

    below : {v : Float} → v ≡ +0 → lt +0 v ≡ false
    below e = ap (lt +0) e ∙ zero_below

    plane : (x : ℤ) → greatest_run (span b.lo.y b.hi.y) b.lo.y
        (λ y. greatest_run (span b.lo.z b.hi.z) b.lo.z (λ z. read (record { x = x; y = y; z = z }))) ≡ +0
    plane x = flat (span b.lo.y b.hi.y) b.lo.y _ (λ y. below (line x y))

-- no roots: every lookup reads the background, so the maximum of any box is +0 where the background is not above it
pub rootless : (g : Grid) (b : Box) → pair_fault g ≡ 0 → length g.root_links ≡ 0 → lt +0 g.background ≡ false → box_maximum (read_in g) b ≡ +0
rootless g b p e h = none_above (read_in g) b (λ c. ap (lt +0) (ap value_in (no_roots g c p e)) ∙ h)

-- no roots and background -2, any box: 0
pub rootless_grid : Grid
rootless_grid = grid_of (of_bits binary32 0xc000_0000) [] [] [] [] [] [] [] []

rootless_passes : validate rootless_grid ≡ 0
unfolding rootless_grid validate pair_fault shape_fault first_fault of_bits
rootless_passes = refl

rootless_paired : pair_fault rootless_grid ≡ 0
unfolding rootless_grid pair_fault
rootless_paired = refl

rootless_below : lt +0 rootless_grid.background ≡ false
unfolding rootless_grid lt of_bits
rootless_below = refl

rootless_none : length rootless_grid.root_links ≡ 0
unfolding rootless_grid
rootless_none = refl

pub minus_two : (b : Box) → public_maximum rootless_grid b ≡ ok +0
unfolding public_maximum
minus_two b =
    ap (λ (n : ℕ). passing n (ok (box_maximum (read_in rootless_grid) b))) rootless_passes
    ∙ ap ok (rootless rootless_grid b rootless_paired rootless_none rootless_below)
