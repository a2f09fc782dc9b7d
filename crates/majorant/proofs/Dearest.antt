-- The dearest box, over what the contract of `box_maximum_counted` says: no cube makes it read more, and one grid and place make it read as much.
use Rattle.std.specs.Prelude.{◌≡◌, ℕ, zero, suc, ◌≤◌, refl}
use Rattle.std.proofs.Common.{arith, sym, ap, ◌∙◌, subst}
use Rattle.refusals.specs.Results.{Result, ok, number_of, value_or}
use Rattle.refusals.specs.Faults.{passing}
use Rattle.sparse_grid.specs.Tables.{Grid}
use Rattle.sparse_grid.specs.Validate.{validate}
use Rattle.boxes.specs.Boxes.{Box}
use Rattle.walk.specs.Walk.{CubeBox}
use Rattle.walk.proofs.Cubes as cubes
use Rattle.walk.proofs.Reached as place
use Rattle.majorant.specs.Counted.{Read, NoDearer, AsDear, read_for, public_counted}

-- ---- what is answered

-- an answer that is not refused is of a valid grid
passed : (f : ℕ) (r s : Read) → passing f (ok r) ≡ ok s → (f ≡ 0) × (s ≡ r)
passed zero r s e = (refl, sym (ap (value_or r) e))
passed (suc n) r s e = absurd (never (ap number_of e))
  where
    never : suc n ≡ 0 → ⊥
    never h = omega arith

pub answered : (g : Grid) (b : Box) (r : Read) → public_counted g b ≡ ok r → (validate g ≡ 0) × (r ≡ read_for g b)
unfolding public_counted
answered g b r e = passed (validate g) (read_for g b) r e

pub answers : (g : Grid) (b : Box) → validate g ≡ 0 → public_counted g b ≡ ok (read_for g b)
unfolding public_counted
answers g b v = ap (λ (n : ℕ). passing n (ok (read_for g b))) v

-- ---- the two theorems

-- no grid that is not refused exceeds it, wherever the cube lies
pub never_dearer : (g : Grid) (b : Box) (n : ℕ) → CubeBox n b → (r : Read) → public_counted g b ≡ ok r → NoDearer n r
never_dearer g b n c r e =
    let a = answered g b r e in
    let h = cubes.never_dearer g b n a.0 c in
    subst (NoDearer n) (sym a.1) (record { roots = h.roots; uppers = h.uppers; lowers = h.lowers; leaves = h.leaves; all = h.all })

-- some grid and place reach it, for every side from 1 to 4,096: each of the four bounds, and so all together
pub reached : (n : ℕ) → 1 ≤ n → n ≤ 4096 → (g : Grid) × (b : Box) × CubeBox n b × ((r : Read) × (public_counted g b ≡ ok r) × AsDear n r)
reached n h k =
    let w = place.reached n h k in
    let g = w.0 in let b = w.1 in let d = w.2 in (
      g,
      b,
      d.cube,
      (
        read_for g b,
        answers g b d.valid,
        record { roots = d.roots; uppers = d.uppers; lowers = d.lowers; leaves = d.leaves; all = d.all },
      ),
    )
