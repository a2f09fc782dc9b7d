-- A block above another, by x, then y, then z, has the greater rank: so where blocks rise, none is compared with those before it. Assumes nothing.
use Rattle.std.proofs.Common.{◌≡◌, ◌<◌, true, T, ℤ, pos, negsuc, sym, ap, subst, arith, ltb-true}
use lib.Signed.{lt_z, le_z}
use Rattle.layout.specs.Coordinates.{Coord}
use Rattle.sparse_grid.specs.Validate.{block_in}
use Rattle.sparse_grid.specs.Biased.{raised}
use Rattle.sparse_grid.specs.BiasedLaws.{raised_pos, raised_neg}
use Rattle.sparse_grid.specs.Inner.{ranged, rank}
use Rattle.sparse_grid.proofs.Signs.{both, low, high, raised_below}
use Rattle.sparse_grid.proofs.Blocks.{ranged_all}

raised_rises : (a b : ℤ) → block_in a ≡ true → block_in b ≡ true → lt_z a b ≡ true → raised a < raised b
raised_rises (pos a) (pos b) r s h =
    let l = ltb-true a b h in
    let k = high b (both true (le_z (pos b) (pos 524287)) s).1 in
    omega (arith, raised_pos a (omega arith), raised_pos b k)
raised_rises (pos a) (negsuc b) r s h = absurd (subst T (sym h) tt)
raised_rises (negsuc a) (pos b) r s h =
    let k = low a (both (le_z (negsuc 524287) (negsuc a)) true r).0 in
    let m = high b (both true (le_z (pos b) (pos 524287)) s).1 in
    omega (arith, raised_neg a k, raised_pos b m)
raised_rises (negsuc a) (negsuc b) r s h =
    let l = ltb-true b a h in
    let k = low a (both (le_z (negsuc 524287) (negsuc a)) true r).0 in
    omega (arith, raised_neg a k, raised_neg b (omega arith))

module _ (a b : Coord) (p : ranged a ≡ true) (q : ranged b ≡ true) where
  pub by_x : lt_z a.x b.x ≡ true → rank a < rank b
  unfolding rank
  by_x h =
      let x = raised_rises a.x b.x (ranged_all a p).0 (ranged_all b q).0 h in
      let y = raised_below a.y (ranged_all a p).1 in
      let z = raised_below a.z (ranged_all a p).2 in
      omega arith

  pub by_y : a.x ≡ b.x → lt_z a.y b.y ≡ true → rank a < rank b
  unfolding rank
  by_y e h =
      let x = ap raised e in
      let y = raised_rises a.y b.y (ranged_all a p).1 (ranged_all b q).1 h in
      let z = raised_below a.z (ranged_all a p).2 in
      omega arith

  pub by_z : a.x ≡ b.x → a.y ≡ b.y → lt_z a.z b.z ≡ true → rank a < rank b
  unfolding rank
  by_z e f h =
      let x = ap raised e in
      let y = ap raised f in
      let z = raised_rises a.z b.z (ranged_all a p).2 (ranged_all b q).2 h in
      omega arith
