-- How large the counts can get, so that the code's words hold them: all but the leaf values stay below 2^60, and those below 2^68. Assumes nothing.
use Rattle.std.specs.Prelude.{ℕ, ◌+◌, ◌*◌, ◌%◌, ◌^◌, ◌≤◌, ◌<◌, ◌≡◌, Bool, true, false, cond, ◌&&◌, ltb, eqb, length}
use native.Mathlib.Nat.{mul-le-mul, mul-le-mul_left, mul-one}
use Rattle.std.proofs.Common.{arith, ltb→lt}
use Rattle.refusals.specs.FaultLaws.{unless_zero}
use Rattle.refusals.specs.TestLaws.{and_l, and_r}
use Rattle.layout.specs.Coordinates.{Coord}
use Rattle.sparse_grid.specs.Tables.{Grid, block_at}
use Rattle.sparse_grid.specs.Validate.{validate, shape_fault}
use Rattle.sparse_grid.specs.Sound.{shaped}
use Rattle.sparse_grid.specs.Biased.{raised}
use Rattle.sparse_grid.specs.Count.{sum_most, bit_most}
use Rattle.boxes.specs.Boxes.{Box}
use Rattle.walk.specs.Walk.{
  Zone,
  Price,
  zone_of,
  meets,
  touches,
  lower_steps,
  upper_steps,
  root_steps,
  steps,
  roots_only,
  uppers_only,
  lowers_only,
  leaves_only,
  roots_read,
  uppers_read,
  lowers_read,
  leaves_read,
}
use Rattle.walk.proofs.Bound.{
  Axial,
  prod,
  lower_le,
  upper_le,
  root_le,
  values128,
  values4096,
  lowers128,
  lowers4096,
  uppers4096,
  root_top,
}
use Rattle.walk.proofs.Axes.{Counts, counts_values128, counts_values4096, counts_lowers128, counts_lowers4096, counts_uppers4096}

-- ---- one node, whatever the zone

axis_cap : (s r : ℕ) (f : Axial) → Counts s r f → (lo hi t : ℕ) → f lo hi t ≤ r
axis_cap s r f c lo hi t = let a = c lo hi t in let b = sum_most r 1 _ (λ j l. bit_most (meets s lo hi (r * t + j))) in let o = mul-one r in omega arith

prod_cap : (s r : ℕ) (f : Axial) → Counts s r f → (q : Zone) (a b c : ℕ) → prod q f a b c ≤ r * r * r
prod_cap s r f h q a b c = mul-le-mul (mul-le-mul (axis_cap s r f h q.x0 q.x1 a) (axis_cap s r f h q.y0 q.y1 b))
    (axis_cap s r f h q.z0 q.z1 c)

module _ (p : Price) (g : Grid) (q : Zone) where
  pub lower_cap : (k a b c : ℕ) → lower_steps p g q k a b c ≤ p.lower * 4096 + p.leaf * 2097152
  lower_cap k a b c =
      let e = lower_le p g q k a b c in
      let m = mul-le-mul_left p.lower (prod_cap 8 16 lowers128 counts_lowers128 q a b c) in
      let n = mul-le-mul_left p.leaf (prod_cap 1 128 values128 counts_values128 q a b c) in omega arith

  pub upper_cap : (k a b c : ℕ) → upper_steps p g q k a b c ≤ p.upper * 32768 + p.lower * 134217728 + p.leaf * 68719476736
  upper_cap k a b c =
      let e = upper_le p g q k a b c in
      let l = mul-le-mul_left p.upper (prod_cap 128 32 uppers4096 counts_uppers4096 q a b c) in
      let m = mul-le-mul_left p.lower (prod_cap 8 512 lowers4096 counts_lowers4096 q a b c) in
      let n = mul-le-mul_left p.leaf (prod_cap 1 4096 values4096 counts_values4096 q a b c) in omega arith

  -- a root and all that is below it
  abbrev root_cap : ℕ
  root_cap = p.root + p.upper * 32768 + p.lower * 134217728 + p.leaf * 68719476736

  root_cap_lem : (i : ℕ) (b : Coord) → root_steps p g q i b ≤ root_cap
  root_cap_lem i b =
      let h = root_le p g q i b in
      let x = raised b.x in let y = raised b.y in let z = raised b.z in
      let l = mul-le-mul_left p.upper (prod_cap 128 32 uppers4096 counts_uppers4096 q x y z) in
      let m = mul-le-mul_left p.lower (prod_cap 8 512 lowers4096 counts_lowers4096 q x y z) in
      let n = mul-le-mul_left p.leaf (prod_cap 1 4096 values4096 counts_values4096 q x y z) in
      let o = mul-one p.root in
      native.Mathlib.Nat.le_trans h (capped (touches 4096 q x y z) (root_top p g q x y z) root_cap (omega arith))
    where
      capped : (t : Bool) (u v : ℕ) → u ≤ v → cond t u 0 ≤ v
      capped true u v h = h
      capped false u v h = omega arith

  steps_cap : steps p g q ≤ length g.root_links * root_cap
  unfolding steps
  steps_cap = sum_most (length g.root_links) root_cap _ (λ i l. root_cap_lem i (block_at g i))

-- ---- a valid grid

few_roots : (g : Grid) → validate g ≡ 0 → length g.root_links < 4294967296
unfolding shape_fault
few_roots g v =
    let r = ltb (length g.root_links) (2 ^ 32) in
    let u = ltb (length g.upper_links) (2 ^ 32) in let l = ltb (length g.lower_links) (2 ^ 32) in let f = ltb (length g.leaf_values) (2 ^ 32) in
    let w = eqb (length g.upper_links % 32768) 0 && eqb (length g.lower_links % 4096) 0 && eqb (length g.leaf_values % 512) 0 in
    ltb→lt (length g.root_links) (2 ^ 32)
    (and_r w r (and_l (w && r) u (and_l (w && r && u) l (and_l (w && r && u && l) f (unless_zero (w && r && u && l && f) 17 (shaped g v))))))

pub record Held (g : Grid) (b : Box) : Type 0 where
  pub roots : roots_read g b < 2 ^ 32
  pub uppers : uppers_read g b < 2 ^ 47
  pub lowers : lowers_read g b < 2 ^ 59
  pub leaves : leaves_read g b < 2 ^ 68

pub held : (g : Grid) (b : Box) → validate g ≡ 0 → Held g b
held g b v =
    let n = few_roots g v in record {
      roots = let h = steps_cap roots_only g (zone_of b) in omega arith;
      uppers = let h = steps_cap uppers_only g (zone_of b) in omega arith;
      lowers = let h = steps_cap lowers_only g (zone_of b) in omega arith;
      leaves = let h = steps_cap leaves_only g (zone_of b) in omega arith;
    }
