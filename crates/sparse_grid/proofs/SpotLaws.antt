-- Coordinates of one cube of 8 have one block and one slot in each node above a leaf. Assumes nothing.
use Rattle.std.specs.Prelude.{◌≡◌, ℕ, ◌+◌, ◌-◌, ◌*◌, ◌/◌, ◌%◌, ℤ, pos, negsuc}
use Rattle.std.proofs.Common.{arith, refl, sym, ap, ◌∙◌}
use Rattle.std.specs.Int.Signed.{shr_z}
use Rattle.layout.specs.Coordinates.{Coord, mod_z, slot, block_of}
use Rattle.sparse_grid.specs.Tables.{Grid}
use Rattle.sparse_grid.specs.Spots.{leaves_of, Cube}
use Rattle.sparse_grid.specs.Ends.{found_at}
use Rattle.sparse_grid.specs.declared.lookup.Spot.{Spot}
use Rattle.sparse_grid.specs.declared.lookup.Spot.TheVariants.{Leaf, Value}

-- a slot and a block by the number of the cube
in_lower : ℤ → ℕ
in_lower (pos q) = q % 16
in_lower (negsuc q) = 15 - q % 16

in_upper : ℤ → ℕ
in_upper (pos q) = q / 16 % 32
in_upper (negsuc q) = 31 - q / 16 % 32

in_block : ℤ → ℤ
in_block (pos q) = pos (q / 512)
in_block (negsuc q) = negsuc (q / 512)

lower_is : (z : ℤ) → mod_z z 128 / 8 ≡ in_lower (shr_z z 8)
unfolding in_lower
lower_is (pos a) = omega arith
lower_is (negsuc a) = omega arith

upper_is : (z : ℤ) → mod_z z 4096 / 128 ≡ in_upper (shr_z z 8)
unfolding in_upper
upper_is (pos a) = omega arith
upper_is (negsuc a) = omega arith

block_is : (z : ℤ) → shr_z z 4096 ≡ in_block (shr_z z 8)
unfolding in_block
block_is (pos a) = ap pos (omega arith)
block_is (negsuc a) = ap negsuc (omega arith)

module _ {A : Type 0} (f : ℤ → A) (g : ℤ → A) (is : (z : ℤ) → f z ≡ g (shr_z z 8)) where
  pub along : (a b : ℤ) → shr_z a 8 ≡ shr_z b 8 → f a ≡ f b
  along a b e = is a ∙ ap g e ∙ sym (is b)

module _ {c d : Coord} (s : Cube c d) where
  pub lower_same : slot 16 8 c ≡ slot 16 8 d
  lower_same =
      let f : ℤ → ℕ = λ z. mod_z z 128 / 8 in
      λ i. (along f in_lower lower_is c.x d.x s.x i * 16 + along f in_lower lower_is c.y d.y s.y i) * 16
      + along f in_lower lower_is c.z d.z s.z i

  pub upper_same : slot 32 128 c ≡ slot 32 128 d
  upper_same =
      let f : ℤ → ℕ = λ z. mod_z z 4096 / 128 in
      λ i. (along f in_upper upper_is c.x d.x s.x i * 32 + along f in_upper upper_is c.y d.y s.y i) * 32
      + along f in_upper upper_is c.z d.z s.z i

  pub block_same : block_of c ≡ block_of d
  block_same =
      let f : ℤ → ℤ = λ z. shr_z z 4096 in
      λ i. record {
        x = along f in_block block_is c.x d.x s.x i;
        y = along f in_block block_is c.y d.y s.y i;
        z = along f in_block block_is c.z d.z s.z i;
      }

-- what stands above the leaves does not count from a spot on
pub from_leaves : (g : Grid) (s : Spot) (c : Coord) → found_at (leaves_of g.leaf_values) s c ≡ found_at g s c
from_leaves g (Leaf k) c = refl
from_leaves g (Value v l) c = refl
