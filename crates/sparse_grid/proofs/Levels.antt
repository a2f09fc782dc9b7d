-- A biased number's slot on its axis.
use Rattle.std.proofs.Common.{◌≡◌, ℕ, ◌*◌, ◌%◌, inl, inr}
use Rattle.layout.specs.Coordinates.{mod_z}
use Rattle.sparse_grid.specs.Biased.{back}
use Rattle.sparse_grid.specs.BiasedLaws.{mod_8, mod_128, mod_4096}
use Rattle.sparse_grid.specs.Nodes.{IsLevel}

pub level_mod : (n d x : ℕ) → IsLevel n d → mod_z (back 2147483648 x) (n * d) ≡ x % (n * d)
level_mod n d x (inl (p, q)) = rw (p, q) (mod_8 x)
level_mod n d x (inr (inl (p, q))) = rw (p, q) (mod_128 x)
level_mod n d x (inr (inr (p, q))) = rw (p, q) (mod_4096 x)
