-- The premise of `ThroughC` can be met: the 832-byte sample is accepted through C. What C is told of a level, on a grid of one tile.
use Rattle.std.specs.Prelude.{ℕ, ◌≡◌, refl, [], ◌∷◌, pos, Float}
use Rattle.refusals.specs.Results.{number_of}
use Rattle.float.specs.Zero.{+0}
use Rattle.layout.proofs.Sample.{sample}
use Rattle.layout.specs.Walk.{of_root, of_background}
use Rattle.sparse_grid.specs.Tables.{Grid, grid_of}
use Rattle.sparse_grid.specs.Validate.{pair_fault}
use Rattle.sparse_grid.specs.Lookup.{value, roots_from, lookup}
use Rattle.sparse_grid.specs.Answers.{at}
use Rattle.nanovdb.specs.Lent.{Lent, lent_fault, decode_into}
use Rattle.nanovdb.proofs.Examples as Nanovdb
use Rattle.smokegrid.specs.Flat.{Arrays, decode_flat}
use Rattle.smokegrid.specs.Promises.{GetsReading}

-- 999 roots, no nodes, and work for two spans
abbrev lent : Lent
lent = record {
  blocks = 2997;
  root_links = 999;
  root_values = 999;
  upper_links = 0;
  upper_values = 0;
  lower_links = 0;
  lower_values = 0;
  leaf_values = 0;
  work = 8;
}

abbrev arrays : Arrays
arrays = record { counts = 4; medium = 18; corners = 6; cells = 3 }

pub accepted : number_of (decode_flat sample lent arrays) ≡ 0
unfolding decode_flat decode_into lent_fault
accepted = Nanovdb.accepted

-- a tile at block (0, 0, 0) with the background's value
abbrev tile : Grid
tile = grid_of +0 (pos 0 ∷ pos 0 ∷ pos 0 ∷ []) (0 ∷ []) (+0 ∷ []) [] [] [] [] []

-- a level is where the lookup stopped, not what the value is
tile_levels : (lookup tile (at (pos 0) (pos 4095) (pos 7)) ≡ value +0 of_root) × (lookup tile (at (pos 4096) (pos 0) (pos 0)) ≡ value +0 of_background)
unfolding lookup roots_from pair_fault
tile_levels = (refl, refl)

pub tile_through_c : (number : ℕ) (v : Float) (level : ℕ) → GetsReading tile (at (pos 0) (pos 4095) (pos 7)) number v level → (number ≡ 0) × (level ≡ 1)
unfolding lookup roots_from pair_fault
tile_through_c number v level G = (G.number_is, G.level_is)
