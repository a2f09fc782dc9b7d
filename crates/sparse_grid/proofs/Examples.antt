-- Worked examples: blocks and slots of coordinates below zero, faults of entries, and the lookup of a grid that has no roots.
use Rattle.std.specs.Prelude.{◌≡◌, ℕ, ◌/◌, Bool, true, cond, length, pos, negsuc, refl, Float}
use Rattle.std.proofs.Common.{ap, ◌∙◌, eq-eqb}
use Rattle.std.specs.Float.{nan, fin}
use Rattle.std.specs.Float.Ieee.{eq, lt}
use Rattle.layout.specs.Coordinates.{Coord, mod_z, slot, block_of}
use Rattle.layout.specs.Walk.{of_background}
use Rattle.sparse_grid.specs.Tables.{Grid}
use Rattle.sparse_grid.specs.Validate.{entry_fault, negative, pair_fault}
use Rattle.sparse_grid.specs.Lookup.{value, refused, roots_from, lookup}
use Rattle.sparse_grid.specs.Answers.{at}

-- -4097 lies in block -2, -4096 and -1 in block -1, 4095 in 0, 4096 in 1
pub blocks_below : block_of (at (negsuc 4096) (negsuc 4095) (negsuc 0)) ≡ at (negsuc 1) (negsuc 0) (negsuc 0)
blocks_below = refl

pub blocks_above : block_of (at (pos 0) (pos 4095) (pos 4096)) ≡ at (pos 0) (pos 0) (pos 1)
blocks_above = refl

-- coordinate -1 has slots 31, 15 and 7 at the three levels: on each axis, and so the last slot of its nodes
minus_one : (mod_z (negsuc 0) 4096 / 128 ≡ 31) × (mod_z (negsuc 0) 128 / 8 ≡ 15) × (mod_z (negsuc 0) 8 / 1 ≡ 7)
minus_one = (refl, refl, refl)

last_slots : let c = at (negsuc 0) (negsuc 0) (negsuc 0) in (slot 32 128 c ≡ 32767) × (slot 16 8 c ≡ 4095) × (slot 8 1 c ≡ 511)
last_slots = (refl, refl, refl)

-- z varies fastest
z_fastest : (slot 8 1 (at (pos 0) (pos 0) (pos 1)) ≡ 1) × (slot 8 1 (at (pos 0) (pos 1) (pos 0)) ≡ 8) × (slot 8 1 (at (pos 1) (pos 0) (pos 0)) ≡ 64)
z_fastest = (refl, refl, refl)

-- beside a child -0.0 passes, and NaN does not; a link past its table comes before its value
minus_zero : Float
minus_zero = fin true 0 (pos 0)

beside_child : (entry_fault 1 1 minus_zero ≡ 0) × (entry_fault 1 1 nan ≡ 11) × (entry_fault 1 2 nan ≡ 11)
    × (entry_fault 0 0 nan ≡ 12) × (entry_fault 0 0 minus_zero ≡ 0)
unfolding eq minus_zero
beside_child = (refl, refl, refl, refl, refl)

-- -0.0 is no negative density
zero_density : negative minus_zero ≡ 0
unfolding lt minus_zero
zero_density = refl

-- with no roots every lookup reads the background
pub no_roots : (g : Grid) (c : Coord) → pair_fault g ≡ 0 → length g.root_links ≡ 0 → lookup g c ≡ value g.background of_background
unfolding lookup roots_from
no_roots g c h e =
    ap (λ (t : Bool). cond t (roots_from g (length g.root_links) 0 c) (refused (pair_fault g))) (eq-eqb (pair_fault g) 0 h)
    ∙ ap (λ (n : ℕ). roots_from g n 0 c) e
