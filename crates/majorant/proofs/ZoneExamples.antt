-- Worked examples: the 832-byte sample's tables cut in two, an empty box, and two roots that change places.
use Rattle.std.specs.Prelude.{◌≡◌, false, [], ◌∷◌, pos, negsuc, refl, Float}
use Rattle.std.specs.Int.Signed.{le_z_yes, lt_z_yes}
use Rattle.std.specs.Float.{binary32}
use Rattle.std.specs.Float.Ieee.{lt, of_bits}
use Rattle.refusals.specs.Results.{ok, said}
use Rattle.refusals.specs.Faults.{first_fault}
use Rattle.float.specs.Zero.{+0}
use Rattle.sparse_grid.specs.Tables.{Grid, grid_of}
use Rattle.sparse_grid.specs.Validate.{pair_fault, shape_fault, earlier, root_fault, validate}
use Rattle.sparse_grid.specs.Lookup.{roots_from, lookup}
use Rattle.sparse_grid.proofs.ReorderExamples.{two_roots, roots_swapped, two_valid, swapped}
use Rattle.medium.specs.Medium.{x_axis, y_axis}
use Rattle.boxes.specs.Boxes.{Box, between, greatest_run, box_maximum}
use Rattle.boxes.specs.Cuts.{up_to, past, Cuts}
use Rattle.boxes.proofs.CutLaws.{empty_inside}
use Rattle.majorant.specs.Build.{public_maximum}
use Rattle.majorant.specs.Zones.{Unchanged}
use Rattle.majorant.proofs.ZoneLaws.{inside_another, roots_reordered}

half : Float
half = of_bits binary32 0x3f00_0000

-- the tables that the 832-byte sample decodes to: background 0, one root tile of 0.5 in block (-1, 0, 0)
sample : Grid
sample = grid_of (of_bits binary32 0) (negsuc 0 ∷ pos 0 ∷ pos 0 ∷ []) (0 ∷ []) (half ∷ []) [] [] [] [] []

-- from x = -2 to 1, cut after -1, where the block ends: 0.5 and 0, and of the whole 0.5
abbrev bar : Box
bar = between (negsuc 1) (pos 0) (pos 0) (pos 1) (pos 0) (pos 0)

bar_cut : Cuts x_axis (negsuc 0) bar
bar_cut = record { low = le_z_yes tt; high = lt_z_yes tt }

sample_cut : (public_maximum sample (up_to x_axis (negsuc 0) bar) ≡ ok half) × (public_maximum sample (past x_axis (negsuc 0) bar) ≡ ok +0)
    × (public_maximum sample bar ≡ ok half)
unfolding public_maximum sample half validate pair_fault shape_fault first_fault root_fault earlier box_maximum greatest_run lookup roots_from lt of_bits
sample_cut = (refl, refl, refl)

-- low above high on y: no figure is below that of the empty box
abbrev hollow : Box
hollow = between (negsuc 1) (pos 1) (pos 0) (pos 1) (pos 0) (pos 0)

hollow_figure : (b : Box) → lt (said +0 (public_maximum sample b)).value (said +0 (public_maximum sample hollow)).value ≡ false
hollow_figure b = (inside_another sample hollow b (empty_inside b (record { axis = y_axis; turned = lt_z_yes tt })) _ _ refl refl).1

-- two roots that changed places: every answer is the old one
two_unchanged : Unchanged two_roots roots_swapped
two_unchanged = roots_reordered two_roots roots_swapped swapped two_valid
