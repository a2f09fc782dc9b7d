-- Worked examples: the six numbers of the two parts, axis by axis, and where a cut can stand.
use Rattle.std.specs.Prelude.{◌≡◌, refl, ℤ, pos, negsuc, ◌+ℤ◌}
use Rattle.std.specs.Int.Signed.{le_z_yes, lt_z_yes}
use Rattle.medium.specs.Medium.{x_axis, y_axis, z_axis}
use Rattle.boxes.specs.Boxes.{Box, between}
use Rattle.boxes.specs.Cuts.{up_to, past, Cuts, InsideOf}
use Rattle.boxes.proofs.CutLaws.{empty_inside}

-- the corners as `box_maximum` takes them
module _ (lx ly lz hx hy hz k : ℤ) where
  abbrev whole : Box
  whole = between lx ly lz hx hy hz

  along_x_lem : (up_to x_axis k whole ≡ between lx ly lz k hy hz) × (past x_axis k whole ≡ between (k +ℤ pos 1) ly lz hx hy hz)
  along_x_lem = (refl, refl)

  along_y_lem : (up_to y_axis k whole ≡ between lx ly lz hx k hz) × (past y_axis k whole ≡ between lx (k +ℤ pos 1) lz hx hy hz)
  along_y_lem = (refl, refl)

  along_z_lem : (up_to z_axis k whole ≡ between lx ly lz hx hy k) × (past z_axis k whole ≡ between lx ly (k +ℤ pos 1) hx hy hz)
  along_z_lem = (refl, refl)

-- -3 to 4 on x, cut after -1: -3 to -1 and 0 to 4
abbrev bar : Box
bar = between (negsuc 2) (pos 0) (pos 0) (pos 4) (pos 0) (pos 0)

bar_cut : Cuts x_axis (negsuc 0) bar
bar_cut = record { low = le_z_yes tt; high = lt_z_yes tt }

bar_parts : (up_to x_axis (negsuc 0) bar ≡ between (negsuc 2) (pos 0) (pos 0) (negsuc 0) (pos 0) (pos 0))
    × (past x_axis (negsuc 0) bar ≡ between (pos 0) (pos 0) (pos 0) (pos 4) (pos 0) (pos 0))
bar_parts = (refl, refl)

-- empty on y, it is cut on x all the same
abbrev hollow : Box
hollow = between (negsuc 2) (pos 1) (pos 0) (pos 4) (pos 0) (pos 0)

hollow_cut : Cuts x_axis (negsuc 0) hollow
hollow_cut = record { low = le_z_yes tt; high = lt_z_yes tt }

-- and it is inside every box
hollow_inside : (b : Box) → InsideOf hollow b
hollow_inside b = empty_inside b (record { axis = y_axis; turned = lt_z_yes tt })
