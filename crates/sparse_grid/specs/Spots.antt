-- What the coordinates of one cube of 8 share of a lookup: where it ends. The leaves alone are read from there on.
use Rattle.std.specs.Prelude.{◌≡◌, List, [], Float}
use Rattle.std.specs.Int.Signed.{shr_z}
use Rattle.float.specs.Zero.{+0}
use Rattle.layout.specs.Coordinates.{Coord}
use Rattle.sparse_grid.specs.Tables.{Grid, grid_of}

-- the grid of these leaves: nothing above them counts
abbrev pub leaves_of : List Float → Grid
leaves_of leaf_values = grid_of +0 [] [] [] [] [] [] [] leaf_values

-- two coordinates in one cube of 8 a side
pub record Cube (c d : Coord) : Type 0 where
  pub x : shr_z c.x 8 ≡ shr_z d.x 8
  pub y : shr_z c.y 8 ≡ shr_z d.y 8
  pub z : shr_z c.z 8 ≡ shr_z d.z 8
