-- Load, and ask: what the accepted grid and its figures answer to a question.
use Rattle.std.specs.Prelude.{ℕ, List, get_or, Float}
use Rattle.refusals.specs.Results.{ok, value_or, bind}
use Rattle.float.specs.Zero.{+0}
use Rattle.layout.specs.Coordinates.{Coord}
use Rattle.layout.specs.Walk.{voxel}
use Rattle.medium.specs.Medium.{Point}
use Rattle.nanovdb.specs.Decode.{Accepted, medium_of}
use Rattle.index.specs.Found.{cell_at}
use Rattle.boxes.specs.Boxes.{Box, box_maximum}
use Rattle.claim.specs.Load as Load
use Rattle.claim.specs.Load.{Loaded, load_answer}

pub record Question : Type 0 where
  pub coordinate : Coord
  pub box : Box
  pub point : Point

-- what the load answers; the voxel and the greatest of zero and the voxels of the box, +0 after a refused decode; the number and
-- the figure of a cell that encloses the point (the number of cells and +0 where none does), 0 and +0 after a refused build
pub record Answer : Type 0 where
  pub load : Load.Answer
  pub value : Float
  pub maximum : Float
  pub cell : ℕ
  pub figure : Float

-- voxels, corners and the map are read from the bytes
abbrev pub answer : List ℕ → Question → Loaded → Answer
answer b q r =
    let k = cell_at (medium_of b) (medium_of b).cells q.point in
    record {
      load = load_answer r;
      value = value_or +0 (bind r.decoded (λ (t : Accepted). ok (voxel b q.coordinate)));
      maximum = value_or +0 (bind r.decoded (λ (t : Accepted). ok (box_maximum (voxel b) q.box)));
      cell = value_or 0 (bind r.built (λ (f : List Float). ok k));
      figure = value_or +0 (bind r.built (λ (f : List Float). ok (get_or f k +0)));
    }
