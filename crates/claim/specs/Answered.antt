-- The one claim of an answer and of the tables that it leaves. Everything is read from the bytes.
use Rattle.std.specs.Prelude.{◌≡◌, List, false, ℕ, ◌<◌, get_or, Float}
use Rattle.std.specs.Float.{binary32}
use Rattle.std.specs.Float.Ieee.{to_bits, lt}
use Rattle.float.specs.Zero.{+0}
use Rattle.layout.specs.Coordinates.{Coord, Signed32}
use Rattle.layout.specs.Walk.{walk, voxel}
use Rattle.cells.specs.Cells.{cell_count}
use Rattle.nanovdb.specs.Decode.{medium_of}
use Rattle.nanovdb.specs.Lent.{Lent, Tables}
use Rattle.boxes.specs.Boxes.{Greatest}
use Rattle.claim.specs.Claim.{Inside, Around, Encloses}
use Rattle.claim.specs.Load.{load, tables_left, figures_left, Claimed}
use Rattle.claim.specs.Ask.{Question, Answer, answer}

-- the cell and the figure, where the build answered 0
pub record Figured (b : List ℕ) (q : Question) (a : Answer) (table : List Float) : Type 0 where
  pub found : Inside b q.point → a.cell < cell_count (medium_of b).cells
  pub encloses : a.cell < cell_count (medium_of b).cells → Encloses b (medium_of b).cells a.cell q.point
  pub figure : a.figure ≡ get_or table a.cell +0
  pub bounded : Inside b q.point → (c : Coord) → Around b q.point c → Signed32 c × (lt a.figure (voxel b c) ≡ false)

-- of an answer whose decode answered 0, whatever the build answered
pub record Answered (b : List ℕ) (l : Lent) (q : Question) (a : Answer) (left : Tables) (table : List Float) : Type 0 where
  pub load : Claimed b l a.load left table
  pub value : to_bits binary32 a.value ≡ (walk b q.coordinate).bits
  pub maximum : Greatest (voxel b) q.box a.maximum
  pub cell : a.load.build ≡ 0 → Figured b q a table

-- What `ask` promises: what it answers and leaves, and the claim.
pub record Asks (b : List ℕ) (l : Lent) (places : ℕ) (q : Question) (a : Answer) (left : Tables) (table : List Float) : Type 0 where
  pub answer_is : a ≡ answer b q (load b l places)
  pub tables_are : left ≡ tables_left l (load b l places)
  pub figures_are : table ≡ figures_left places (load b l places)
  pub claim : a.load.decode.number ≡ 0 → Answered b l q a left table
