-- A decode into lent tables: what their lengths allow, what the answer says, and what is left in the tables.
use Rattle.std.specs.Prelude.{ℕ, ◌*◌, ◌/◌, ◌≤◌, List, [], ◌∷◌, ◌&&◌, eqb, ℤ, pos, length, replicate, take, Float}
use Rattle.refusals.specs.Results.{Result, ok, refused}
use Rattle.refusals.specs.Faults.{unless, passing}
use Rattle.float.specs.Zero.{+0}
use Rattle.lent.specs.Padded.{padded}
use Rattle.layout.specs.Coordinates.{Coord}
use Rattle.sparse_grid.specs.Tables.{Grid, grid_of}
use Rattle.cells.specs.Cells.{cells}
use Rattle.medium.specs.Medium.{Point, Medium, make_medium}
use Rattle.nanovdb.specs.Nodes.{Places}
use Rattle.nanovdb.specs.Decode.{Accepted}

-- ---- what is lent

-- the lengths of the lent tables
pub record Lent : Type 0 where
  pub blocks : ℕ
  pub root_links : ℕ
  pub root_values : ℕ
  pub upper_links : ℕ
  pub upper_values : ℕ
  pub lower_links : ℕ
  pub lower_values : ℕ
  pub leaf_values : ℕ
  pub work : ℕ

-- 18 for paired tables of unequal length, or blocks that are not three a root
unfoldable pub lent_fault : Lent → ℕ
lent_fault l = unless (eqb l.root_links l.root_values && eqb l.blocks (3 * l.root_links) && eqb l.upper_links l.upper_values && eqb
    l.lower_links l.lower_values) 18

-- four words a span, and whole nodes
abbrev pub places_of : Lent → Places
places_of l = record { spans = l.work / 4; roots = l.root_links; upper = l.upper_links / 32768; lower = l.lower_links / 4096; leaf = l.leaf_values / 512 }

-- 18, and then the decode
unfoldable pub decode_into : (List ℕ → Places → Result Accepted) → List ℕ → Lent → Result Accepted
decode_into decode b l = passing (lent_fault l) (decode b (places_of l))

-- ---- the answer

-- the number (0 where there is a grid), how many roots and nodes are used, the background and the medium
pub record Answer : Type 0 where
  pub number : ℕ
  pub roots : ℕ
  pub upper : ℕ
  pub lower : ℕ
  pub leaf : ℕ
  pub background : Float
  pub medium : Medium

abbrev no_point : Point
no_point = record { x = +0; y = +0; z = +0 }

abbrev no_coord : Coord
no_coord = record { x = pos 0; y = pos 0; z = pos 0 }

abbrev pub no_medium : Medium
no_medium = make_medium no_point no_point no_coord no_coord (+0 ∷ +0 ∷ +0 ∷ +0 ∷ +0 ∷ +0 ∷ +0 ∷ +0 ∷ +0 ∷ []) no_point (cells 0 0 0)

abbrev pub answer_of : Result Accepted → Answer
answer_of (ok t) = record {
  number = 0;
  roots = length t.grid.root_links;
  upper = length t.grid.upper_links / 32768;
  lower = length t.grid.lower_links / 4096;
  leaf = length t.grid.leaf_values / 512;
  background = t.grid.background;
  medium = t.medium;
}
answer_of (refused n) = record { number = n; roots = 0; upper = 0; lower = 0; leaf = 0; background = +0; medium = no_medium }

-- ---- what is left in the tables

-- the lent tables
pub record Tables : Type 0 where
  pub blocks : List ℤ
  pub root_links : List ℕ
  pub root_values : List Float
  pub upper_links : List ℕ
  pub upper_values : List Float
  pub lower_links : List ℕ
  pub lower_values : List Float
  pub leaf_values : List Float
  pub work : List ℕ

abbrev pub tables : List ℤ → List ℕ → List Float → List ℕ → List Float → List ℕ → List Float → List Float → List ℕ → Tables
tables blocks root_links root_values upper_links upper_values lower_links lower_values leaf_values work = record {
  blocks = blocks;
  root_links = root_links;
  root_values = root_values;
  upper_links = upper_links;
  upper_values = upper_values;
  lower_links = lower_links;
  lower_values = lower_values;
  leaf_values = leaf_values;
  work = work;
}

abbrev pub lengths : Tables → Lent
lengths t = record {
  blocks = length t.blocks;
  root_links = length t.root_links;
  root_values = length t.root_values;
  upper_links = length t.upper_links;
  upper_values = length t.upper_values;
  lower_links = length t.lower_links;
  lower_values = length t.lower_values;
  leaf_values = length t.leaf_values;
  work = length t.work;
}

-- zeros from end to end
abbrev pub zeros : Lent → Tables
zeros l = record {
  blocks = replicate l.blocks (pos 0);
  root_links = replicate l.root_links 0;
  root_values = replicate l.root_values +0;
  upper_links = replicate l.upper_links 0;
  upper_values = replicate l.upper_values +0;
  lower_links = replicate l.lower_links 0;
  lower_values = replicate l.lower_values +0;
  leaf_values = replicate l.leaf_values +0;
  work = replicate l.work 0;
}

-- the grid's tables with zeros past them; the work table is zeros
abbrev pub filled : Lent → Grid → Tables
filled l g = record {
  blocks = padded l.blocks (pos 0) g.blocks;
  root_links = padded l.root_links 0 g.root_links;
  root_values = padded l.root_values +0 g.root_values;
  upper_links = padded l.upper_links 0 g.upper_links;
  upper_values = padded l.upper_values +0 g.upper_values;
  lower_links = padded l.lower_links 0 g.lower_links;
  lower_values = padded l.lower_values +0 g.lower_values;
  leaf_values = padded l.leaf_values +0 g.leaf_values;
  work = replicate l.work 0;
}

abbrev pub left_of : Lent → Result Accepted → Tables
left_of l (ok t) = filled l t.grid
left_of l (refused n) = zeros l

-- ---- the used parts

-- the grid of the used parts of tables, as an answer counts them
abbrev pub used_of : Answer → Tables → Grid
used_of a t =
    grid_of a.background
    (take (3 * a.roots) t.blocks)
    (take a.roots t.root_links)
    (take a.roots t.root_values)
    (take (32768 * a.upper) t.upper_links)
    (take (32768 * a.upper) t.upper_values)
    (take (4096 * a.lower) t.lower_links)
    (take (4096 * a.lower) t.lower_values)
    (take (512 * a.leaf) t.leaf_values)

-- an answer counts no more than the tables have
pub record Used (a : Answer) (t : Tables) : Type 0 where
  pub blocks : 3 * a.roots ≤ length t.blocks
  pub root_links : a.roots ≤ length t.root_links
  pub root_values : a.roots ≤ length t.root_values
  pub upper_links : 32768 * a.upper ≤ length t.upper_links
  pub upper_values : 32768 * a.upper ≤ length t.upper_values
  pub lower_links : 4096 * a.lower ≤ length t.lower_links
  pub lower_values : 4096 * a.lower ≤ length t.lower_values
  pub leaf_values : 512 * a.leaf ≤ length t.leaf_values
