-- The places of a zone by class, as the loops of a count add them up: what only private contracts cite.
use Rattle.std.specs.Prelude.{ℕ, ◌+◌, ◌-◌, ◌≤◌, ◌<◌, ◌≡◌, List, eqb, length, get_or, Float}
use Rattle.sparse_grid.specs.Tables.{Grid}
use Rattle.sparse_grid.specs.Count.{bit}
use Rattle.boxes.specs.declared.Span.{Span}
use Rattle.boxes.specs.RangeMax.{read_at}
use Rattle.walk.specs.Walk.{Zone}
use Rattle.walk.specs.Classes.{class}
use Rattle.walk.specs.Gather.{tally}
use Rattle.walk.specs.ByRoots.{met_tally}

-- 1 for a place of class k
abbrev pub is_class : List Float → (ℕ → ℕ → ℕ → Float) → ℕ → ℕ → ℕ → ℕ → ℕ
is_class ls read k x y z = bit (eqb (class ls (read x y z)) k)

-- how many places a zone has
abbrev pub places : Zone → ℕ
places q = tally (λ x y z. 1) q

-- at most 16 limits, and 17 counts that each have room for a zone's places: no sum reaches 2^61
pub record Ready (ls : List Float) (counts : List ℕ) (q : Zone) : Type 0 where
  pub few : length ls ≤ 16
  pub long : length counts ≡ 17
  pub room : (k : ℕ) → k < 17 → get_or counts k 0 + places q ≤ 1152921504606846976

-- `after` has a zone's places more than `before`, each in its class
pub record Added (ls : List Float) (read : ℕ → ℕ → ℕ → Float) (q : Zone) (before after : List ℕ) : Type 0 where
  pub each : (k : ℕ) → k < 17 → get_or after k 0 ≡ get_or before k 0 + tally (is_class ls read k) q

-- spans of at most 2^20 coordinates
pub record Sides (x y z : Span) : Type 0 where
  pub x_side : x.hi - x.lo ≤ 1048576
  pub y_side : y.hi - y.lo ≤ 1048576
  pub z_side : z.hi - z.lo ≤ 1048576

-- after i roots: the places of a zone whose block one of them has, by class and together
pub record Gone (g : Grid) (ls : List Float) (i : ℕ) (q : Zone) (counts : List ℕ) (covered : ℕ) : Type 0 where
  pub each : (k : ℕ) → k < 17 → get_or counts k 0 ≡ met_tally g i (is_class ls (read_at g) k) q
  pub all : covered ≡ met_tally g i (λ x y z. 1) q
