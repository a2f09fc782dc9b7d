-- A part of a box, and what a walk of it below a node reads and gathers: what only private contracts cite.
use Rattle.std.specs.Prelude.{ℕ, ◌+◌, ◌-◌, ◌*◌, ◌/◌, ◌%◌, ◌<◌, ◌≤◌, ◌≡◌, List, Float}
use Rattle.medium.specs.Medium.{Axis, x_axis, y_axis, z_axis}
use Rattle.boxes.specs.declared.Span.{Span}
use Rattle.boxes.specs.RangeMax.{Full, InCell}
use Rattle.walk.specs.Walk.{Zone, Price, uppers_only, lowers_only, leaves_only}
use Rattle.walk.specs.Gather.{along_x, along_y, along_z, At}
use Rattle.walk.specs.Counts.{zone_in, lower_count, upper_count}
use Rattle.majorant.specs.declared.part.Part as Code

-- ---- parts

abbrev pub zone_of : Code.Part → Zone
zone_of p = zone_in p.x p.y p.z

-- a part with a place, each span in one cell: of a, b and c coordinates
pub record Within (a b c : ℕ) (p : Code.Part) : Type 0 where
  pub full : Full p.x p.y p.z
  pub x_in : InCell a p.x
  pub y_in : InCell b p.y
  pub z_in : InCell c p.z

-- how many places a part has
abbrev pub size_of : Code.Part → ℕ
size_of p = (p.x.hi - p.x.lo) * (p.y.hi - p.y.lo) * (p.z.hi - p.z.lo)

-- a zone with another span on one axis
abbrev pub along : Axis → Zone → ℕ → ℕ → Zone
along x_axis q a e = along_x q a e
along y_axis q a e = along_y q a e
along z_axis q a e = along_z q a e

-- ---- what is read

-- how many root entries, upper entries, lower entries and leaf values
pub record Reads : Type 0 where
  pub roots : ℕ
  pub uppers : ℕ
  pub lowers : ℕ
  pub leaves : ℕ

abbrev pub no_reads : Reads
no_reads = record { roots = 0; uppers = 0; lowers = 0; leaves = 0 }

abbrev pub root_reads : ℕ → Reads
root_reads n = record { roots = n; uppers = 0; lowers = 0; leaves = 0 }

abbrev pub one_upper : Reads
one_upper = record { roots = 0; uppers = 1; lowers = 0; leaves = 0 }

abbrev pub one_lower : Reads
one_lower = record { roots = 0; uppers = 0; lowers = 1; leaves = 0 }

abbrev pub leaf_reads : ℕ → Reads
leaf_reads n = record { roots = 0; uppers = 0; lowers = 0; leaves = n }

abbrev pub both : Reads → Reads → Reads
both a b = record {
  roots = a.roots + b.roots;
  uppers = a.uppers + b.uppers;
  lowers = a.lowers + b.lowers;
  leaves = a.leaves + b.leaves;
}

-- counts that grow: from the one to the other so much was read
pub record CountLaws {S : Type 0} (More : Reads → S → S → Type 0) : Type 0 where
  pub none : (s : S) → More no_reads s s
  pub and : (a b : Reads) (s t u : S) → More a s t → More b t u → More (both a b) s u

-- ---- what is gathered

abbrev pub Places : Type 0
Places = ℕ → ℕ → ℕ → Float

-- a state that can take a zone, and one that has: of what stands at its places, with so many reads
pub record GatherLaws {S : Type 0} (Fit : S → Zone → Type 0) (Done : Places → Zone → Reads → S → S → Type 0) : Type 0 where
  pub none : (a : Axis) (f : Places) (q r : Zone) (k : ℕ) (s : S) → Fit s r → Done f (along a q k k) no_reads s s
  pub join : (a : Axis) (f : Places) (q : Zone) (lo at next : ℕ) (c d : Reads) (s t u : S) → lo ≤ at → at ≤ next
      → Done f (along a q lo at) c s t → Done f (along a q at next) d t u → Done f (along a q lo next) (both c d) s u
  pub fit : (a : Axis) (f : Places) (q : Zone) (lo at next hi : ℕ) (c : Reads) (s t : S) → lo ≤ at → at ≤ next → next ≤ hi
      → Fit s (along a q lo hi) → Done f (along a q lo at) c s t → Fit t (along a q at next)
  pub same : (f g : Places) (q : Zone) (c : Reads) (s t : S) → ((x y z : ℕ) → At q x y z → f x y z ≡ g x y z)
      → Done f q c s t → Done g q c s t

-- reads alone: nothing is gathered yet
abbrev pub Alone : {S : Type 0} → (S → Zone → Type 0) → (Places → Zone → Reads → S → S → Type 0) → Reads → S → S → Type 0
Alone Fit Done c s t = (f : Places) (q r : Zone) (k : ℕ) → Fit s r → Done f (along x_axis q k k) c s t

-- ---- nodes

-- what is read of a node for a zone in its own cell of `own` coordinates adds up along cuts at the borders of its cells of `side`
pub record NodeLaws (side own : ℕ) (reads : Zone → Reads) : Type 0 where
  pub none : (a : Axis) (q : Zone) (k : ℕ) → reads (along a q k k) ≡ no_reads
  pub more : (a : Axis) (q : Zone) (lo at next : ℕ) → lo ≤ at → at < next → next ≤ at / side * side + side → next ≤ lo / own * own + own
      → (lo < at → at % side ≡ 0) → both (reads (along a q lo at)) (reads (along a q at next)) ≡ reads (along a q lo next)

abbrev pub span : ℕ → ℕ → Span
span lo hi = record { lo = lo; hi = hi }

-- of a lower node, and of an upper one
abbrev pub lower_reads : List ℕ → List Float → ℕ → Zone → Reads
lower_reads links values k q =
    let count : Price → ℕ = λ p. lower_count p links values k (span q.x0 q.x1) (span q.y0 q.y1) (span q.z0 q.z1) in
    record { roots = 0; uppers = 0; lowers = count lowers_only; leaves = count leaves_only }

abbrev pub upper_reads : List ℕ → List Float → List ℕ → List Float → ℕ → Zone → Reads
upper_reads upper_links upper_values links values k q =
    let count : Price → ℕ =
    λ p. upper_count p upper_links upper_values links values k (span q.x0 q.x1) (span q.y0 q.y1) (span q.z0 q.z1) in
    record { roots = 0; uppers = count uppers_only; lowers = count lowers_only; leaves = count leaves_only }
