-- A root and its block's part of a box, and what is gathered of the roots in order: what only private contracts cite.
use Rattle.std.specs.Prelude.{ℕ, ℤ, ◌^◌, leb, ◌+◌, ◌-◌, ◌<◌, ◌≡◌, true, false, Bool, ◌||◌, List, length, get_or, T, Float}
use Rattle.std.specs.Float.{binary32}
use Rattle.std.specs.Float.Ieee.{fits}
use lib.Signed.{mag}
use Rattle.float.specs.Zero.{+0}
use Rattle.refusals.specs.Faults.{unless}
use Rattle.sparse_grid.specs.declared.Entry.{Entry}
use Rattle.sparse_grid.specs.declared.Entry.TheVariants.{Child, Tile}
use Rattle.sparse_grid.specs.Tables.{Grid, block_at, entry_at}
use Rattle.sparse_grid.specs.Biased.{raised}
use Rattle.sparse_grid.specs.Sound.{Sound}
use Rattle.boxes.specs.declared.Span.{Span}
use Rattle.boxes.specs.Boxes.{Box}
use Rattle.boxes.specs.RangeMax.{Full, Ends, Clip, apart, entry_read, upper_read}
use Rattle.walk.specs.Walk.{Zone, roots_read, uppers_read, lowers_read, leaves_read, steps, roots_only, uppers_only, lowers_only, leaves_only}
use Rattle.walk.specs.Counts.{steps_to}
use Rattle.majorant.specs.Walks.{Places, Reads, no_reads, upper_reads, zone_of}
use Rattle.majorant.specs.declared.part.Part as Code

-- the span of two 32-bit coordinates
pub record SpanOf (lo hi : ℤ) (s : Span) : Type 0 where
  pub ends : Ends lo hi s
  pub low : mag lo < 2 ^ 31
  pub high : mag hi < 2 ^ 31

-- the part of a box
pub record PartOf (b : Box) (p : Code.Part) : Type 0 where
  pub x : SpanOf b.lo.x b.hi.x p.x
  pub y : SpanOf b.lo.y b.hi.y p.y
  pub z : SpanOf b.lo.z b.hi.z p.z

-- root i of a sound grid
pub record Rooted (g : Grid) (i : ℕ) : Type 0 where
  pub sound : Sound g
  pub inside : i < length g.root_links

-- its block has no place of the part, on some axis
abbrev pub misses : Grid → ℕ → Code.Part → Bool
misses g i p =
    let b = block_at g i in
    apart (raised b.x) p.x.lo p.x.hi || apart (raised b.y) p.y.lo p.y.hi || apart (raised b.z) p.z.lo p.z.hi

-- c is the part of p in its block
pub record Clips (g : Grid) (i : ℕ) (p c : Code.Part) : Type 0 where
  pub met : misses g i p ≡ false
  pub x : Clip (raised (block_at g i).x) p.x.lo p.x.hi c.x.lo c.x.hi
  pub y : Clip (raised (block_at g i).y) p.y.lo p.y.hi c.y.lo c.y.hi
  pub z : Clip (raised (block_at g i).z) p.z.lo p.z.hi c.z.lo c.z.hi

-- what a lookup reads below an entry of the root table, and what a walk does
abbrev pub below : Grid → Entry → Places
below g e a b c =
    entry_read e (λ j. upper_read g.upper_links g.upper_values g.lower_links g.lower_values g.leaf_values j a b c)

abbrev pub reads_below : Grid → Entry → Zone → Reads
reads_below g (Child j) q = upper_reads g.upper_links g.upper_values g.lower_links g.lower_values j q
reads_below g (Tile v) q = no_reads

-- what is read of the first i roots, themselves apart, and of all
abbrev pub read_to : Grid → Zone → ℕ → Reads
read_to g q i = record { roots = 0; uppers = steps_to uppers_only g q i; lowers = steps_to lowers_only g q i; leaves = steps_to leaves_only g q i }

abbrev pub read_of : Grid → Zone → Reads
read_of g q = record { roots = steps roots_only g q; uppers = steps uppers_only g q; lowers = steps lowers_only g q; leaves = steps leaves_only g q }

-- After g p i s t k: of the first i roots' parts of p the state s has become t, and they cover k of it
pub record RootLaws {S : Type 0} (Able : Code.Part → Type 0) (Fresh : S → Type 0) (Fit : S → Zone → Type 0)
    (Done : Places → Zone → Reads → S → S → Type 0) (weight : Code.Part → ℕ) (After : Grid → Code.Part → ℕ → S → S → ℕ → Type 0) : Type 0 where
  pub none : (g : Grid) (p : Code.Part) (s : S) → Fresh s → After g p 0 s s 0
  pub miss : (g : Grid) (p : Code.Part) (i : ℕ) (s t : S) (k : ℕ) → Rooted g i → Full p.x p.y p.z → misses g i p ≡ true
      → After g p i s t k → After g p (i + 1) s t k
  pub fit : (g : Grid) (p c : Code.Part) (i : ℕ) (s t : S) (k : ℕ) → Rooted g i → Full p.x p.y p.z → Able p → Clips g i p c
      → After g p i s t k → Fit t (zone_of c)
  pub few : (g : Grid) (p c : Code.Part) (i : ℕ) (s t : S) (k : ℕ) → Rooted g i → Full p.x p.y p.z → Able p → Clips g i p c
      → i + 1 < 18446744073709551616 → After g p i s t k → k + weight c < 18446744073709551616
  pub meet : (g : Grid) (p c : Code.Part) (i : ℕ) (e : Entry) (s t u : S) (k : ℕ) → Rooted g i → Full p.x p.y p.z → Able p → Clips g i p c
      → e ≡ entry_at g.root_links g.root_values i → After g p i s t k
      → Done (below g e) (zone_of c) (reads_below g e (zone_of c)) t u → After g p (i + 1) s u (k + weight c)

-- what is read for a box
abbrev pub reads_for : Grid → Box → Reads
reads_for g b = record { roots = roots_read g b; uppers = uppers_read g b; lowers = lowers_read g b; leaves = leaves_read g b }

-- every value of a table is an f32, and of all tables
abbrev pub AreFloats : List Float → Type 0
AreFloats values = (i : ℕ) → T (fits binary32 (get_or values i +0))

pub record Floats (g : Grid) : Type 0 where
  pub background : T (fits binary32 g.background)
  pub roots : AreFloats g.root_values
  pub upper : AreFloats g.upper_values
  pub lower : AreFloats g.lower_values
  pub leaf : AreFloats g.leaf_values

-- 25 for a span of more than 2^20 coordinates
abbrev pub side_limit : Span → ℕ
side_limit s = unless (leb (s.hi - s.lo) 1048576) 25
