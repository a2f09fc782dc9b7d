-- What only the contracts of the walk's own functions cite: the counts of a part of a box below a node, as words that grow, and of the roots so far.
use Rattle.std.specs.Prelude.{ℕ, ◌+◌, ◌*◌, ◌/◌, ◌%◌, ◌<◌, ◌≡◌, List, [], Float, length, get_or}
use Rattle.sparse_grid.specs.Tables.{Grid, block_at}
use Rattle.sparse_grid.specs.Inner.{nodes_of}
use Rattle.sparse_grid.specs.Count.{sum}
use Rattle.boxes.specs.declared.Span.{Span}
use Rattle.boxes.specs.RangeMax.{InCell}
use Rattle.walk.specs.Walk.{Zone, Price, lower_steps, upper_steps, root_steps}
use Rattle.walk.specs.Gather.{zone}

-- the zone of three spans
abbrev pub zone_in : Span → Span → Span → Zone
zone_in x y z = zone x.lo x.hi y.lo y.hi z.lo z.hi

-- three spans, each in one cell
abbrev pub AllIn : ℕ → Span → Span → Span → Type 0
AllIn side x y z = InCell side x × InCell side y × InCell side z

-- ---- below a node, for a part that lies in the node's own cell: what is read at a price

unfoldable pub lower_count : Price → List ℕ → List Float → ℕ → Span → Span → Span → ℕ
lower_count p links values k x y z =
    lower_steps p (nodes_of [] [] links values []) (zone_in x y z) k (x.lo / 128) (y.lo / 128) (z.lo / 128)

unfoldable pub upper_count : Price → List ℕ → List Float → List ℕ → List Float → ℕ → Span → Span → Span → ℕ
upper_count p upper_links upper_values links values k x y z =
    upper_steps p (nodes_of upper_links upper_values links values []) (zone_in x y z) k (x.lo / 4096) (y.lo / 4096) (z.lo / 4096)

-- ---- counts in words of 64 bits, each of which begins again after its last number: roots, upper entries, lower entries, leaf values in two words

abbrev pub word : ℕ
word = 18446744073709551616

-- a count in two words
abbrev pub words_of : ℕ → ℕ → ℕ
words_of high low = high * 18446744073709551616 + low

-- five words: a list in a contract has any length, and numbers of any size
pub record Words (t : List ℕ) : Type 0 where
  pub five : length t ≡ 5
  pub each : (i : ℕ) → get_or t i 0 < word

-- the counts u are the counts t and so many more of each
pub record Grown (t u : List ℕ) (roots uppers lowers leaves : ℕ) : Type 0 where
  pub words : Words u
  pub roots_are : get_or u 0 0 % word ≡ (get_or t 0 0 + roots) % word
  pub uppers_are : get_or u 1 0 % word ≡ (get_or t 1 0 + uppers) % word
  pub lowers_are : get_or u 2 0 % word ≡ (get_or t 2 0 + lowers) % word
  pub leaves_are : words_of (get_or u 3 0) (get_or u 4 0) % (word * word) ≡ (words_of (get_or t 3 0) (get_or t 4 0) + leaves) % (word * word)

-- where those were five words
abbrev pub More : List ℕ → List ℕ → ℕ → ℕ → ℕ → ℕ → Type 0
More t u roots uppers lowers leaves = Words t → Grown t u roots uppers lowers leaves

-- ---- the roots

-- what is read of the first i roots
unfoldable pub steps_to : Price → Grid → Zone → ℕ → ℕ
steps_to p g q i = sum i (λ j. root_steps p g q j (block_at g j))
