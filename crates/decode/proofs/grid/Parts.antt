-- The used parts of the tables are the tables of the tree that was read. Assumes nothing.
use Rattle.std.specs.Prelude.{◌≡◌, List, [], ◌++◌, map, ℕ, ◌+◌, ◌-◌, ◌*◌, ◌/◌, pos, length, take, replicate, Float}
use Rattle.std.proofs.Common.{sym, ap, ◌∙◌, arith, append-nil}
use lib.ListN.{length-map}
use lib.Seq.{take-append_seam}
use Rattle.refusals.specs.Results.{ok}
use Rattle.float.specs.Zero.{+0}
use Rattle.lent.specs.Padded.{padded}
use Rattle.lent.proofs.PaddedLaws.{padded_take}
use Rattle.layout.specs.Bytes.{f32_at}
use Rattle.sparse_grid.specs.declared.Entry.{Entry}
use Rattle.nanovdb.specs.Tree.{Root, Roots}
use Rattle.nanovdb.specs.Decode.{Accepted, link_of, value_of, blocks_of, tables_of, medium_at, medium_of, root_place}
use Rattle.nanovdb.specs.Lent.{Answer, Tables, lengths, answer_of, filled, used_of}
use Rattle.nanovdb.proofs.HeldNodes.{Inv2}
use Rattle.decode.specs.Inner.Filled.{nodes_of, Starts, Holds}
use Rattle.decode.specs.Inner.Stored.{zero_behind}
use Rattle.decode.specs.Inner.Rooted.{roots_of, RootsHeld}
use Rattle.decode.specs.Inner.GridRead.{tidied, counts_of}
use Rattle.decode.specs.declared.tree.Tree.{Tree}
use Rattle.decode.proofs.tiles.Roots.{blocks_length}
use Rattle.decode.proofs.grid.Ways.{accepted_of}

-- the first n places of a table that holds n things are those
part : {A : Type 0} (t : List A) (z : A) (l : List A) (n : ℕ) → t ≡ padded (length t) z l → length l ≡ n → take n t ≡ l
part t z l n e h = ap (take n) e ∙ ap (λ (k : ℕ). take k (padded (length t) z l)) (sym h) ∙ padded_take (length t) z l

-- the same of a table that begins with them, and with zeros put behind them
starts_part : {A : Type 0} (t l : List A) (n : ℕ) → Starts t l → length l ≡ n → take n t ≡ l
starts_part t l n (rest, e) h = ap (take n) e ∙ ap (λ (k : ℕ). take k (l ++ rest)) (sym h) ∙ take-append_seam l rest

starts_zeroed : (t l : List Float) (leaves : ℕ) → Starts t l → length l ≡ 512 * leaves → zero_behind leaves t ≡ padded (length t) +0 l
unfolding padded
starts_zeroed t l leaves s h =
    ap (λ (x : List Float). x ++ replicate (length t - 512 * leaves) +0) (starts_part t l (512 * leaves) s h)
    ∙ ap (λ (k : ℕ). l ++ replicate (length t - k) +0) (sym h)

-- no node is open
shut : {A : Type 0} (t : List A) (z : A) (f : Entry → A) (d : List Entry) → t ≡ padded (length t) z (map f (d ++ [])) → t ≡ padded (length t) z (map f d)
shut t z f d e = e ∙ ap (λ (l : List Entry). padded (length t) z (map f l)) (append-nil d)

abbrev link_in : Root → ℕ
link_in r = link_of r.entry

abbrev value_in : Root → Float
value_in r = value_of r.entry

-- the grid of the used parts, beside the answer's medium
abbrev pub accepted_by : Answer → Tables → Accepted
accepted_by a t = record { grid = used_of a t; medium = a.medium }

module _ (b : List ℕ) (x : Tree) (t : Tables) (r : Roots) (holds : Holds (nodes_of t) x.nodes r.state [] []) (roots : RootsHeld (roots_of t) r.roots)
    (place : x.root ≡ root_place b) (size : length r.roots ≡ x.roots) (full : Inv2 b r.state) where
  blocks_size : length (blocks_of r.roots) ≡ 3 * x.roots
  blocks_size = omega (arith, blocks_length r.roots, size)

  root_size : {A : Type 0} (f : Root → A) → length (map f r.roots) ≡ x.roots
  root_size f = length-map r.roots f ∙ size

  upper_size : {A : Type 0} (f : Entry → A) → length (map f r.state.upper) ≡ 32768 * x.nodes.uppers
  upper_size f = length-map r.state.upper f ∙ full.full ∙ ap (λ (k : ℕ). 32768 * k) holds.uppers

  lower_size : {A : Type 0} (f : Entry → A) → length (map f r.state.lower) ≡ 4096 * x.nodes.lowers
  lower_size f = length-map r.state.lower f ∙ full.below.full ∙ ap (λ (k : ℕ). 4096 * k) holds.lowers

  leaf_size : length r.state.leaf ≡ 512 * x.nodes.leaves
  leaf_size = full.below.below.full ∙ ap (λ (k : ℕ). 512 * k) holds.leaves

  upper_links : t.upper_links ≡ padded (length t.upper_links) 0 (map link_of r.state.upper)
  upper_links = shut t.upper_links 0 link_of r.state.upper holds.upper_links

  upper_values : t.upper_values ≡ padded (length t.upper_values) +0 (map value_of r.state.upper)
  upper_values = shut t.upper_values +0 value_of r.state.upper holds.upper_values

  lower_links : t.lower_links ≡ padded (length t.lower_links) 0 (map link_of r.state.lower)
  lower_links = shut t.lower_links 0 link_of r.state.lower holds.lower_links

  lower_values : t.lower_values ≡ padded (length t.lower_values) +0 (map value_of r.state.lower)
  lower_values = shut t.lower_values +0 value_of r.state.lower holds.lower_values

  -- the accepted grid is the used parts
  pub parts : accepted_by (counts_of b x) t ≡ accepted_of b r
  unfolding tables_of medium_of
  parts = λ i. record {
    grid = record {
      background = f32_at b (place i + 28);
      blocks = part t.blocks (pos 0) (blocks_of r.roots) (3 * x.roots) roots.blocks blocks_size i;
      root_links = part t.root_links 0 (map link_in r.roots) x.roots roots.links (root_size link_in) i;
      root_values = part t.root_values +0 (map value_in r.roots) x.roots roots.values (root_size value_in) i;
      upper_links = part t.upper_links 0 (map link_of r.state.upper) (32768 * x.nodes.uppers) upper_links (upper_size link_of) i;
      upper_values = part t.upper_values +0 (map value_of r.state.upper) (32768 * x.nodes.uppers) upper_values (upper_size value_of) i;
      lower_links = part t.lower_links 0 (map link_of r.state.lower) (4096 * x.nodes.lowers) lower_links (lower_size link_of) i;
      lower_values = part t.lower_values +0 (map value_of r.state.lower) (4096 * x.nodes.lowers) lower_values (lower_size value_of) i;
      leaf_values = starts_part t.leaf_values r.state.leaf (512 * x.nodes.leaves) holds.leaf_values leaf_size i;
    };
    medium = medium_at b (place i);
  }

  -- what stands in the tables is what the definition leaves there
  pub left : tidied t x.nodes.leaves ≡ filled (lengths t) (tables_of b r)
  unfolding tables_of
  left = λ i. record {
    blocks = roots.blocks i;
    root_links = roots.links i;
    root_values = roots.values i;
    upper_links = upper_links i;
    upper_values = upper_values i;
    lower_links = lower_links i;
    lower_values = lower_values i;
    leaf_values = starts_zeroed t.leaf_values r.state.leaf x.nodes.leaves holds.leaf_values leaf_size i;
    work = (tidied t 0).work;
  }

  -- and the counts are those of the definition's answer
  pub answers : counts_of b x ≡ answer_of (ok (accepted_of b r))
  unfolding tables_of medium_of
  answers = λ i. record {
    number = 0;
    roots = sym (root_size link_in) i;
    upper = whole x.nodes.uppers _ 32768 (upper_size link_of) upper_count_lem i;
    lower = whole x.nodes.lowers _ 4096 (lower_size link_of) lower_count_lem i;
    leaf = whole x.nodes.leaves _ 512 leaf_size leaf_count i;
    background = f32_at b (place i + 28);
    medium = medium_at b (place i);
  }
    where
      whole : (n m k : ℕ) → m ≡ k * n → k * n / k ≡ n → n ≡ m / k
      whole n m k e d = sym (ap (λ (j : ℕ). j / k) e ∙ d)

      upper_count_lem : 32768 * x.nodes.uppers / 32768 ≡ x.nodes.uppers
      upper_count_lem = omega arith

      lower_count_lem : 4096 * x.nodes.lowers / 4096 ≡ x.nodes.lowers
      lower_count_lem = omega arith

      leaf_count : 512 * x.nodes.leaves / 512 ≡ x.nodes.leaves
      leaf_count = omega arith
