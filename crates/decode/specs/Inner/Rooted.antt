-- The lent tables of the roots beside the definition's root records: what the contracts of the tile reader say.
use Rattle.std.specs.Prelude.{ℕ, ◌≡◌, List, [], ◌∷◌, ◌++◌, map, ℤ, pos, length, Ok, Err, Result as Answer, Float}
use Rattle.refusals.specs.Results.{ok, refused}
use Rattle.refusals.specs.Numbers.{number}
use Rattle.refusals.specs.declared.Refusal.{Refusal}
use Rattle.float.specs.Zero.{+0}
use Rattle.lent.specs.Padded.{padded}
use Rattle.sparse_grid.specs.declared.Entry.{Entry}
use Rattle.nanovdb.specs.Nodes.{Places, State}
use Rattle.nanovdb.specs.Tree.{Root, Roots, root_of, tile_read, tiles_read}
use Rattle.nanovdb.specs.Decode.{link_of, value_of, blocks_of}
use Rattle.nanovdb.specs.Lent.{Tables}
use Rattle.decode.specs.Inner.Filled.{Tabs, Fit, Holds, Reads}
use Rattle.decode.specs.declared.nodes.State as Progress

pub record RootTabs : Type 0 where
  pub blocks : List ℤ
  pub links : List ℕ
  pub values : List Float

abbrev pub root_tabs : List ℤ → List ℕ → List Float → RootTabs
root_tabs blocks links values = record { blocks = blocks; links = links; values = values }

-- the lent tables of the roots
abbrev pub roots_of : Tables → RootTabs
roots_of t = root_tabs t.blocks t.root_links t.root_values

-- the tables hold these roots, and zeros past them
pub record RootsHeld (t : RootTabs) (rs : List Root) : Type 0 where
  pub blocks : t.blocks ≡ padded (length t.blocks) (pos 0) (blocks_of rs)
  pub links : t.links ≡ padded (length t.links) 0 (map (λ (r : Root). link_of r.entry) rs)
  pub values : t.values ≡ padded (length t.values) +0 (map (λ (r : Root). value_of r.entry) rs)

-- root i is put behind i others
pub record RootPut (i key link : ℕ) (value : Float) (t u : RootTabs) : Type 0 where
  pub blocks_kept : length u.blocks ≡ length t.blocks
  pub links_kept : length u.links ≡ length t.links
  pub values_kept : length u.values ≡ length t.values
  pub put : (rs : List Root) (e : Entry) → RootsHeld t rs → length rs ≡ i → link_of e ≡ link → value_of e ≡ value → RootsHeld u (rs ++ (root_of key e ∷ []))

-- what one tile answers is what the definition's `tile_read` does, and the tables then hold its roots and its state
abbrev pub TileSays : List ℕ → ℕ → ℕ → Tabs → RootTabs → Progress.State → Tabs → RootTabs → Answer Progress.State Refusal → Type 0
TileSays b root i t q s u v (Ok w) = (p : Places) (r : Roots) → Reads 2 b t s p r.state [] [] → RootsHeld q r.roots
    → length r.roots ≡ i
    → (n : Roots) × (tile_read b p root i r ≡ ok n) × Holds u w n.state [] [] × RootsHeld v n.roots
TileSays b root i t q s u v (Err n) = (p : Places) (r : Roots) → Reads 2 b t s p r.state [] [] → RootsHeld q r.roots
    → length r.roots ≡ i → tile_read b p root i r ≡ refused (number n)

abbrev pub StepFit : ℕ → Tabs → Answer Progress.State Refusal → Type 0
StepFit len u (Ok v) = Fit len u v
StepFit len u (Err n) = Unit {0}

pub record TileOut (b : List ℕ) (root i : ℕ) (t : Tabs) (q : RootTabs) (s : Progress.State) (u : Tabs) (v : RootTabs)
    (r : Answer Progress.State Refusal) : Type 0 where
  pub fit : StepFit (length b) u r
  pub says : TileSays b root i t q s u v r

-- the same of the first `count` tiles, from tables that hold no root
abbrev pub TilesSay : List ℕ → ℕ → ℕ → Tabs → RootTabs → Progress.State → Tabs → RootTabs → Answer Progress.State Refusal → Type 0
TilesSay b root count t q s u v (Ok w) = (p : Places) (d : State) → Reads 2 b t s p d [] [] → RootsHeld q []
    → (n : Roots) × (tiles_read b p root count d ≡ ok n) × Holds u w n.state [] [] × RootsHeld v n.roots
TilesSay b root count t q s u v (Err n) = (p : Places) (d : State) → Reads 2 b t s p d [] [] → RootsHeld q []
    → tiles_read b p root count d ≡ refused (number n)

pub record TilesOut (b : List ℕ) (root count : ℕ) (t : Tabs) (q : RootTabs) (s : Progress.State) (u : Tabs) (v : RootTabs)
    (r : Answer Progress.State Refusal) : Type 0 where
  pub fit : StepFit (length b) u r
  pub says : TilesSay b root count t q s u v r
