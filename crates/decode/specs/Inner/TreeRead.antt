-- What the contract of the tree reader says: from tables of zeros, the tree of the definition, held by the tables.
use Rattle.std.specs.Prelude.{ℕ, ◌+◌, ◌*◌, ◌≤◌, ◌≡◌, List, [], pos, length, replicate, Ok, Err, Result as Answer}
use Rattle.refusals.specs.Results.{ok, refused}
use Rattle.float.specs.Zero.{+0}
use Rattle.nanovdb.specs.Nodes.{Places}
use Rattle.nanovdb.specs.Tree.{Roots, tree}
use Rattle.nanovdb.specs.Decode.{root_place}
use Rattle.nanovdb.specs.Lent.{Lent}
use Rattle.decode.specs.Inner.Filled.{Tabs, Holds, Lends}
use Rattle.decode.specs.Inner.Rooted.{RootTabs, RootsHeld}
use Rattle.refusals.specs.Numbers.{number}
use Rattle.refusals.specs.declared.Refusal.{Refusal}
use Rattle.decode.specs.declared.tree.Tree as Code

-- every table but those of the leaves and the words is of zeros
pub record Zeroed (t : Tabs) (q : RootTabs) : Type 0 where
  pub blocks : q.blocks ≡ replicate (length q.blocks) (pos 0)
  pub links : q.links ≡ replicate (length q.links) 0
  pub values : q.values ≡ replicate (length q.values) +0
  pub upper_links : t.upper_links ≡ replicate (length t.upper_links) 0
  pub upper_values : t.upper_values ≡ replicate (length t.upper_values) +0
  pub lower_links : t.lower_links ≡ replicate (length t.lower_links) 0
  pub lower_values : t.lower_values ≡ replicate (length t.lower_values) +0

-- tables that pass 18
pub record Paired (l : Lent) : Type 0 where
  pub blocks : l.blocks ≡ 3 * l.root_links
  pub roots : l.root_values ≡ l.root_links
  pub upper : l.upper_values ≡ l.upper_links
  pub lower : l.lower_values ≡ l.lower_links

-- the places that the tables give, of roots too
pub record LendsAll (t : Tabs) (q : RootTabs) (p : Places) : Type 0 where
  pub nodes : Lends t p
  pub roots : p.roots ≡ length q.links

abbrev pub TreeOut : List ℕ → Tabs → RootTabs → Tabs → RootTabs → Answer Code.Tree Refusal → Type 0
TreeOut b t q u v (Ok x) = (p : Places) → LendsAll t q p → Zeroed t q
    → (r : Roots) × (tree b p ≡ ok r) × Holds u x.nodes r.state [] [] × RootsHeld v r.roots
    × (x.root ≡ root_place b) × (x.root + 28 ≤ length b) × (length r.roots ≡ x.roots)
TreeOut b t q u v (Err n) = (p : Places) → LendsAll t q p → Zeroed t q → tree b p ≡ refused (number n)
