-- What the contracts of the reader of a whole grid say: the used parts of the tables are the grid, and its faults are the definition's.
use Rattle.std.specs.Prelude.{ℕ, ◌+◌, ◌≡◌, List, [], length, replicate, Ok, Err, Result as Outcome}
use Rattle.refusals.specs.Results.{Result, ok, refused}
use Rattle.refusals.specs.Numbers.{number}
use Rattle.refusals.specs.declared.Refusal.{Refusal}
use Rattle.layout.specs.Bytes.{f32_at}
use Rattle.medium.specs.Record.{as_medium}
use Rattle.nanovdb.specs.Nodes.{Places}
use Rattle.nanovdb.specs.Decode.{Accepted, medium_at}
use Rattle.nanovdb.specs.Lent.{Answer, Tables, tables, lengths, decode_into, answer_of, filled, zeros, used_of}
use Rattle.decode.specs.Answers.{counts}
use Rattle.decode.specs.Inner.Filled.{Tabs}
use Rattle.decode.specs.Inner.Stored.{zero_behind}
use Rattle.decode.specs.Inner.Rooted.{RootTabs}
use Rattle.decode.specs.declared.Decoded.{Decoded}
use Rattle.decode.specs.declared.tree.Tree.{Tree}

abbrev pub all_tables : Tabs → RootTabs → Tables
all_tables t q = tables q.blocks q.links q.values t.upper_links t.upper_values t.lower_links t.lower_values t.leaf_values t.work

-- with zeros behind so many leaves, and an empty work table
abbrev pub tidied : Tables → ℕ → Tables
tidied t leaves =
    tables t.blocks t.root_links t.root_values t.upper_links t.upper_values t.lower_links t.lower_values (zero_behind leaves t.leaf_values)
    (replicate (length t.work) 0)

-- without the values of leaves
abbrev pub leafless : Tables → Tables
leafless t = tables t.blocks t.root_links t.root_values t.upper_links t.upper_values t.lower_links t.lower_values [] t.work

-- ---- what the reader answers

-- what a tree that was read comes to
abbrev pub counts_of : List ℕ → Tree → Answer
counts_of b x = record {
  number = 0;
  roots = x.roots;
  upper = x.nodes.uppers;
  lower = x.nodes.lowers;
  leaf = x.nodes.leaves;
  background = f32_at b (x.root + 28);
  medium = medium_at b x.root;
}

-- the grid of the used parts, beside the medium
abbrev pub accepted : Decoded → Tables → Accepted
accepted d t = record { grid = used_of (counts d) t; medium = as_medium d.medium }

-- what is left of a grid that was read, and of a refusal
abbrev pub left_in : Tables → Outcome Decoded Refusal → Tables
left_in t (Ok d) = tidied t d.leaf
left_in t (Err e) = zeros (lengths t)

-- the used parts are the definition's grid, with its counts, and what stands in the tables is what the definition leaves there
pub record GridIn (decode : List ℕ → Places → Result Accepted) (b : List ℕ) (t u : Tables) (d : Decoded) : Type 0 where
  pub is : decode_into decode b (lengths t) ≡ ok (accepted d u)
  pub says : counts d ≡ answer_of (ok (accepted d u))
  pub left : tidied u d.leaf ≡ filled (lengths t) (used_of (counts d) u)

abbrev pub GridOut : (List ℕ → Places → Result Accepted) → List ℕ → Tables → Tables → Outcome Decoded Refusal → Type 0
GridOut decode b t u (Ok d) = GridIn decode b t u d
GridOut decode b t u (Err e) = decode_into decode b (lengths t) ≡ refused (number e)
