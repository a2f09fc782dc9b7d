-- The lent tables of the code: what stands in them, and that they are still the same slices, by which a caller knows what stands in those that it lent.
use Rattle.std.specs.Prelude.{◌≡◌}
use Rattle.nanovdb.specs.Lent.{Tables, tables}
use Rattle.decode.specs.declared.tables.Tables as Code

abbrev pub as_tables : Code.Tables → Tables
as_tables t =
    tables t.blocks.now t.root_links.now t.root_values.now t.upper_links.now t.upper_values.now
    t.lower_links.now t.lower_values.now t.leaf_values.now t.work.now

pub record SameSlices (t u : Code.Tables) : Type 0 where
  pub blocks : u.blocks.ghost_name ≡ t.blocks.ghost_name
  pub root_links : u.root_links.ghost_name ≡ t.root_links.ghost_name
  pub root_values : u.root_values.ghost_name ≡ t.root_values.ghost_name
  pub upper_links : u.upper_links.ghost_name ≡ t.upper_links.ghost_name
  pub upper_values : u.upper_values.ghost_name ≡ t.upper_values.ghost_name
  pub lower_links : u.lower_links.ghost_name ≡ t.lower_links.ghost_name
  pub lower_values : u.lower_values.ghost_name ≡ t.lower_values.ghost_name
  pub leaf_values : u.leaf_values.ghost_name ≡ t.leaf_values.ghost_name
  pub work : u.work.ghost_name ≡ t.work.ghost_name
