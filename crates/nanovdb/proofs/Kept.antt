-- Lent tables that keep their lengths, as they go through calls. Assumes nothing.
use Rattle.std.specs.Prelude.{◌≡◌, length}
use Rattle.std.proofs.Common.{◌∙◌}
use Rattle.nanovdb.specs.Lent.{Tables, lengths}

-- no table changes its length
pub record Kept (t u : Tables) : Type 0 where
  pub blocks : length u.blocks ≡ length t.blocks
  pub root_links : length u.root_links ≡ length t.root_links
  pub root_values : length u.root_values ≡ length t.root_values
  pub upper_links : length u.upper_links ≡ length t.upper_links
  pub upper_values : length u.upper_values ≡ length t.upper_values
  pub lower_links : length u.lower_links ≡ length t.lower_links
  pub lower_values : length u.lower_values ≡ length t.lower_values
  pub leaf_values : length u.leaf_values ≡ length t.leaf_values
  pub work : length u.work ≡ length t.work

-- what keeps them goes on to what keeps them
pub kept_on : {t u v : Tables} → Kept t u → Kept u v → Kept t v
kept_on k m = record {
  blocks = m.blocks ∙ k.blocks;
  root_links = m.root_links ∙ k.root_links;
  root_values = m.root_values ∙ k.root_values;
  upper_links = m.upper_links ∙ k.upper_links;
  upper_values = m.upper_values ∙ k.upper_values;
  lower_links = m.lower_links ∙ k.lower_links;
  lower_values = m.lower_values ∙ k.lower_values;
  leaf_values = m.leaf_values ∙ k.leaf_values;
  work = m.work ∙ k.work;
}

-- so the lengths are the same
pub same : {t u : Tables} → Kept t u → lengths u ≡ lengths t
same k = λ i. record {
  blocks = k.blocks i;
  root_links = k.root_links i;
  root_values = k.root_values i;
  upper_links = k.upper_links i;
  upper_values = k.upper_values i;
  lower_links = k.lower_links i;
  lower_values = k.lower_values i;
  leaf_values = k.leaf_values i;
  work = k.work i;
}
