-- What the code's page holds, and what a function that writes on it promises.
use Rattle.std.specs.Prelude.{ℕ, ◌≡◌, List}
use Rattle.text.specs.Page as Spec
use Rattle.text.specs.declared.Page.{Page}

abbrev pub cells_of : Page → Spec.Page
cells_of p = Spec.page p.bytes.now p.at

-- the page q is p with the text bs written, over the same bytes
pub record Writes (p : Page) (bs : List ℕ) (q : Page) : Type 0 where
  pub same : q.bytes.ghost_name ≡ p.bytes.ghost_name
  pub is : cells_of q ≡ Spec.puts (cells_of p) bs
