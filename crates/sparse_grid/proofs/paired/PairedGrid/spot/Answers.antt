-- Each entry on the way decides what the lookup finds, at each coordinate of the cube and whatever the leaves.
use Rattle.std.proofs.Common.{◌≡◌, Err, ap, sym, ◌∙◌, subst, rules}
use Rattle.layout.specs.Record.{as_coord}
use Rattle.sparse_grid.specs.Lookup.{root_entry, upper_entry, lower_entry}
use Rattle.sparse_grid.specs.Ends.{with_leaves, found_by}
use Rattle.sparse_grid.specs.Record.{as_grid}
use Rattle.sparse_grid.specs.Spots.{Cube}
use Rattle.sparse_grid.proofs.Nodes.{root_none, root_some, root_child, upper_step, upper_child, lower_step}
use Rattle.sparse_grid.proofs.SpotLaws.{block_same}
use Rattle.sparse_grid.proofs.paired.PairedGrid.spot.Goals as goal

pub returns-in_default : goal.returns-in_default
returns-in_default c = λ leaves d s.
    let g = with_leaves (as_grid c.args.self.now.grid) leaves in
    ap (λ r. found_by g r d) c.at_value.ensures
    ∙ root_none g d (as_coord c.block_of.result) (c.block_of.ensures ∙ sym (block_same s)) c.in_default.ensures

pub returns-in-Tile : goal.returns-in-Tile
returns-in-Tile c = λ leaves d s.
    let g = with_leaves (as_grid c.args.self.now.grid) leaves in
    ap (λ r. found_by g r d) c.at_value-in-Tile.ensures
    ∙ ap (root_entry g d) c.in-Tile.ensures
    ∙ root_some g d (as_coord c.block_of.result) (c.block_of.ensures ∙ sym (block_same s)) c.in-Some.i c.in-Some.ensures

pub returns-in_err-i : goal.returns-in_err-i
returns-in_err-i c = λ leaves d s.
    let g = with_leaves (as_grid c.args.self.now.grid) leaves in
    let t = subst (Cube d) (sym c.from-place.ensures) s in
    let e : c.from_residual.result ≡ Err c.in_err-i.field-0.0 = search rules in
    ap (λ r. found_by g r d) e
    ∙ upper_step g d _ t c.in-Child.k c.in_err-i.ensures.is
    ∙ root_child g d (as_coord c.block_of.result) (c.block_of.ensures ∙ sym (block_same s)) c.in-Some.i c.in-Some.ensures c.in-Child.ensures

pub returns-in-Tile-at : goal.returns-in-Tile-at
returns-in-Tile-at c = λ leaves d s.
    let g = with_leaves (as_grid c.args.self.now.grid) leaves in
    let t = subst (Cube d) (sym c.from-place.ensures) s in
    ap (λ r. found_by g r d) c.at_value-in-Tile-at.ensures
    ∙ ap (upper_entry g d) c.in-Tile-at.ensures
    ∙ upper_step g d _ t c.in-Child.k c.in_ok-i.ensures.is
    ∙ root_child g d (as_coord c.block_of.result) (c.block_of.ensures ∙ sym (block_same s)) c.in-Some.i c.in-Some.ensures c.in-Child.ensures

pub returns-in_err-i-2 : goal.returns-in_err-i-2
returns-in_err-i-2 c = λ leaves d s.
    let g = with_leaves (as_grid c.args.self.now.grid) leaves in
    let t = subst (Cube d) (sym c.from-place.ensures) s in
    let e : c.from_residual-in_err-i-2.result ≡ Err c.in_err-i-2.field-0.0 = search rules in
    ap (λ r. found_by g r d) e
    ∙ lower_step g d _ t c.in-Child-at.k c.in_err-i-2.ensures.is
    ∙ upper_child g d _ t c.in-Child.k c.in_ok-i.ensures.is c.in-Child-at.ensures
    ∙ root_child g d (as_coord c.block_of.result) (c.block_of.ensures ∙ sym (block_same s)) c.in-Some.i c.in-Some.ensures c.in-Child.ensures

pub returns-in-Child-at-2 : goal.returns-in-Child-at-2
returns-in-Child-at-2 c = λ leaves d s.
    let g = with_leaves (as_grid c.args.self.now.grid) leaves in
    let t = subst (Cube d) (sym c.from-place.ensures) s in
    ap (lower_entry g d) c.in-Child-at-2.ensures
    ∙ lower_step g d _ t c.in-Child-at.k c.in_ok-i-2.ensures.is
    ∙ upper_child g d _ t c.in-Child.k c.in_ok-i.ensures.is c.in-Child-at.ensures
    ∙ root_child g d (as_coord c.block_of.result) (c.block_of.ensures ∙ sym (block_same s)) c.in-Some.i c.in-Some.ensures c.in-Child.ensures

pub returns-in-Tile-at-2 : goal.returns-in-Tile-at-2
returns-in-Tile-at-2 c = λ leaves d s.
    let g = with_leaves (as_grid c.args.self.now.grid) leaves in
    let t = subst (Cube d) (sym c.from-place.ensures) s in
    ap (λ r. found_by g r d) c.at_value-in-Tile-at-2.ensures
    ∙ ap (lower_entry g d) c.in-Tile-at-2.ensures
    ∙ lower_step g d _ t c.in-Child-at.k c.in_ok-i-2.ensures.is
    ∙ upper_child g d _ t c.in-Child.k c.in_ok-i.ensures.is c.in-Child-at.ensures
    ∙ root_child g d (as_coord c.block_of.result) (c.block_of.ensures ∙ sym (block_same s)) c.in-Some.i c.in-Some.ensures c.in-Child.ensures
