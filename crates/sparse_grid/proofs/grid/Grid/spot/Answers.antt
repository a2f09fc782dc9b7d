-- Tables that are not paired end it, and otherwise the roots decide.
use Rattle.std.proofs.Common.{◌≡◌, Err, ap, ◌∙◌, subst, length, rules}
use Rattle.sparse_grid.specs.declared.grid.Grid as Code
use Rattle.sparse_grid.specs.Lookup.{roots_from}
use Rattle.sparse_grid.specs.Ends.{with_leaves, found_by}
use Rattle.sparse_grid.specs.Record.{as_grid}
use Rattle.sparse_grid.proofs.Nodes.{unpaired, paired}
use Rattle.refusals.proofs.Exits.{number_some}
use Rattle.sparse_grid.proofs.grid.Grid.spot.Goals as goal

pub returns-in_err-paired : goal.returns-in_err-paired
returns-in_err-paired c = λ leaves d s.
    let e : c.from_residual.result ≡ Err c.in_err-paired.field-0.0 = search rules in
    ap (λ r. found_by (with_leaves (as_grid c.args.self.now) leaves) r d) e
    ∙ unpaired (as_grid c.args.self.now) leaves d _ c.in_err-paired.ensures.fault (number_some c.in_err-paired.field-0.0)

pub returns : goal.returns
returns c = λ leaves d s.
    let P : Code.Grid → Type 0 = λ q.
    let g = with_leaves (as_grid q) leaves in found_by g c.spot.result d ≡ roots_from g (length g.root_links) 0 d in
    paired (as_grid c.args.self.now) leaves d c.in_ok-paired.ensures.fault
    (subst P c.in_ok-paired.ensures.same (c.spot.ensures leaves d (search (rules, s))))
