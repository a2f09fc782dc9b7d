-- The ways out: no position, which a sound map has; a side that is no voxel on x, y or z; and the mix.
use Rattle.std.proofs.Common.{◌∙◌, ap}
use Rattle.refusals.specs.Results.{ok}
use Rattle.refusals.proofs.Exits.{exit_said}
use Rattle.sparse_grid.specs.Lookup.{read_in}
use Rattle.sparse_grid.specs.Record.{as_grid}
use Rattle.medium.specs.Record.{as_medium, point_of}
use Rattle.mix.proofs.Laws.{side, joined, join_x, join_y, join_z, join_all, no_bits, sides_known}
use Rattle.mix.proofs.point.density.Goals as goal

pub returns-in_err-at : goal.returns-in_err-at
returns-in_err-at c =
    let a = c.args in
    absurd (no_bits (read_in (as_grid a.grid.now)) (as_medium a.m.now) (point_of a.point) c.requires c.in_err-at.ensures)

pub returns-in_err-i : goal.returns-in_err-i
returns-in_err-i c =
    let a = c.args in
    let read = read_in (as_grid a.grid.now) in
    let l = c.in_ok-at.at in
    exit_said _ c.in_err-i.field-0.0 c.from_residual-in_err-i.ensures.1
    ∙ join_x read _ (side l 1) (side l 2)
    ∙ (λ t. joined read (c.in_err-i.ensures t) (side l 1) (side l 2))
    ∙ sides_known read (as_medium a.m.now) (point_of a.point) c.requires c.in_ok-check_inside.ensures c.in_ok-at.ensures

pub returns-in_err-j : goal.returns-in_err-j
returns-in_err-j c =
    let a = c.args in
    let read = read_in (as_grid a.grid.now) in
    let l = c.in_ok-at.at in
    exit_said _ c.in_err-j.field-0.0 c.from_residual-in_err-j.ensures.1
    ∙ join_y read c.in_ok-i.i _ (side l 2)
    ∙ (λ t. joined read (c.in_ok-i.ensures t) (c.in_err-j.ensures t) (side l 2))
    ∙ sides_known read (as_medium a.m.now) (point_of a.point) c.requires c.in_ok-check_inside.ensures c.in_ok-at.ensures

pub returns-in_err-k : goal.returns-in_err-k
returns-in_err-k c =
    let a = c.args in
    let read = read_in (as_grid a.grid.now) in
    exit_said _ c.in_err-k.field-0.0 c.from_residual-in_err-k.ensures.1
    ∙ join_z read c.in_ok-i.i c.in_ok-j.j _
    ∙ (λ t. joined read (c.in_ok-i.ensures t) (c.in_ok-j.ensures t) (c.in_err-k.ensures t))
    ∙ sides_known read (as_medium a.m.now) (point_of a.point) c.requires c.in_ok-check_inside.ensures c.in_ok-at.ensures

pub returns : goal.returns
returns c =
    let a = c.args in
    let read = read_in (as_grid a.grid.now) in
    ap ok c.mixed_at.ensures
    ∙ join_all read c.in_ok-i.i c.in_ok-j.j c.in_ok-k.k
    ∙ (λ t. joined read (c.in_ok-i.ensures t) (c.in_ok-j.ensures t) (c.in_ok-k.ensures t))
    ∙ sides_known read (as_medium a.m.now) (point_of a.point) c.requires c.in_ok-check_inside.ensures c.in_ok-at.ensures
