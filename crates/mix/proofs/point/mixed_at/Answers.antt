-- In one cube of 8, what is read from where one lookup ended is what each of the eight lookups reads.
use Rattle.std.proofs.Common.{◌∙◌, rules}
use Rattle.sparse_grid.specs.Lookup.{read_in}
use Rattle.sparse_grid.specs.Record.{as_grid}
use Rattle.sparse_grid.specs.Spots.{leaves_of}
use Rattle.mix.specs.Mix.{lerp}
use Rattle.mix.specs.Density.{corner_of}
use Rattle.mix.specs.Inner.{ends_in, read_from}
use Rattle.mix.proofs.Cubes.{corner_cube, held_cube, as_looked_up, on_held, on_same}
use Rattle.mix.proofs.point.mixed_at.Goals as goal

pub returns-then-shares-3 : goal.returns-then-shares-3
returns-then-shares-3 c =
    let a = c.args in
    let g = as_grid a.grid.now in
    let spot = c.spot-spot.result in
    let x = c.shares.ensures c.if-shares.true in
    let y = c.shares-then-shares.ensures c.if-shares-2.true in
    let z = c.shares-then-shares-2.ensures c.if-shares-3.true in
    c.across.ensures
    ∙ (λ t. lerp (lerp (c.along_z.ensures t) (c.along_z-then-shares-3.ensures t) a.j.t)
    (lerp (c.along_z-then-shares-3-2.ensures t) (c.along_z-then-shares-3-3.ensures t) a.j.t) a.i.t)
    ∙ on_held (read_from (leaves_of g.leaf_values) spot) a.i a.j a.k (search rules) (search rules) (search rules) (search rules)
    ∙ on_same (read_from (leaves_of g.leaf_values) spot) (read_in g) a.i a.j a.k (λ u v w.
    let d = corner_of (ends_in a.i) (ends_in a.j) (ends_in a.k) u v w in
    as_looked_up g spot d (c.spot-spot.ensures g.leaf_values d
    (held_cube d a.i.lo a.j.lo a.k.lo (search rules) (search rules) (search rules) (corner_cube a.i a.j a.k x y z u v w))))
