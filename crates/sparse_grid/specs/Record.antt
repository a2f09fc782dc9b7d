-- The grid that the code's record stands for.
use Rattle.sparse_grid.specs.Tables.{Grid, grid_of}
use Rattle.sparse_grid.specs.declared.grid.Grid as Code

abbrev pub as_grid : Code.Grid → Grid
as_grid g =
    grid_of g.background g.blocks.now g.roots.links.now g.roots.values.now
    g.upper.links.now g.upper.values.now g.lower.links.now g.lower.values.now g.leaf_values.now
