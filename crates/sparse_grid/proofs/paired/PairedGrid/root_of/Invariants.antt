-- the search from i on is that from 0 on
use Rattle.std.proofs.Common.{◌≡◌, ◌-◌, length}
use Rattle.layout.specs.Record.{as_coord}
use Rattle.sparse_grid.specs.Inner.{root_from}
use Rattle.sparse_grid.specs.Record.{as_grid}
use Rattle.sparse_grid.proofs.paired.PairedGrid.root_of.Given as goal

abbrev pub invariant-loop-i : goal.invariant-loop-i
invariant-loop-i l =
    let g = as_grid l.self.grid in
    let n = length g.root_links in
    let b = as_coord l.block in
    root_from g.blocks (n - l.i) l.i b ≡ root_from g.blocks n 0 b
