-- The loop of `tiles`: the first i tiles have been read as the definition reads them.
use Rattle.std.proofs.Common.{◌≡◌}
use Rattle.nanovdb.specs.Lent.{lengths}
use Rattle.decode.specs.Record.{as_tables, SameSlices}
use Rattle.decode.specs.Inner.Filled.{nodes_of}
use Rattle.decode.specs.Inner.Rooted.{roots_of}
use Rattle.decode.proofs.tiles.Turns.{Row}
use Rattle.decode.proofs.tiles.tiles.Given as goal

abbrev pub invariant-loop-i : goal.invariant-loop-i
invariant-loop-i l =
    let f = l.fn in
    let t = as_tables f.tables in
    let u = as_tables l.tables in
    record {
      row : Row f.bytes f.root f.count (nodes_of t) (roots_of t) f.st (nodes_of u) (roots_of u) l.now l.i;
      lengths : lengths u ≡ lengths t;
      same : SameSlices f.tables l.tables;
    }
