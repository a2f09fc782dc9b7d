-- The loop of `node`: the first i slots have been read as the definition reads them. The measure of the calls is the level.
use Rattle.std.proofs.Common.{◌≡◌, ◌-◌}
use Rattle.nanovdb.specs.Lent.{lengths}
use Rattle.decode.specs.Record.{as_tables, SameSlices}
use Rattle.decode.specs.Inner.Kinds.{level_of}
use Rattle.decode.specs.Inner.Filled.{nodes_of}
use Rattle.decode.specs.Inner.Rooted.{roots_of}
use Rattle.decode.proofs.nodes.Answers.{Turned}
use Rattle.decode.proofs.nodes.+node.Given as goal

abbrev pub decreases-node : goal.decreases-node
decreases-node l = level_of l.kind

abbrev pub invariant-loop-kind : goal.invariant-loop-kind
invariant-loop-kind l =
    let f = l.fn in
    record {
      read : Turned (level_of l.kind) l.bytes l.source (nodes_of (as_tables f.tables)) f.st (nodes_of (as_tables l.initial.tables)) l.o
          (nodes_of (as_tables l.tables)) l.state l.i;
      roots : roots_of (as_tables l.tables) ≡ roots_of (as_tables f.tables);
      lengths : lengths (as_tables l.tables) ≡ lengths (as_tables f.tables);
      same : SameSlices f.tables l.tables;
    }

abbrev pub decreases-loop-kind : goal.decreases-loop-kind
decreases-loop-kind l = l.o.entries - l.i
