-- The parts of its line, one after another.
use Rattle.std.proofs.Common.{arith, rules}
use Rattle.text.proofs.Writing.{◌then◌}
use Rattle.sparse_grid.specs.Tables.{block_at}
use Rattle.sparse_grid.specs.Record.{as_grid}
use Rattle.report.specs.Report.{root_word, root_line}
use Rattle.report.proofs.Fields.{Fit, held_triple, read_bits}
use Rattle.report.proofs.lines.put_root.Goals as goal

pub returns : goal.returns
unfolding root_word root_line
returns c =
    let a = c.args in
    let fit : Fit (block_at (as_grid a.grid.now) a.i) = record { x = search rules; y = search rules; z = search rules } in
    c.put_bytes.ensures
    then held_triple fit c.put_triple.ensures
    then read_bits a.grid.now.roots.values.now a.i (omega (arith, c.requires.within, c.requires.paired.roots)) c.put_bits.ensures
    then c.put_byte.ensures
