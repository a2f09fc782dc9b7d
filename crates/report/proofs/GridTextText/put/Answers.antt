-- The lines, one after another; a valid grid has paired tables.
use Rattle.std.proofs.Common.{sym, ◌∙◌}
use Rattle.std.proofs.lemmas.Bool.{true≢false}
use Rattle.sparse_grid.specs.Record.{as_grid}
use Rattle.sparse_grid.specs.Sound.{pairs, sound}
use Rattle.text.proofs.Writing.{◌then◌}
use Rattle.report.specs.Report.{grid_word, grid_line, nodes_word, nodes_line, grid_text}
use Rattle.report.proofs.GridTextText.put.Goals as goal

pub put_roots-requires : goal.put_roots-requires
put_roots-requires c = c.are_paired.ensures.paired c.if-are_paired.true

pub returns-then-are_paired : goal.returns-then-are_paired
unfolding grid_text grid_word grid_line nodes_word nodes_line
returns-then-are_paired c valid =
    c.put_line.ensures then c.put_line-2.ensures then c.put_box.ensures then c.put_back.ensures then c.put_roots.ensures

pub returns-else-are_paired : goal.returns-else-are_paired
returns-else-are_paired c valid =
    let g = as_grid c.args.grid.now in
    absurd (true≢false (sym (c.are_paired.ensures.all (pairs g (sound g valid).paired)) ∙ c.if-are_paired.false))
