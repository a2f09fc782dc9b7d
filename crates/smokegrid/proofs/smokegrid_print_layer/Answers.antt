-- 18 for another length, and otherwise the layer's text.
use Rattle.smokegrid.proofs.Windows.{print_size, print_written, print_none}
use Rattle.smokegrid.proofs.smokegrid_print_layer.Goals as goal

pub returns-then-cells-ne3 : goal.returns-then-cells-ne3
returns-then-cells-ne3 c = print_size c.if-cells-ne3.true c.number.ensures c.zero.ensures

pub returns-in-Ok : goal.returns-in-Ok
returns-in-Ok c = print_written c.if-cells-ne3.false c.cells_from.ensures c.in-Ok.ensures.answer c.in-Ok.ensures.text

pub returns-in-Err : goal.returns-in-Err
returns-in-Err c = print_none c.if-cells-ne3.false c.cells_from.ensures c.in-Err.ensures.answer c.number-in-Err.ensures c.in-Err.ensures.text
