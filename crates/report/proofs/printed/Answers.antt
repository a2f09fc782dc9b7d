-- What is printed stands at the front of the slice.
use Rattle.std.proofs.Common.{rules}
use Rattle.report.specs.Report.{printed_of}
use Rattle.report.proofs.Whole.{front_value, front_cells}
use Rattle.report.proofs.printed.Goals as goal

pub returns-clause-value : goal.returns-clause-value
returns-clause-value g c = front_value c.args.out.now (printed_of g.T.Text.text c.args.bytes.now) _ _ c.put_printed.ensures.text.is

pub returns-clause-out_after : goal.returns-clause-out_after
returns-clause-out_after g c =
    let cells = front_cells c.args.out.now (printed_of g.T.Text.text c.args.bytes.now) _ _ c.put_printed.ensures.text.is in
    search (rules, cells)
