-- One coordinate after another.
use Rattle.std.proofs.Common.{rules}
use Rattle.medium.specs.Record.{coord_of}
use Rattle.report.proofs.Fields.{Fit, put_triple}
use Rattle.report.proofs.lines.put_triple.Goals as goal

pub returns : goal.returns
returns c =
    let fit : Fit (coord_of c.args.place) = record { x = search rules; y = search rules; z = search rules } in
    put_triple fit c.put_coordinate.ensures c.put_coordinate-2.ensures c.put_coordinate-3.ensures
