-- The run goes to the table of the kind.
use Rattle.decode.proofs.nodes.Runs.{lower_run, upper_run}
use Rattle.decode.proofs.nodes.tiles_between.Goals as goal

pub returns-in-Lower : goal.returns-in-Lower
returns-in-Lower c = lower_run c.args.bytes.now c.args.source c.args.kind c.table.ensures c.in-Lower.is c.run.ensures

pub returns-in-Upper : goal.returns-in-Upper
returns-in-Upper c = upper_run c.args.bytes.now c.args.source c.args.kind c.table.ensures c.in-Upper.is c.run-in-Upper.ensures
