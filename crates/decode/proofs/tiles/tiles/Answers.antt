-- The loop of `tiles` over one tile more, and its ways out. Assumes nothing.
use Rattle.std.proofs.Common.{rules, refl, sym, subst, ◌∙◌, arith}
use Rattle.refusals.proofs.Exits.{exit_is}
use Rattle.decode.specs.Record.{as_tables}
use Rattle.decode.specs.Inner.Filled.{nodes_of}
use Rattle.decode.specs.Inner.Rooted.{roots_of, TilesOut}
use Rattle.decode.proofs.tiles.Turns.{row_begins, row_more, tiles_stop, tiles_end}
use Rattle.decode.proofs.tiles.tiles.Goals as goal

pub loop-i-init : goal.loop-i-init
loop-i-init c = record { row = row_begins c.requires.fit; lengths = refl; same = search rules }

pub returns-in_err-now-clause-tiles : goal.returns-in_err-now-clause-tiles
returns-in_err-now-clause-tiles c =
    let a = c.args in
    let t = as_tables a.tables.now in
    let u = as_tables c.tile.new.tables in
    subst (TilesOut a.bytes.now a.root a.count (nodes_of t) (roots_of t) a.st (nodes_of u) (roots_of u))
    (sym (exit_is c.from_residual.result _ c.from_residual.ensures.1))
    (tiles_stop c.loop-i.invariant.row (omega arith) c.in_err-now.ensures.tile)

pub loop-i-preserved : goal.loop-i-preserved
loop-i-preserved c = record {
  row = row_more c.loop-i.invariant.row (omega arith) c.in_ok-now.ensures.tile c.in_ok-now.ensures.lengths;
  lengths = c.in_ok-now.ensures.lengths ∙ c.loop-i.invariant.lengths;
  same = search rules;
}

pub returns-clause-tiles : goal.returns-clause-tiles
returns-clause-tiles c = tiles_end c.loop-i.invariant.row (omega arith)
