-- The ways out of `tile` with a root more: a value, or the node below. Assumes nothing.
use Rattle.std.proofs.Common.{refl, sym, ◌∙◌}
use Rattle.std.specs.Prelude.{Ok, Result as Answer}
use Rattle.std.specs.Float.{binary32}
use Rattle.float.proofs.Literal.{zero_literal}
use Rattle.refusals.specs.declared.Refusal.{Refusal}
use Rattle.decode.proofs.tiles.Turns.{Keyed, Aimed, tile_out_value, tile_out_child}
use Rattle.decode.proofs.tiles.tile.Goals as goal

pub returns-then-relative-eq0-clause-tile : goal.returns-then-relative-eq0-clause-tile
returns-then-relative-eq0-clause-tile c =
    let keyed : Keyed c.args.bytes.now c.args.root c.args.i c.at-key.result =
    record { is = c.at-key.ensures; passes = sym c.key_passes.ensures ∙ c.if-not-key_passes.false } in
    tile_out_value keyed c.requires.fit c.at-relative.ensures c.if-relative-eq0.true c.at-value.ensures c.put_root.ensures

pub returns-clause-tile : goal.returns-clause-tile
returns-clause-tile c =
    let to : Answer _ Refusal = Ok c.in_ok-to.to in
    let aimed : Aimed c.args.bytes.now c.args.root c.args.i c.at-key.result c.at-relative.result to = record {
      keyed = record { is = c.at-key.ensures; passes = sym c.key_passes.ensures ∙ c.if-not-key_passes.false };
      word = c.at-relative.ensures;
      some = c.if-relative-eq0.false;
      aims = c.in_ok-to.ensures;
    } in
    tile_out_child aimed c.in_ok-node.ensures.node c.in_ok-node.ensures.roots refl (zero_literal binary32) c.put_root-2.ensures
