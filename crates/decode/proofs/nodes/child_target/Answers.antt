-- A sum that is a place, or is no multiple of 32, or lies below 0.
use Rattle.decode.proofs.nodes.Targets.{target_whole, target_uneven, target_none}
use Rattle.decode.proofs.nodes.child_target.Goals as goal

pub returns-in-Some : goal.returns-in-Some
returns-in-Some c =
    target_whole c.args.base c.args.bits c.cast_signed.result c.cast_signed.type_inv c.cast_signed.ensures c.in-Some.to
    (c.in-Some.ensures) c.if-to-eq0.true

pub returns-in_default : goal.returns-in_default
returns-in_default c =
    target_uneven c.args.base c.args.bits c.cast_signed.result c.cast_signed.type_inv c.cast_signed.ensures c.in-Some.to
    (c.in-Some.ensures) c.if-to-eq0.false

pub returns-in_default-2 : goal.returns-in_default-2
returns-in_default-2 c =
    target_none c.args.base c.args.bits c.cast_signed.result c.cast_signed.type_inv c.cast_signed.ensures c.requires c.in_default.ensures
