-- Three numbers, a link and a value behind those of the roots before.
use Rattle.decode.specs.Inner.Rooted.{root_tabs}
use Rattle.decode.proofs.tiles.Roots.{root_put}
use Rattle.decode.proofs.tiles.Fields.{i32_seen}
use Rattle.decode.proofs.tiles.put_root.Goals as goal

pub returns : goal.returns
returns c =
    let a = c.args in let (room, links, values) = c.requires in
    root_put a.key a.link a.value (root_tabs a.blocks.now a.links.now a.values.now) room links values
    (i32_seen _ _ c.key_field.type_inv c.key_field.ensures) (i32_seen _ _ c.key_field-2.type_inv c.key_field-2.ensures)
    (i32_seen _ _ c.key_field-3.type_inv c.key_field-3.ensures)
