-- Twenty bits, by their sign.
use Rattle.decode.proofs.tiles.Fields.{field_low, field_high}
use Rattle.decode.proofs.tiles.key_field.Goals as goal

pub returns-then-bits-lt524288 : goal.returns-then-bits-lt524288
returns-then-bits-lt524288 c = field_low _ c.if-bits-lt524288.true

pub returns-else-bits-lt524288 : goal.returns-else-bits-lt524288
returns-else-bits-lt524288 c = field_high _ c.requires c.if-bits-lt524288.false
