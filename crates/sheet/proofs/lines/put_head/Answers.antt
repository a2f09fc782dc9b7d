-- The parts of its line, one after another.
use Rattle.std.proofs.Common.{ℕ, ap}
use Rattle.text.specs.Numerals.{hex8}
use Rattle.text.proofs.Writing.{◌then◌, as_text}
use Rattle.sheet.specs.Sheet.{layer_word, head_line}
use Rattle.sheet.proofs.lines.put_head.Goals as goal

pub returns : goal.returns
unfolding layer_word head_line
returns c =
    c.put_bytes.ensures then c.put_place.ensures then c.put_byte.ensures
    then as_text c.put_hex8.ensures (ap (λ (n : ℕ). hex8 n) c.bits_of.ensures)
    then c.put_byte-2.ensures
