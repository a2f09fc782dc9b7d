-- The literal 0.0, which code writes as the float of the bits 0, is +0 in both formats.
use Rattle.std.specs.Prelude.{◌≡◌, refl}
use Rattle.std.specs.Float.{Format, binary32, binary64}
use Rattle.std.specs.Float.Ieee.{of_bits}
use Rattle.float.specs.Zero.{+0}

pub zero_literal : (f : Format) → of_bits f 0 ≡ +0
unfolding of_bits
zero_literal binary32 = refl
zero_literal binary64 = refl
