-- The zero that stands where there is no value.
use Rattle.std.specs.Prelude.{false, pos, Float}
use Rattle.std.specs.Float.{fin}

abbrev pub +0 : Float
+0 = fin false 0 (pos 0)
