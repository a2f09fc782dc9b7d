-- checked_coordinate: the whole part of a number as an i32.
use Rattle.std.specs.Prelude.{◌&&◌, ℤ, pos, negsuc, Float}
use Rattle.std.specs.Float.{binary64}
use Rattle.std.specs.Float.Ieee.{le, of_int, to_signed}
use Rattle.std.specs.Float.Ieee.Scale.{finite}
use Rattle.refusals.specs.Results.{Result, ok, need}

-- 16 where v is not finite or lies outside i32
unfoldable pub coordinate : Float → Result ℤ
coordinate v =
    need (finite v && le (of_int binary64 (negsuc 2147483647)) v && le v (of_int binary64 (pos 2147483647))) 16
    (ok (to_signed 31 v))
