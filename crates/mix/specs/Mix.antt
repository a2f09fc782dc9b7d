-- The mix of eight values along z, then y, then x, and the part of a position that it goes by.
use Rattle.std.specs.Prelude.{Bool, true, false, pos, Float}
use Rattle.std.specs.Float.{fin, binary32}
use Rattle.std.specs.Float.Ieee.{add, sub, mul}
use Rattle.float.specs.Fused.{floor}

abbrev one : Float
one = fin false 1 (pos 0)

-- (1 - t) * a + t * b, each step rounded
unfoldable pub lerp : Float → Float → Float → Float
lerp a b t = add binary32 (mul binary32 (sub binary32 one t) a) (mul binary32 t b)

-- v x y z is the value at the floor on an axis with `false`, and at the floor + 1 on one with `true`
unfoldable pub along_z : (Bool → Bool → Bool → Float) → Float → Bool → Bool → Float
along_z v tz x y = lerp (v x y false) (v x y true) tz

unfoldable pub along_y : (Bool → Bool → Bool → Float) → Float → Float → Bool → Float
along_y v tz ty x = lerp (along_z v tz x false) (along_z v tz x true) ty

unfoldable pub mix : (Bool → Bool → Bool → Float) → Float → Float → Float → Float
mix v tx ty tz = lerp (along_y v tz ty false) (along_y v tz ty true) tx

-- a position less its floor. It lies from 0 to 1, and may round to 1
unfoldable pub part : Float → Float
part p = sub binary32 p (floor binary32 p)
