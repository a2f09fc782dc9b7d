-- Worked examples, each with the answer of an exact model.
use Rattle.std.specs.Prelude.{◌≡◌, refl, Bool, true, false, pos, negsuc, Float}
use Rattle.std.specs.Float.{fin}
use Rattle.std.specs.Float.Ieee.{lt, add, sub, mul}
use Rattle.float.specs.Fused.{floor}
use Rattle.float.specs.Zero.{+0}
use Rattle.float.specs.Units.{units_of}
use Rattle.float.proofs.Exactly.{unit}
use Rattle.mix.specs.Mix.{lerp, along_z, along_y, mix, part}

-- a quarter of the way from 1 to 3
quarter : lerp unit (fin false 3 (pos 0)) (fin false 1 (negsuc 1)) ≡ fin false 3 (negsuc 0)
unfolding lerp add mul sub
quarter = refl

-- ---- which part goes with which axis: 4 * x + 2 * y + z at 1/4, 1/2 and 3/4
ramp : Bool → Bool → Bool → Float
ramp false false false = +0
ramp false false true = fin false 1 (pos 0)
ramp false true false = fin false 1 (pos 1)
ramp false true true = fin false 3 (pos 0)
ramp true false false = fin false 1 (pos 2)
ramp true false true = fin false 5 (pos 0)
ramp true true false = fin false 3 (pos 1)
ramp true true true = fin false 7 (pos 0)

axes : mix ramp (fin false 1 (negsuc 1)) (fin false 1 (negsuc 0)) (fin false 3 (negsuc 1)) ≡ fin false 11 (negsuc 1)
unfolding mix along_y along_z lerp add mul sub ramp
axes = refl

-- ---- the order of the axes, z first: each of the other five orders gives another number
rough : Bool → Bool → Bool → Float
rough false false false = fin false 1 (pos 0)
rough false false true = fin false 3 (pos 0)
rough false true false = fin false 1 (pos 0)
rough false true true = fin false 1 (pos 0)
rough true false false = +0
rough true false true = fin false 1 (pos 1)
rough true true false = fin false 1 (pos 0)
rough true true true = +0

z_first : mix rough (fin false 11184811 (negsuc 24)) (fin false 13421773 (negsuc 25)) (fin false 9586981 (negsuc 25))
    ≡ fin false 7989151 (negsuc 22)
unfolding mix along_y along_z lerp add mul sub rough
z_first = refl

-- ---- eight equal voxels give more than they are: 4.5 * 2 ^ -24 of them
level : Bool → Bool → Bool → Float
level x y z = fin false 11184811 (negsuc 20)

above : mix level (fin false 8947849 (negsuc 28)) (fin false 8947849 (negsuc 28)) (fin false 11184811 (negsuc 26))
    ≡ fin false 5592407 (negsuc 19)
unfolding mix along_y along_z lerp add mul sub level
above = refl

is_above : lt (fin false 11184811 (negsuc 20)) (fin false 5592407 (negsuc 19)) ≡ true
unfolding lt
is_above = refl

-- ---- a position less its floor: -2 ^ -149 gives 1, and so does -2 ^ -25; -2 ^ -24 gives 1 - 2 ^ -24, and 2.75 gives 0.75
least : part (fin true 1 (negsuc 148)) ≡ unit
unfolding part sub floor
least = refl

tie : part (fin true 1 (negsuc 24)) ≡ unit
unfolding part sub floor
tie = refl

short : part (fin true 1 (negsuc 23)) ≡ fin false 16777215 (negsuc 23)
unfolding part sub floor
short = refl

plain : part (fin false 11 (negsuc 1)) ≡ fin false 3 (negsuc 1)
unfolding part sub floor
plain = refl

-- the largest f32 is its own floor
huge : part (fin false 16777215 (pos 104)) ≡ +0
unfolding part sub floor
huge = refl

-- ---- 2 ^ -140 is 512 units
units : units_of (fin false 1 (negsuc 139)) ≡ 512
units = refl
