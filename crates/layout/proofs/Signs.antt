-- Two's complement as the machine has it is `signed`, at every width whose upper half is as large as its lower.
use mathlib.Core.Path.{◌≡◌, refl}
use mathlib.Core.Bool.{Bool, true, false, cond}
use Prim.Native.Nat.{ℕ, suc, ◌-◌, ◌^◌}
use native.Mathlib.Numerals.{add-one}
use lib.IntN.{ℤ, pos, negsuc}
use lib.Dec.{ltb}
use mir.Syntax.{Width}
use mir.Val.{bits, hbits, sel, to_z}
use Rattle.layout.specs.Bytes.{signed}

sel_cond : (t : Bool) (x y : ℤ) → sel t x y ≡ cond t x y
sel_cond true x y = refl
sel_cond false x y = refl

pub signed_to_z : (w : Width) (n : ℕ) → hbits w ≡ bits w - 1 → to_z w n ≡ signed (bits w) n
unfolding signed
signed_to_z w n e = rw (add-one n, ← e) (sel_cond (ltb n (2 ^ hbits w)) (pos n) (negsuc (2 ^ bits w - suc n)))
