-- The fields of a key: 20 bits with a sign, in an i32. Assumes nothing.
use mathlib.Core.Path.{◌≡◌, sym, ap, ◌∙◌}
use mathlib.Core.Bool.{Bool, false, cond}
use Prim.Native.Nat.{ℕ, suc, ◌+◌, ◌-◌, ◌/◌, ◌%◌, ◌^◌, ◌<◌, ◌≤◌}
use lib.Dec.{eqb}
use borrow.Author.Tests.{lt-ltb, le-ltb, eq-eqb, ne_eqb}
use Rattle.nanovdb.specs.Tree.{key_passes}
use native.Mathlib.Omega.{arith}
use lib.IntN.{ℤ, pos, negsuc, ◌-ℤ◌}
use lib.Signed.{mag}
use mir.Syntax.{w32}
use mir.Val.{to_z, of_z}
use mir.Facts.{to_z-of_z, to_z_pos}
use Rattle.layout.specs.Bytes.{signed}
use Rattle.layout.specs.FieldLaws.{signed_low, signed_high}

pub field_low : (bits : ℕ) → bits < 524288 → to_z w32 bits ≡ signed 20 bits
field_low bits h = to_z_pos w32 (omega arith) ∙ sym (signed_low 20 bits h)

-- a number below 2^20, less that
less : (a k : ℕ) → a + (k + 1) ≡ 1048576 → pos a -ℤ pos 1048576 ≡ negsuc k
less a k e =
    ap (λ (t : Bool). cond t (negsuc (1048576 - suc a)) (pos (a - 1048576))) (lt-ltb a 1048576 (omega arith)) ∙ ap negsuc (omega arith)

pub field_high : (bits : ℕ) → bits < 1048576 → 524288 ≤ bits → to_z w32 (of_z w32 (to_z w32 bits -ℤ pos 1048576)) ≡ signed 20 bits
field_high bits s h =
    let k : ℕ = 1048576 - (bits + 1) in
    let is : to_z w32 bits -ℤ pos 1048576 ≡ negsuc k =
    ap (λ (z : ℤ). z -ℤ pos 1048576) (to_z_pos w32 (omega arith)) ∙ less bits k (omega arith) in
    to_z-of_z {w = w32} (rw is (record { sfits = omega arith })) ∙ is ∙ sym (signed_high 20 bits h)

-- an i32 that a local holds as bits
pub i32_seen : (z v : ℤ) → mag z < 2 ^ 31 → z ≡ v → to_z w32 (of_z w32 z) ≡ v
i32_seen z v h e = to_z-of_z {w = w32} (record { sfits = h }) ∙ e

-- the tests of a key
module _ (key : ℕ) where
  pub key_last : key < 4611686018427387904 → key / 1048576 % 2 ≡ 0 → eqb (key / 2199023255552 % 2) 0 ≡ key_passes key
  key_last h e = sym (rw (lt-ltb key 4611686018427387904 h, eq-eqb (key / 1048576 % 2) 0 e))

  pub key_low : key < 4611686018427387904 → (key / 1048576 % 2 ≡ 0 → ⊥) → false ≡ key_passes key
  key_low h e = sym (rw (lt-ltb key 4611686018427387904 h, ne_eqb (key / 1048576 % 2) 0 e))

  pub key_high : 4611686018427387904 ≤ key → false ≡ key_passes key
  key_high h = sym (rw (le-ltb key 4611686018427387904 h))
