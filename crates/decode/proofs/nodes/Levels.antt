-- What is chosen by the level, from the code's tests of it. Assumes nothing.
use mathlib.Core.Path.{◌≡◌, refl}
use Prim.Native.Nat.{ℕ, zero, suc, ◌-◌, ◌<◌}
use native.Mathlib.Omega.{arith}
use Rattle.nanovdb.specs.Nodes.{by_level}

-- the level below
pub less_one : (level : ℕ) → 0 < level → level ≡ suc (level - 1)
less_one level h = omega arith

-- ---- what is chosen by a level, from tests of its number

pub at_leaf : {A : Type 0} {level : ℕ} {a : A} (b c : A) → level ≡ 0 → a ≡ by_level level a b c
at_leaf {level = zero} b c e = refl
at_leaf {level = suc level} b c e = absurd (omega arith)

pub at_lower_lem : {A : Type 0} {level : ℕ} {b : A} (a c : A) → level ≡ 1 → b ≡ by_level level a b c
at_lower_lem {level = zero} a c e = absurd (omega arith)
at_lower_lem {level = suc zero} a c e = refl
at_lower_lem {level = suc (suc level)} a c e = absurd (omega arith)

pub at_upper_lem : {A : Type 0} {level : ℕ} {c : A} (a b : A) → (level ≡ 0 → ⊥) → (level ≡ 1 → ⊥) → c ≡ by_level level a b c
at_upper_lem {level = zero} a b m n = absurd (m refl)
at_upper_lem {level = suc zero} a b m n = absurd (n refl)
at_upper_lem {level = suc (suc level)} a b m n = refl

-- a place of an internal node's table is at no leaf
pub room_none : {level at : ℕ} (lower upper : ℕ) → at < by_level level 0 lower upper → level ≡ 0 → ⊥
room_none {level = zero} lower upper h e = omega arith
room_none {level = suc level} lower upper h e = omega arith
