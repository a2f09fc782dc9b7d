-- Tests and what they tell, beyond lib.Dec, lib.Ieee.Bits and lib.Ieee.Fits.
use Rattle.std.specs.Prelude.{◌≡◌, ℕ, ◌<◌, ◌≤◌, Bool, true, false, not, ◌||◌, T, ◌⊎◌, nat_lt, refl}
use Rattle.std.proofs.Common.{sym, subst, inl, inr, true≢false, ltb→lt, nltb→le}

-- a test from an equation on it, and back
pub yes : {b : Bool} → b ≡ true → T b
yes e = subst T (sym e) tt

pub no : (b : Bool) → b ≡ false → T (not b)
no true e = absurd (true≢false e)
no false e = tt

-- what cannot be true is false
pub is_false : (b : Bool) → (T b → ⊥) → b ≡ false
is_false true n = absurd (n tt)
is_false false n = refl

pub clash : (b : Bool) → b ≡ false → T b → ⊥
clash true e t = true≢false e
clash false e t = t

-- a test passes or fails
pub yes_or_no : (b : Bool) → T b ⊎ T (not b)
yes_or_no true = inl tt
yes_or_no false = inr tt

-- one of two tests
pub or_l : (a b : Bool) → T a → T (a || b)
or_l true b t = tt
or_l false b t = absurd t

pub or_r : (a b : Bool) → T b → T (a || b)
or_r true b t = tt
or_r false b t = t

pub or_split : (a b : Bool) → T (a || b) → T a ⊎ T b
or_split true b t = inl tt
or_split false b t = inr t

-- neither of two tests
pub neither_l : (a b : Bool) → (a || b) ≡ false → a ≡ false
neither_l true b e = e
neither_l false b e = refl

pub neither_r : (a b : Bool) → (a || b) ≡ false → b ≡ false
neither_r true b e = absurd (true≢false e)
neither_r false b e = e

-- of two numbers one is less, or the other is at most it
pub decide : (a b : ℕ) → (a < b) ⊎ (b ≤ a)
decide a b = elim (yes_or_no (nat_lt a b)) [ inl t ↦ inl (ltb→lt a b t) | inr t ↦ inr (nltb→le a b t) ]
