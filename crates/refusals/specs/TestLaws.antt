-- Laws of tests: of `&&`, of two tests that imply each other, of `eqb`. Assumes nothing.
use Rattle.std.specs.Prelude.{◌≡◌, refl, Bool, true, false, ◌&&◌, ℕ, T, eqb}
use Rattle.std.proofs.Common.{subst}
use Rattle.std.proofs.Math.Dec.{eqb_refl}

pub and_l : (a b : Bool) → T (a && b) → T a
and_l true b t = tt
and_l false b t = absurd t

pub and_r : (a b : Bool) → T (a && b) → T b
and_r true b t = t
and_r false b t = absurd t

pub and_i : (a b : Bool) → T a → T b → T (a && b)
and_i true b s t = t
and_i false b s t = absurd s

pub same_test : (a b : Bool) → (T a → T b) → (T b → T a) → a ≡ b
same_test true true f g = refl
same_test true false f g = absurd (f tt)
same_test false true f g = absurd (g tt)
same_test false false f g = refl

pub eq→eqb : (m n : ℕ) → m ≡ n → T (eqb m n)
eq→eqb m n e = subst (λ (z : ℕ). T (eqb m z)) e (eqb_refl m)

-- two pairs of tests that are the same
pub and_same : {a b x y : Bool} → a ≡ x → b ≡ y → (a && b) ≡ (x && y)
and_same p q = λ i. p i && q i
