-- The digits of a number in base sixteen, the highest first: digit i of eight stands behind the first i. Assumes nothing.
use Rattle.std.proofs.Common.{◌≡◌, refl, sym, ap, ◌∙◌, [], ◌∷◌, ◌++◌, ℕ, ◌+◌, ◌-◌, ◌*◌, ◌/◌, ◌%◌, ◌^◌, ◌<◌, arith, add-one, pow-add}
use Rattle.std.proofs.Math.Nat.{div-div-eq-div-mul}
use Rattle.text.specs.Numerals.{digit, sixteens, hex8}

-- the digits above place k of n, for four bits a digit
shifted : (n k : ℕ) → n / 2 ^ k / 16 ≡ n / 2 ^ (k + 4)
shifted n k = div-div-eq-div-mul n (2 ^ k) 16 ∙ ap (λ (m : ℕ). n / m) (sym (pow-add 2 k 4))

pub eight_more : (n i : ℕ) → i < 8 → {d : ℕ} → d ≡ digit (n / 2 ^ (28 - 4 * i) % 16)
    → sixteens i (n / 2 ^ (32 - 4 * i)) ++ (d ∷ []) ≡ sixteens (i + 1) (n / 2 ^ (32 - 4 * (i + 1)))
unfolding sixteens
eight_more n i h {d} e =
    let k : 32 - 4 * (i + 1) ≡ 28 - 4 * i = omega arith in
    let j : 28 - 4 * i + 4 ≡ 32 - 4 * i = omega arith in
    rw (add-one i, ← add-one i, k, e, shifted n (28 - 4 * i), j) refl

pub eight_all : (n i : ℕ) → i ≡ 8 → sixteens i (n / 2 ^ (32 - 4 * i)) ≡ hex8 n
eight_all n i e = let one : n / 1 ≡ n = omega arith in rw e (ap (λ (m : ℕ). sixteens 8 m) one)
