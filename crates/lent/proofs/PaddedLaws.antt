-- Laws of tables that are filled from the front. Assumes nothing.
use Rattle.std.specs.Prelude.{◌≡◌, set, take}
use Rattle.std.proofs.Common.{sym, ◌∙◌}
use Rattle.std.proofs.Math.Path.{ap}
use mathlib.Core.List.{List, [], ◌∷◌, ◌++◌, append_assoc}
use Prim.Native.Nat.{ℕ, suc, ◌+◌, ◌-◌, ◌≤◌, ◌<◌}
use native.Mathlib.Omega.{arith}
use Rattle.std.proofs.Math.ListN.{length, replicate, length-append, length-replicate}
use Rattle.std.proofs.Math.Seq.{set-append_seam, take-append_seam}
use Rattle.lent.specs.Padded.{padded}

module _ {A : Type 0} where
  -- zeros alone
  pub padded_none : (n : ℕ) (z : A) → padded n z [] ≡ replicate n z
  unfolding padded
  padded_none n z = let e : n - 0 ≡ n = omega arith in ap (λ (k : ℕ). replicate k z) e

  -- the used part has a place in its own table
  pub padded_fits : (t : List A) (z : A) (l : List A) → t ≡ padded (length t) z l → length l ≤ length t
  unfolding padded
  padded_fits t z l e = omega (arith, ap length e, length-append l (replicate (length t - length l) z), length-replicate (length t - length l) z)

  pub padded_length : (n : ℕ) (z : A) (l : List A) → length l ≤ n → length (padded n z l) ≡ n
  unfolding padded
  padded_length n z l h = length-append l (replicate (n - length l) z) ∙ ap (λ (k : ℕ). length l + k) (length-replicate (n - length l) z) ∙ omega arith

  -- one place is left: there is a zero behind the used part
  padded_more : (n : ℕ) (z : A) (l : List A) → length l < n → padded n z l ≡ l ++ (z ∷ replicate (n - (length l + 1)) z)
  unfolding padded
  padded_more n z l h = ap (λ (k : ℕ). l ++ replicate k z) (split (length l) n h)
    where
      split : (m n : ℕ) → m < n → n - m ≡ suc (n - (m + 1))
      split m n h = omega arith

  padded_snoc : (n : ℕ) (z : A) (l : List A) (v : A) → padded n z (l ++ (v ∷ [])) ≡ l ++ (v ∷ replicate (n - (length l + 1)) z)
  unfolding padded
  padded_snoc n z l v = append_assoc l (v ∷ []) _ ∙ ap (λ (k : ℕ). l ++ (v ∷ replicate (n - k) z)) (length-append l (v ∷ []))

  -- a value stored behind the used part
  pub padded_push : (n : ℕ) (z : A) (l : List A) (v : A) → length l < n → set (padded n z l) (length l) v ≡ padded n z (l ++ (v ∷ []))
  padded_push n z l v h = ap (λ (t : List A). set t (length l) v) (padded_more n z l h) ∙ set-append_seam l z _ v ∙ sym (padded_snoc n z l v)

  -- a zero behind the used part need not be stored
  pub padded_zero : (n : ℕ) (z : A) (l : List A) → length l < n → padded n z (l ++ (z ∷ [])) ≡ padded n z l
  padded_zero n z l h = padded_snoc n z l z ∙ sym (padded_more n z l h)

  pub padded_take : (n : ℕ) (z : A) (l : List A) → take (length l) (padded n z l) ≡ l
  unfolding padded
  padded_take n z l = take-append_seam l _
