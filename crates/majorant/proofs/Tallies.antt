-- Counts in words of 64 bits that grow. Assumes nothing.
use Rattle.std.proofs.Common.{◌≡◌, ℕ, zero, suc, ◌+◌, ◌*◌, ◌%◌, ◌<◌, ◌≤◌, List, [], ◌∷◌, get_or, refl, ap, subst, arith}
use Rattle.std.proofs.Math.Nat.{mod-mod, mod-lt}
use Rattle.walk.specs.Counts.{Words, Grown, word, words_of}

abbrev list : ℕ → ℕ → ℕ → ℕ → ℕ → List ℕ
list a b c d e = a ∷ b ∷ c ∷ d ∷ e ∷ []

words : {a b c d e : ℕ} → a < word → b < word → c < word → d < word → e < word → Words (list a b c d e)
words {a} {b} {c} {d} {e} p q r s t = record { five = refl; each = each }
  where
    each : (i : ℕ) → get_or (list a b c d e) i 0 < word
    each zero = p
    each (suc zero) = q
    each (suc (suc zero)) = r
    each (suc (suc (suc zero))) = s
    each (suc (suc (suc (suc zero)))) = t
    each (suc (suc (suc (suc (suc i))))) = omega arith

still : (n a : ℕ) → a % n ≡ (a + 0) % n
still n a = ap (λ (k : ℕ). k % n) (omega arith)

module _ {a b c d e : ℕ} (w : Words (list a b c d e)) where
  pub more_roots : (n : ℕ) → Grown (list a b c d e) (list ((a + n) % word) b c d e) n 0 0 0
  more_roots n = record {
    words = words (mod-lt (a + n) (omega arith)) (w.each 1) (w.each 2) (w.each 3) (w.each 4);
    roots_are = mod-mod (a + n) word;
    uppers_are = still word b;
    lowers_are = still word c;
    leaves_are = still (word * word) (words_of d e);
  }

  pub more_uppers : (n : ℕ) → Grown (list a b c d e) (list a ((b + n) % word) c d e) 0 n 0 0
  more_uppers n = record {
    words = words (w.each 0) (mod-lt (b + n) (omega arith)) (w.each 2) (w.each 3) (w.each 4);
    roots_are = still word a;
    uppers_are = mod-mod (b + n) word;
    lowers_are = still word c;
    leaves_are = still (word * word) (words_of d e);
  }

  pub more_lowers : (n : ℕ) → Grown (list a b c d e) (list a b ((c + n) % word) d e) 0 0 n 0
  more_lowers n = record {
    words = words (w.each 0) (w.each 1) (mod-lt (c + n) (omega arith)) (w.each 3) (w.each 4);
    roots_are = still word a;
    uppers_are = still word b;
    lowers_are = mod-mod (c + n) word;
    leaves_are = still (word * word) (words_of d e);
  }

  -- where the low word begins again, the high one grows
  pub more_leaves : (n : ℕ) {m : ℕ} → n ≡ m → n < word → (e + n) % word < n
      → Grown (list a b c d e) (list a b c ((d + 1) % word) ((e + n) % word)) 0 0 0 m
  more_leaves n k h l = subst (λ (m : ℕ). Grown (list a b c d e) (list a b c ((d + 1) % word) ((e + n) % word)) 0 0 0 m) k (record {
    words = words (w.each 0) (w.each 1) (w.each 2) (mod-lt (d + 1) (omega arith)) (mod-lt (e + n) (omega arith));
    roots_are = still word a;
    uppers_are = still word b;
    lowers_are = still word c;
    leaves_are = let p = w.each 3 in let q = w.each 4 in omega arith;
  })

  pub same_high : (n : ℕ) {m : ℕ} → n ≡ m → n < word → n ≤ (e + n) % word → Grown (list a b c d e) (list a b c d ((e + n) % word)) 0 0 0 m
  same_high n k h l = subst (λ (m : ℕ). Grown (list a b c d e) (list a b c d ((e + n) % word)) 0 0 0 m) k (record {
    words = words (w.each 0) (w.each 1) (w.each 2) (w.each 3) (mod-lt (e + n) (omega arith));
    roots_are = still word a;
    uppers_are = still word b;
    lowers_are = still word c;
    leaves_are = let p = w.each 3 in let q = w.each 4 in omega arith;
  })
