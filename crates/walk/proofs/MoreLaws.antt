-- Laws of `More`: nothing more, more twice, other names for the same numbers, and counts from zero of numbers that their words hold. Assumes nothing.
use Rattle.std.specs.Prelude.{ℕ, zero, suc, ◌+◌, ◌*◌, ◌%◌, ◌≤◌, ◌<◌, ◌≡◌, refl, List, [], ◌∷◌, get_or, replicate}
use Rattle.std.proofs.Common.{add-zero, zero-add, add_assoc, mod-eq_of_lt, suc-mul, mul-le-mul_right, lt_of_lt_of_le, arith, sym, ap, ◌∙◌, subst}
use Rattle.std.proofs.Math.Nat.{mod-add-mod}
use Rattle.walk.specs.Counts.{Words, More, word, words_of}

-- counts that begin again after n: so many more, and so many more again
again : (n t u v a b : ℕ) → u % n ≡ (t + a) % n → v % n ≡ (u + b) % n → v % n ≡ (t + (a + b)) % n
again n t u v a b p q =
    q ∙ sym (mod-add-mod u n b) ∙ ap (λ (k : ℕ). (k + b) % n) p ∙ mod-add-mod (t + a) n b ∙ ap (λ (k : ℕ). k % n) (add_assoc t a b)

still : (n t : ℕ) → t % n ≡ (t + 0) % n
still n t = ap (λ (k : ℕ). k % n) (sym (add-zero t))

-- a number that is held, counted from zero
held : (n u a : ℕ) → u < n → a < n → u % n ≡ (0 + a) % n → u ≡ a
held n u a p q e = sym (mod-eq_of_lt p) ∙ e ∙ ap (λ (k : ℕ). k % n) (zero-add a) ∙ mod-eq_of_lt q

-- two words hold what is below their product
two : (n h l : ℕ) → h < n → l < n → h * n + l < n * n
two n h l p q = lt_of_lt_of_le (omega (arith, q)) (subst (λ (k : ℕ). k ≤ n * n) (suc-mul h n) (mul-le-mul_right n p))

pub none : {t : List ℕ} → More t t 0 0 0 0
none {t} w = record {
  words = w;
  roots_are = still word (get_or t 0 0);
  uppers_are = still word (get_or t 1 0);
  lowers_are = still word (get_or t 2 0);
  leaves_are = still (word * word) (words_of (get_or t 3 0) (get_or t 4 0));
}

pub and : {t u v : List ℕ} {a b c d a' b' c' d' : ℕ} → More t u a b c d → More u v a' b' c' d' → More t v (a + a') (b + b') (c + c') (d + d')
and {t} {u} {v} {a} {b} {c} {d} {a'} {b'} {c'} {d'} f g w =
    let m = f w in let n = g m.words in record {
      words = n.words;
      roots_are = again word (get_or t 0 0) (get_or u 0 0) (get_or v 0 0) a a' m.roots_are n.roots_are;
      uppers_are = again word (get_or t 1 0) (get_or u 1 0) (get_or v 1 0) b b' m.uppers_are n.uppers_are;
      lowers_are = again word (get_or t 2 0) (get_or u 2 0) (get_or v 2 0) c c' m.lowers_are n.lowers_are;
      leaves_are =
          again (word * word) (words_of (get_or t 3 0) (get_or t 4 0)) (words_of (get_or u 3 0) (get_or u 4 0)) (words_of (get_or v 3 0) (get_or v 4 0)) d d'
          m.leaves_are n.leaves_are;
    }

-- the same numbers, said otherwise
pub equal : {t u : List ℕ} {a b c d a' b' c' d' : ℕ} → a ≡ a' → b ≡ b' → c ≡ c' → d ≡ d' → More t u a b c d → More t u a' b' c' d'
equal {t} {u} p q r s = subst (λ (m : Type 0). m) (λ i. More t u (p i) (q i) (r i) (s i))

-- ---- from zero

pub zeros : Words (0 ∷ 0 ∷ 0 ∷ 0 ∷ 0 ∷ [])
zeros = record { five = refl; each = λ i. subst (λ (k : ℕ). k < word) (sym (none_at 5 i)) (omega arith) }
  where
    none_at : (n i : ℕ) → ◌≡◌ {A = ℕ} (get_or (replicate n 0) i 0) 0
    none_at zero i = refl
    none_at (suc n) zero = refl
    none_at (suc n) (suc i) = none_at n i

-- counts from zero in words, of numbers that these hold
pub record Exact (u : List ℕ) (roots uppers lowers leaves : ℕ) : Type 0 where
  pub roots_are : get_or u 0 0 ≡ roots
  pub uppers_are : get_or u 1 0 ≡ uppers
  pub lowers_are : get_or u 2 0 ≡ lowers
  pub leaves_are : words_of (get_or u 3 0) (get_or u 4 0) ≡ leaves

pub exact : {u : List ℕ} {a b c d : ℕ} → a < word → b < word → c < word → d < word * word → More (0 ∷ 0 ∷ 0 ∷ 0 ∷ 0 ∷ []) u a b c d → Exact u a b c d
exact {u} {a} {b} {c} {d} p q r s f =
    let m = f zeros in let w = m.words.each in record {
      roots_are = held word (get_or u 0 0) a (w 0) p m.roots_are;
      uppers_are = held word (get_or u 1 0) b (w 1) q m.uppers_are;
      lowers_are = held word (get_or u 2 0) c (w 2) r m.lowers_are;
      leaves_are = held (word * word) (words_of (get_or u 3 0) (get_or u 4 0)) d (two word (get_or u 3 0) (get_or u 4 0) (w 3) (w 4)) s m.leaves_are;
    }
