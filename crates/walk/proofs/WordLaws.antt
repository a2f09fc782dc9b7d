-- One count grows: a word of the five is written, or the two of the leaf values with a carry. Assumes nothing.
use Rattle.std.specs.Prelude.{ℕ, zero, suc, ◌+◌, ◌-◌, ◌*◌, ◌%◌, ◌≤◌, ◌<◌, ◌≡◌, List, get_or, set}
use Rattle.std.proofs.Common.{add-zero, zero-mul, zero-add, mod-eq_of_lt, arith, sym, ap, ◌∙◌, subst, length-set, get_or-set_same, get_or-set_other}
use Rattle.std.proofs.Math.Nat.{mod_self, add-mod_left}
use Rattle.sparse_grid.specs.Count.{split_lt}
use Rattle.walk.specs.Counts.{Words, More, word, words_of}

-- v at place i, and the others as they were
module _ (t : List ℕ) (i v : ℕ) where
  other : (j : ℕ) → (j ≡ i → ⊥) → get_or (set t i v) j 0 ≡ get_or t j 0
  other j n = get_or-set_other t i j v 0 n

  module _ (w : Words t) (l : i < 5) where
    at : get_or (set t i v) i 0 ≡ v
    at = get_or-set_same t i v 0 (omega (arith, w.five))

    words_set : v < word → Words (set t i v)
    words_set h = record {
      five = length-set t i v ∙ w.five;
      each = λ j. split_lt j i (λ k. away j (λ e. omega arith)) (λ k. split_lt i j (λ k. away j (λ e. omega arith)) (λ m. here j (omega arith)));
    }
      where
        away : (j : ℕ) → (j ≡ i → ⊥) → get_or (set t i v) j 0 < word
        away j n = subst (λ (k : ℕ). k < word) (sym (other j n)) (w.each j)

        here : (j : ℕ) → j ≡ i → get_or (set t i v) j 0 < word
        here j e = subst (λ (k : ℕ). k < word) (sym (ap (λ (k : ℕ). get_or (set t i v) k 0) e ∙ at)) h

-- n more at a place below the leaf values' words
module _ (t : List ℕ) (i n : ℕ) {r : ℕ} (e : r ≡ (get_or t i 0 + n) % word) where
  words : Words t → i < 5 → Words (set t i r)
  words w l = words_set t i r w l (omega (arith, e))

  grows : Words t → i < 5 → get_or (set t i r) i 0 % word ≡ (get_or t i 0 + n) % word
  grows w l = omega (arith, at t i r w l, e)

  stays : (j : ℕ) → (j ≡ i → ⊥) → get_or (set t i r) j 0 % word ≡ (get_or t j 0 + 0) % word
  stays j d = omega (arith, other t i r j d)

  leaves_stay : i < 3 → words_of (get_or (set t i r) 3 0) (get_or (set t i r) 4 0) % (word * word)
      ≡ (words_of (get_or t 3 0) (get_or t 4 0) + 0) % (word * word)
  leaves_stay l =
      (λ k. words_of (other t i r 3 (λ e. omega arith) k) (other t i r 4 (λ e. omega arith) k) % (word * word))
      ∙ ap (λ (k : ℕ). k % (word * word)) (sym (add-zero (words_of (get_or t 3 0) (get_or t 4 0))))

pub roots_more : (t : List ℕ) (n : ℕ) {r : ℕ} → r ≡ (get_or t 0 0 + n) % word → More t (set t 0 r) n 0 0 0
roots_more t n e w = record {
  words = words t 0 n e w (omega arith);
  roots_are = grows t 0 n e w (omega arith);
  uppers_are = stays t 0 n e 1 (λ e. omega arith);
  lowers_are = stays t 0 n e 2 (λ e. omega arith);
  leaves_are = leaves_stay t 0 n e (omega arith);
}

-- one entry more, by its place
pub entry_more : (t : List ℕ) (place : ℕ) {r : ℕ} → 0 < place → place < 3 → r ≡ (get_or t place 0 + 1) % word
    → More t (set t place r) 0 (2 - place) (place - 1) 0
entry_more t zero h l e w = absurd (omega arith)
entry_more t (suc zero) h l e w = record {
  words = words t 1 1 e w (omega arith);
  roots_are = stays t 1 1 e 0 (λ e. omega arith);
  uppers_are = grows t 1 1 e w (omega arith);
  lowers_are = stays t 1 1 e 2 (λ e. omega arith);
  leaves_are = leaves_stay t 1 1 e (omega arith);
}
entry_more t (suc (suc zero)) h l e w = record {
  words = words t 2 1 e w (omega arith);
  roots_are = stays t 2 1 e 0 (λ e. omega arith);
  uppers_are = stays t 2 1 e 1 (λ e. omega arith);
  lowers_are = grows t 2 1 e w (omega arith);
  leaves_are = leaves_stay t 2 1 e (omega arith);
}
entry_more t (suc (suc (suc n))) h l e w = absurd (omega arith)

-- ---- leaf values: s more in the low word, which is then v

-- the high word begins again too
over : (n h v : ℕ) → h < n → ((h + 1) % n * n + v) % (n * n) ≡ ((h + 1) * n + v) % (n * n)
over n h v l =
    split_lt (h + 1) n (λ k. ap (λ (m : ℕ). (m * n + v) % (n * n)) (mod-eq_of_lt k))
    (λ k. let e : h + 1 ≡ n = omega arith in
    ap (λ (m : ℕ). (m * n + v) % (n * n)) (ap (λ (m : ℕ). m % n) e ∙ mod_self n)
    ∙ ap (λ (m : ℕ). (m + v) % (n * n)) (zero-mul n) ∙ ap (λ (m : ℕ). m % (n * n)) (zero-add v)
    ∙ sym (ap (λ (m : ℕ). (m * n + v) % (n * n)) e ∙ add-mod_left (n * n) v))

module _ (t : List ℕ) (s : ℕ) {v : ℕ} (small : s < word) (e : v ≡ (get_or t 4 0 + s) % word) where
  -- no carry
  pub values_more : s ≤ v → More t (set t 4 v) 0 0 0 s
  values_more l w = record {
    words = words t 4 s e w (omega arith);
    roots_are = stays t 4 s e 0 (λ e. omega arith);
    uppers_are = stays t 4 s e 1 (λ e. omega arith);
    lowers_are = stays t 4 s e 2 (λ e. omega arith);
    leaves_are =
        (λ k. words_of (other t 4 v 3 (λ e. omega arith) k) (at t 4 v w (omega arith) k) % (word * word))
        ∙ ap (λ (k : ℕ). k % (word * word)) (whole (get_or t 3 0) (get_or t 4 0) (w.each 4) e);
  }
    where
      whole : (h low : ℕ) → low < word → v ≡ (low + s) % word → words_of h v ≡ words_of h low + s
      whole h low b e = omega arith

  pub values_carry : v < s → {h : ℕ} → h ≡ (get_or t 3 0 + 1) % word → More t (set (set t 3 h) 4 v) 0 0 0 s
  values_carry l {h} d w =
      let u = set t 3 h in
      let o = words t 3 1 d w (omega arith) in
      let low = other t 3 h 4 (λ e. omega arith) in
      let f : v ≡ (get_or u 4 0 + s) % word = e ∙ ap (λ (k : ℕ). (k + s) % word) (sym low) in record {
        words = words u 4 s f o (omega arith);
        roots_are = stays u 4 s f 0 (λ e. omega arith) ∙ ap (λ (k : ℕ). (k + 0) % word) (other t 3 h 0 (λ e. omega arith));
        uppers_are = stays u 4 s f 1 (λ e. omega arith) ∙ ap (λ (k : ℕ). (k + 0) % word) (other t 3 h 1 (λ e. omega arith));
        lowers_are = stays u 4 s f 2 (λ e. omega arith) ∙ ap (λ (k : ℕ). (k + 0) % word) (other t 3 h 2 (λ e. omega arith));
        leaves_are =
            (λ k. words_of ((other u 4 v 3 (λ e. omega arith) ∙ at t 3 h w (omega arith) ∙ d) k) (at u 4 v o (omega arith) k) % (word * word))
            ∙ over word (get_or t 3 0) v (w.each 3) ∙ ap (λ (k : ℕ). k % (word * word)) (whole (get_or t 3 0) (get_or t 4 0) (w.each 4) e);
      }
    where
      whole : (h low : ℕ) → low < word → v ≡ (low + s) % word → (h + 1) * word + v ≡ words_of h low + s
      whole h low b e = omega arith
