-- A mask read eight bytes at a time: bit i mod 64 of word i / 64 is bit i of the mask, however many words it has. Assumes nothing.
use Rattle.std.specs.Prelude.{◌≡◌, refl, Bool, true, false, List, ℕ, zero, suc, ◌+◌, ◌-◌, ◌*◌, ◌^◌, ◌%◌, ◌/◌, ◌<◌, ◌≤◌, ltb, get_or}
use Rattle.std.proofs.Common.{sym, ap, ◌∙◌, mul_assoc, arith, pow-add, pow_pos, shr-shr, ltb-true, ltb-false}
use Rattle.std.proofs.Math.Nat.{pow-succ', two-pow-succ, add-mul-div_left, add-mul-mod_self_left, div-div-eq-div-mul}
use Rattle.std.specs.Int.Count.{count_trailing_zeros, under}
use Rattle.layout.specs.Bytes.{Bytes, le, mask_bit, mask_word}

-- ---- bits of numbers

-- what stands j + k + 1 places up does not reach bit j
low_bit : (j k x r : ℕ) → (x + 2 ^ (j + suc k) * r) / 2 ^ j % 2 ≡ x / 2 ^ j % 2
low_bit j k x r =
    ap (λ (n : ℕ). (x + n) / 2 ^ j % 2) up
    ∙ ap (λ (n : ℕ). n % 2) (add-mul-div_left x (2 * (2 ^ k * r)) (pow_pos j))
    ∙ add-mul-mod_self_left (x / 2 ^ j) 2 (2 ^ k * r)
  where
    up : 2 ^ (j + suc k) * r ≡ 2 ^ j * (2 * (2 ^ k * r))
    up = rw (pow-add 2 j (suc k), pow-succ' 2 k, mul_assoc (2 ^ j) (2 * 2 ^ k) r, mul_assoc 2 (2 ^ k) r)

-- and bit 8 + j of a byte x with r above it is bit j of r
high_bit : (j x r : ℕ) → x < 256 → (x + 256 * r) / 2 ^ (8 + j) ≡ r / 2 ^ j
high_bit j x r h = sym (shr-shr (x + 256 * r) 8 j) ∙ ap (λ (n : ℕ). n / 2 ^ j) (let e : (x + 256 * r) / 256 ≡ r = omega arith in e)

-- ---- bits of bytes

same_bit : (b : List ℕ) (at at' j j' : ℕ) → at + j / 8 ≡ at' + j' / 8 → j % 8 ≡ j' % 8 → mask_bit b at j ≡ mask_bit b at' j'
same_bit b at at' j j' e f = rw (e, f)

-- bit j of n bytes
pub le_bit : (n : ℕ) (b : List ℕ) (at j : ℕ) → Bytes b → j < 8 * n → le n b at / 2 ^ j % 2 ≡ mask_bit b at j
unfolding le
le_bit zero b at j bytes h = absurd (omega arith)
le_bit (suc n) b at j bytes h =
    go (ltb j 8) refl (λ s. le_bit n b (at + 1) (j - 8) bytes (omega arith))
  where
    x : ℕ
    x = get_or b at 0

    r : ℕ
    r = le n b (at + 1)

    here : j < 8 → (x + 256 * r) / 2 ^ j % 2 ≡ mask_bit b at j
    here s =
        let e : j + suc (7 - j) ≡ 8 = omega arith in
        ap (λ (k : ℕ). (x + 2 ^ k * r) / 2 ^ j % 2) (sym e) ∙ low_bit j (7 - j) x r
        ∙ (let f : at + j / 8 ≡ at = omega arith in let g : j % 8 ≡ j = omega arith in rw (f, g))

    above : 8 ≤ j → le n b (at + 1) / 2 ^ (j - 8) % 2 ≡ mask_bit b (at + 1) (j - 8) → (x + 256 * r) / 2 ^ j % 2 ≡ mask_bit b at j
    above s rest =
        let e : 8 + (j - 8) ≡ j = omega arith in
        ap (λ (k : ℕ). (x + 256 * r) / 2 ^ k % 2) (sym e)
        ∙ ap (λ (w : ℕ). w % 2) (high_bit (j - 8) x r (bytes at))
        ∙ rest
        ∙ same_bit b (at + 1) at (j - 8) j (omega arith) (omega arith)

    go : (t : Bool) → ltb j 8 ≡ t → (8 ≤ j → le n b (at + 1) / 2 ^ (j - 8) % 2 ≡ mask_bit b (at + 1) (j - 8))
        → (x + 256 * r) / 2 ^ j % 2 ≡ mask_bit b at j
    go true e rest = here (ltb-true j 8 e)
    go false e rest = above (ltb-false j 8 e) (rest (ltb-false j 8 e))

-- for every mask: i / 64 is the word, and i mod 64 the bit
pub mask_word_lem : (b : List ℕ) (at i : ℕ) → Bytes b → mask_bit b at i ≡ mask_word b at (i / 64) / 2 ^ (i % 64) % 2
mask_word_lem b at i bytes =
    sym (le_bit 8 b (at + 8 * (i / 64)) (i % 64) bytes (omega arith) ∙ same_bit b (at + 8 * (i / 64)) at (i % 64) i (omega arith) (omega arith))

-- ---- the lowest bit that is set: a count of trailing zeros

half_bit : (w m : ℕ) → w / 2 ^ suc m ≡ w / 2 / 2 ^ m
half_bit w m = ap (λ (n : ℕ). w / n) (pow-succ' 2 m) ∙ sym (div-div-eq-div-mul w 2 (2 ^ m))

-- the bits below it are clear
pub trailing_clear : (k w m : ℕ) → m < count_trailing_zeros k w → w / 2 ^ m % 2 ≡ 0
unfolding count_trailing_zeros
trailing_clear zero w m h = absurd (omega arith)
trailing_clear (suc k) w m h = go (w % 2) refl (trailing_clear k (w / 2)) m h
  where
    go : (d : ℕ) → w % 2 ≡ d → ((m : ℕ) → m < count_trailing_zeros k (w / 2) → w / 2 / 2 ^ m % 2 ≡ 0) → (m : ℕ) → m < under d (count_trailing_zeros k (w / 2))
        → w / 2 ^ m % 2 ≡ 0
    go zero e rest zero h = omega arith
    go zero e rest (suc m) h = ap (λ (n : ℕ). n % 2) (half_bit w m) ∙ rest m (omega arith)
    go (suc d) e rest m h = absurd (omega arith)

pub trailing_set : (k w : ℕ) → w < 2 ^ k → (w ≡ 0 → ⊥) → w / 2 ^ count_trailing_zeros k w % 2 ≡ 1
unfolding count_trailing_zeros
trailing_set zero w h n = absurd (n (omega arith))
trailing_set (suc k) w h n = go (w % 2) refl (trailing_set k (w / 2) (omega (arith, two-pow-succ k)))
  where
    go : (d : ℕ) → w % 2 ≡ d → ((w / 2 ≡ 0 → ⊥) → w / 2 / 2 ^ count_trailing_zeros k (w / 2) % 2 ≡ 1) → w / 2 ^ under d (count_trailing_zeros k (w / 2)) % 2 ≡ 1
    go zero e rest = ap (λ (m : ℕ). m % 2) (half_bit w (count_trailing_zeros k (w / 2))) ∙ rest (λ z. n (omega arith))
    go (suc d) e rest = omega arith

-- and it stands below every bound of the number's length
pub trailing_below : (k j w : ℕ) → w < 2 ^ j → (w ≡ 0 → ⊥) → count_trailing_zeros k w < j
unfolding count_trailing_zeros
trailing_below k zero w h n = absurd (n (omega arith))
trailing_below zero (suc j) w h n = omega arith
trailing_below (suc k) (suc j) w h n = go (w % 2) refl (trailing_below k j (w / 2) (omega (arith, two-pow-succ j)))
  where
    go : (d : ℕ) → w % 2 ≡ d → ((w / 2 ≡ 0 → ⊥) → count_trailing_zeros k (w / 2) < j) → under d (count_trailing_zeros k (w / 2)) < suc j
    go zero e rest = let t = rest (λ z. n (omega arith)) in omega arith
    go (suc d) e rest = omega arith
