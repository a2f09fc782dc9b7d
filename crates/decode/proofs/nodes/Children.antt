-- The next child of a mask: what a word of it says of the slots from `at` on. Assumes nothing.
use mathlib.Core.Path.{◌≡◌, refl, sym, ap, ◌∙◌, subst}
use mathlib.Core.Bool.{Bool, true, false}
use mathlib.Core.List.{List}
use Prim.Native.Nat.{ℕ, ◌+◌, ◌-◌, ◌*◌, ◌/◌, ◌%◌, ◌^◌, ◌≤◌, ◌<◌}
use native.Mathlib.Nat.{zero-div, lt_of_lt_of_le}
use native.Mathlib.Omega.{arith}
use lib.Count.{count_trailing_zeros}
use lib.Dec.{ltb}
use lib.Pow.{shr-shr, shr_lt, pow_mono}
use borrow.Author.Tests.{ltb-true, ltb-false}
use Rattle.layout.specs.Bytes.{Bytes, mask_bit, mask_word}
use Rattle.layout.specs.FieldLaws.{le_below}
use Rattle.layout.proofs.MaskLaws.{mask_word_lem, trailing_clear, trailing_set, trailing_below}
use Rattle.decode.specs.Inner.Stored.{NextChild}

-- no slot from i on has a child, up to `at`
pub record Passed (b : List ℕ) (mask i n at : ℕ) : Type 0 where
  pub from : i ≤ at
  pub to : at ≤ n
  pub clear : (j : ℕ) → i ≤ j → j < at → mask_bit b mask j ≡ 0

module _ {b : List ℕ} (bytes : Bytes b) {mask i n at left : ℕ} (p : Passed b mask i n at) (here : at < n) (whole : n % 64 ≡ 0)
    (is : left ≡ mask_word b mask (at / 64) / 2 ^ (at % 64)) where
  -- the bits of a word that is shifted so that slot `at` is its lowest
  shifted : (m : ℕ) → at % 64 + m < 64 → mask_bit b mask (at + m) ≡ left / 2 ^ m % 2
  shifted m h =
      let word : (at + m) / 64 ≡ at / 64 = omega arith in
      let bit : (at + m) % 64 ≡ at % 64 + m = omega arith in
      mask_word_lem b mask (at + m) bytes
      ∙ ap (λ (k : ℕ). mask_word b mask k / 2 ^ ((at + m) % 64) % 2) word
      ∙ ap (λ (k : ℕ). mask_word b mask (at / 64) / 2 ^ k % 2) bit
      ∙ ap (λ (k : ℕ). k % 2) (sym (shr-shr (mask_word b mask (at / 64)) (at % 64) m) ∙ ap (λ (k : ℕ). k / 2 ^ m) (sym is))

  fits : left < 2 ^ (64 - at % 64)
  fits =
      let e : (64 - at % 64) + at % 64 ≡ 64 = omega arith in
      subst (λ (k : ℕ). k < 2 ^ (64 - at % 64)) (sym is)
      (shr_lt (64 - at % 64) (at % 64)
      (subst (λ (k : ℕ). mask_word b mask (at / 64) < 2 ^ k) (sym e) (le_below 8 b (mask + 8 * (at / 64)) bytes)))

  -- one more run of clear slots: those before `at`, and m from there on
  passed_on : (m : ℕ) → at % 64 + m ≤ 64 → ((k : ℕ) → k < m → left / 2 ^ k % 2 ≡ 0) → (j : ℕ) → i ≤ j → j < at + m → mask_bit b mask j ≡ 0
  passed_on m h zeros j f t = go (ltb j at) refl
    where
      go : (x : Bool) → ltb j at ≡ x → mask_bit b mask j ≡ 0
      go true e = p.clear j f (ltb-true j at e)
      go false e =
          let after : at ≤ j = ltb-false j at e in
          let same : at + (j - at) ≡ j = omega arith in
          ap (mask_bit b mask) (sym same) ∙ shifted (j - at) (omega arith) ∙ zeros (j - at) (omega arith)

  -- a word with no child left goes by
  pub passed_word : left ≡ 0 → Passed b mask i n (at / 64 * 64 + 64)
  passed_word e = record {
    from = omega (arith, p.from);
    to = omega arith;
    clear = λ j f t.
        passed_on (64 - at % 64) (omega arith) (λ k h. ap (λ (w : ℕ). w / 2 ^ k % 2) e ∙ ap (λ (w : ℕ). w % 2) (zero-div (2 ^ k))) j f (omega arith);
  }

  -- the lowest bit that is set is the next child
  pub next_found : (left ≡ 0 → ⊥) → NextChild b mask i n (at + count_trailing_zeros 64 left)
  next_found some =
      let z = count_trailing_zeros 64 left in
      let below : z < 64 - at % 64 = trailing_below 64 (64 - at % 64) left fits some in
      let small : left < 2 ^ 64 = lt_of_lt_of_le fits (pow_mono {i = 64 - at % 64} {j = 64} (omega arith)) in
      record {
        from = omega (arith, p.from);
        to = omega arith;
        clear = passed_on z (omega arith) (λ k h. trailing_clear 64 left k h);
        found = λ t. shifted z (omega arith) ∙ trailing_set 64 left small some;
      }
