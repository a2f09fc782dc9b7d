-- A field that lies in the first k bytes of a list is that of these bytes.
use Rattle.std.proofs.Common.{◌≡◌, ℕ, zero, suc, ◌+◌, ◌%◌, ◌≤◌, List, take, refl, ap, ◌∙◌, arith, get_or-take, Option, None, Some, IfSome}
use Rattle.std.specs.Float.Ieee.{of_bits}
use Rattle.std.specs.Float.{binary32}
use Rattle.layout.specs.Bytes.{le, signed, u32_at, i32_at, f32_at}
use Rattle.replay.specs.Words.{byte_word}

pub le_front : (n k : ℕ) (all : List ℕ) (at : ℕ) → at + n ≤ k → le n (take k all) at ≡ le n all at
unfolding le
le_front zero k all at fits = refl
le_front (suc n) k all at fits =
    let first = get_or-take k all at 0 (omega (arith, fits)) in
    let later = le_front n k all (at + 1) (omega (arith, fits)) in
    rw (first, later) refl

-- so is what is made of a word
module _ (k : ℕ) (all : List ℕ) (at : ℕ) (fits : at + 4 ≤ k) where
  pub word_front : u32_at (take k all) at ≡ u32_at all at
  word_front = le_front 4 k all at fits

  pub byte_front : byte_word (take k all) at ≡ byte_word all at
  byte_front = ap (λ w. w % 256) word_front

  pub number_front : i32_at (take k all) at ≡ i32_at all at
  number_front = ap (signed 32) word_front

  pub float_front : f32_at (take k all) at ≡ f32_at all at
  float_front = ap (of_bits binary32) word_front

-- the same where the list may be known: what is read from its front is the list's
pub read_front : {A : Type 0} (word : List ℕ → ℕ → A) (front : (k : ℕ) (all : List ℕ) (at : ℕ) → at + 4 ≤ k → word (take k all) at ≡ word all at)
    (known : Option (List ℕ)) (k at : ℕ) (read : List ℕ) (x : A) → at + 4 ≤ k
    → IfSome known (λ all. read ≡ take k all) → x ≡ word read at → IfSome known (λ all. x ≡ word all at)
read_front word front None k at read x fits same is = tt
read_front word front (Some all) k at read x fits same is = is ∙ ap (λ bytes. word bytes at) same ∙ front k all at fits
