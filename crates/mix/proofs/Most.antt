-- The numbers of one step (1 - t) * a + t * b in binary32, in units of its smallest value: 1 is L units, an infinity begins at O units,
-- and a and b are at most M. L and O are variables here, since `omega` stops at numbers of more than 38 digits. Assumes nothing.
use Rattle.std.specs.Prelude.{ℕ, ◌+◌, ◌-◌, ◌*◌, ◌/◌, ◌^◌, ◌≤◌, ◌<◌}
use Rattle.std.proofs.Common.{sym, ap, ◌∙◌, le_trans, le_of_eq, mul_comm, mul_right_comm, mul-le-mul_right, mul-le-mul_left, le_of_mul-le-mul_right, lt_of_lt_of_le, add_comm, add-mul, arith, lit<}

-- M * (1 + 2 ^ -22) + 3
abbrev pub more : ℕ → ℕ
more M = M + M / 4194304 + 3

abbrev pub Near24 : ℕ → ℕ → ℕ → Type 0
Near24 R n d = R * d * 16777216 ≤ n * 16777217 + 8388608 * d

abbrev pub Fine24 : ℕ → ℕ → ℕ → Type 0
Fine24 O n d = n * 16777217 + 8388608 * d < O * d * 16777216

product_fine : (L ML OL p q : ℕ) → 0 < L → ML * 4 ≤ OL * 3 → 8 * L ≤ OL → (p + q) * 16 ≤ ML * 17
    → p * 16777217 + 8388608 * L < OL * 16777216
product_fine L ML OL p q l m e h = omega arith

coarse : (a b : ℕ) → b * 281474976710656 ≤ a * 281474993487873 → b * 16 ≤ a * 17
coarse a b h = omega arith

-- two products with their errors, over 2 ^ 48
sum_number : (L ML p q UL WL : ℕ) → UL * 16777216 ≤ p * 16777217 + 8388608 * L → WL * 16777216 ≤ q * 16777217 + 8388608 * L
    → (p + q) * 281474976710656 ≤ ML * 281474993487873 → (UL + WL) * 281474976710656 ≤ ML * 281475010265092 + 281474976710656 * L
sum_number L ML p q UL WL u v h = omega arith

total_fine : (O M W : ℕ) → 1024 ≤ O → M * 4 ≤ O * 3 → W * 67108864 ≤ M * 67108873 + 67108864 → Fine24 O W 1
total_fine O M W o m h = omega arith

last : (W M R : ℕ) → W * 67108864 ≤ M * 67108873 + 67108864 → Near24 R W 1 → R ≤ more M
last W M R h k = omega arith

module _ (L O : ℕ) (long : 2 ^ 49 ≤ L) (far : L * 2 ≤ O) where
  pub rest_fine : (t : ℕ) → Fine24 O (L - t) 1
  rest_fine t = omega arith

  -- 1 - t with its error, and t: at most 1 + 2 ^ -24 + 2 ^ -48
  both_most : (S t : ℕ) → t ≤ L → Near24 S (L - t) 1 → (S + t) * 281474976710656 ≤ L * 281474993487873
  both_most S t k h = omega arith

  module _ (A B M S t : ℕ) (a : A ≤ M) (b : B ≤ M) (k : t ≤ L) (r : Near24 S (L - t) 1) where
    -- S * A + t * B is at most M * L * (1 + 2 ^ -24 + 2 ^ -48)
    products : (S * A + t * B) * 281474976710656 ≤ M * L * 281474993487873
    products =
        let x : S * A + t * B ≤ (S + t) * M =
        le_trans (sum (mul-le-mul_left S a) (mul-le-mul_left t b)) (le_of_eq (sym (add-mul S t M))) in
        le_trans (mul-le-mul_right 281474976710656 x)
        (le_trans (le_of_eq (mul_right_comm (S + t) M 281474976710656))
        (le_trans (mul-le-mul_right M (both_most S t k r))
        (le_of_eq (mul_right_comm L 281474993487873 M ∙ ap (λ (x : ℕ). x * 281474993487873) (mul_comm L M)))))
      where
        sum : {p q x y : ℕ} → p ≤ x → q ≤ y → p + q ≤ x + y
        sum h k = omega arith

    module _ (m : M * 4 ≤ O * 3) where
      scaled : M * L * 4 ≤ O * L * 3
      scaled = le_trans (le_of_eq (mul_right_comm M L 4)) (le_trans (mul-le-mul_right L m) (le_of_eq (mul_right_comm O 3 L)))

      eight : 8 * L ≤ O * L
      eight = mul-le-mul_right L (omega arith)

      pub first_fine : Fine24 O (S * A) L
      first_fine =
          product_fine L (M * L) (O * L) (S * A) (t * B) (omega arith) scaled eight (coarse (M * L) (S * A + t * B) products)

      pub second_fine : Fine24 O (t * B) L
      second_fine =
          product_fine L (M * L) (O * L) (t * B) (S * A) (omega arith) scaled eight
          (le_trans (mul-le-mul_right 16 (le_of_eq (add_comm (t * B) (S * A)))) (coarse (M * L) (S * A + t * B) products))

    -- U and W are the two products with their errors
    module _ (U W : ℕ) (u : Near24 U (S * A) L) (v : Near24 W (t * B) L) where
      over_all : (U + W) * 281474976710656 ≤ M * 281475010265092 + 281474976710656
      over_all =
          le_of_mul-le-mul_right
          (le_trans (le_of_eq (mul_right_comm (U + W) 281474976710656 L ∙ ap (λ (x : ℕ). x * 281474976710656) (add-mul U W L)))
          (le_trans (sum_number L (M * L) (S * A) (t * B) (U * L) (W * L) u v products)
          (le_of_eq (ap (λ (x : ℕ). x + 281474976710656 * L) (mul_right_comm M L 281475010265092)
          ∙ sym (add-mul (M * 281475010265092) 281474976710656 L)))))
          (lt_of_lt_of_le (lit< tt) long)

      sum_most : (U + W) * 67108864 ≤ M * 67108873 + 67108864
      sum_most = short (U + W) M over_all
        where
          short : (W M : ℕ) → W * 281474976710656 ≤ M * 281475010265092 + 281474976710656
              → W * 67108864 ≤ M * 67108873 + 67108864
          short W M h = omega arith

      pub sum_fine : M * 4 ≤ O * 3 → Fine24 O (U + W) 1
      sum_fine m = total_fine O M (U + W) (omega arith) m sum_most

      -- one step: M * (1 + 2 ^ -22) + 3
      pub step_most : (R : ℕ) → Near24 R (U + W) 1 → R ≤ more M
      step_most R h = last (U + W) M R sum_most h
