-- The two words of a count of leaf values. Assumes nothing.
use Prim.Native.Nat.{ℕ, ◌+◌, ◌*◌, ◌/◌, ◌%◌, ◌<◌}
use native.Mathlib.Nat.{add-zero, mul_comm, mul-add-div, div-eq_of_lt, mul-add-mod_self_right, mod-eq_of_lt}
use mathlib.Core.Path.{◌≡◌, sym, ap, ◌∙◌}
use mathlib.Core.List.{[], ◌∷◌}
use lib.Dec.{lit<}

-- the two words of a count, taken apart again
pub words_back : (a b c high low : ℕ) → low < 18446744073709551616
    → a ∷ b ∷ c ∷ high ∷ low ∷ []
    ≡ a ∷ b ∷ c ∷ (high * 18446744073709551616 + low) / 18446744073709551616 ∷ (high * 18446744073709551616 + low) % 18446744073709551616 ∷ []
words_back a b c high low l =
    let h : high ≡ (high * 18446744073709551616 + low) / 18446744073709551616 =
    sym (ap (λ (n : ℕ). (n + low) / 18446744073709551616) (mul_comm high 18446744073709551616)
    ∙ mul-add-div (lit< {m = 0} {n = 18446744073709551616} tt) high low
    ∙ ap (λ (n : ℕ). high + n) (div-eq_of_lt l) ∙ add-zero high) in
    let w : low ≡ (high * 18446744073709551616 + low) % 18446744073709551616 =
    sym (mul-add-mod_self_right high 18446744073709551616 low ∙ mod-eq_of_lt l) in
    λ i. a ∷ b ∷ c ∷ h i ∷ w i ∷ []
