-- How code has a signed number: as its bits, which are compared, handed on, raised and biased. Assumes nothing.
use Rattle.std.specs.Prelude.{◌≡◌, ℕ, ◌<◌, ◌≤◌, Bool, true, false, ◌&&◌, T, ℤ, pos, negsuc, ◌+ℤ◌, FitsSigned, ◌==◌, int_le, nat_eq, unsigned_abs, refl}
use Rattle.std.proofs.Common.{sym, ◌∙◌, subst, arith, lt_of_lt_of_le, lt_of_le_of_lt, lit≤, leb→le, eq-eqb, ne_eqb, eqb-true, to_z, of_z}
use Rattle.std.proofs.Math.Path.{ap}
use Rattle.std.specs.Int.Signed.{mag_shr, non_neg, shr_z}
use mir.Syntax.{w32, w64}
use Rattle.std.proofs.lemmas.Int.{to_z-of_z}
use Rattle.layout.specs.Coordinates.{eq_z}
use Rattle.sparse_grid.specs.Validate.{block_in}
use Rattle.sparse_grid.specs.Biased.{back, raised}
use Rattle.sparse_grid.specs.BiasedLaws.{lift, raised_pos, raised_neg}

-- ---- equal bits are equal numbers

pub eq_z_self : (z : ℤ) → eq_z z z ≡ true
eq_z_self (pos n) = eq-eqb n n refl
eq_z_self (negsuc n) = eq-eqb n n refl

pub eq_z_true : (a b : ℤ) → eq_z a b ≡ true → a ≡ b
eq_z_true (pos a) (pos b) e = ap pos (eqb-true a b e)
eq_z_true (pos a) (negsuc b) e = absurd (subst T (sym e) tt)
eq_z_true (negsuc a) (pos b) e = absurd (subst T (sym e) tt)
eq_z_true (negsuc a) (negsuc b) e = ap negsuc (eqb-true a b e)

module _ {a b : ℤ} (f : FitsSigned w32 a) (g : FitsSigned w32 b) where
  same_bits : of_z w32 a ≡ of_z w32 b → a ≡ b
  same_bits e = sym (to_z-of_z w32 a f) ∙ ap (to_z w32) e ∙ to_z-of_z w32 b g

  pub eqb_bits : nat_eq (of_z w32 a) (of_z w32 b) ≡ eq_z a b
  eqb_bits = go (eq_z a b) refl
    where
      go : (t : Bool) → eq_z a b ≡ t → (of_z w32 a == of_z w32 b) ≡ t
      go true e = eq-eqb (of_z w32 a) (of_z w32 b) (ap (of_z w32) (eq_z_true a b e))
      go false e = ne_eqb (of_z w32 a) (of_z w32 b) (λ q. subst T (sym (eq_z_self a) ∙ ap (eq_z a) (same_bits q) ∙ e) tt)

-- a number that fits is what a callee is handed
pub seen : {z : ℤ} → FitsSigned w32 z → to_z w32 (of_z w32 z) ≡ z
seen {z} f = to_z-of_z w32 z f

-- ---- a block in range

pub low : (k : ℕ) → int_le (negsuc 524287) (negsuc k) ≡ true → k ≤ 524287
low k h = leb→le k 524287 (subst T (sym h) tt)

pub high : (k : ℕ) → int_le (pos k) (pos 524287) ≡ true → k ≤ 524287
high k h = leb→le k 524287 (subst T (sym h) tt)

pub both : (a b : Bool) → (a && b) ≡ true → (a ≡ true) × (b ≡ true)
both true b h = (refl, h)
both false b h = absurd (subst T (sym h) tt)

pub raised_below : (z : ℤ) → block_in z ≡ true → raised z < 1048576
raised_below (pos k) h = let l = high k (both true (int_le (pos k) (pos 524287)) h).1 in omega (arith, raised_pos k l)
raised_below (negsuc k) h = let l = low k (both (int_le (negsuc 524287) (negsuc k)) true h).0 in omega (arith, raised_neg k l)

-- ---- a coordinate, shifted and biased

pub shifted : {z : ℤ} → FitsSigned w32 z → to_z w32 (of_z w32 (shr_z (to_z w32 (of_z w32 z)) 4096)) ≡ shr_z z 4096
shifted {z} f =
    ap (λ (k : ℤ). to_z w32 (of_z w32 (shr_z k 4096))) (seen f)
    ∙ to_z-of_z w32 (shr_z z 4096) (record { sfits = lt_of_le_of_lt (mag_shr z 4096) f.sfits })

pub shifted_on : {z r : ℤ} → FitsSigned w32 z → r ≡ shr_z (to_z w32 (of_z w32 z)) 4096 → to_z w32 (of_z w32 r) ≡ shr_z z 4096
shifted_on f e = ap (λ (k : ℤ). to_z w32 (of_z w32 k)) e ∙ shifted f

-- a coordinate plus 2^31, as the code comes by it
abbrev pub biased_bits : ℤ → ℤ
biased_bits z = to_z w64 (of_z w64 (to_z w64 (of_z w64 (to_z w32 (of_z w32 z))) +ℤ pos 2147483648))

module _ (z : ℤ) (f : FitsSigned w32 z) where
  number : (n : ℕ) × (z ≡ back 2147483648 n) × (n < 4294967296) × (z +ℤ pos 2147483648 ≡ pos n)
  number = lift z f.sfits

  pub wide_fits : FitsSigned w64 (to_z w32 (of_z w32 z))
  wide_fits =
      subst (FitsSigned w64) (sym (seen f))
      (record { sfits = lt_of_lt_of_le f.sfits (lit≤ {m = 2147483648} {n = 9223372036854775808} tt) })

  wide_sum : to_z w64 (of_z w64 (to_z w32 (of_z w32 z))) +ℤ pos 2147483648 ≡ pos number.0
  unfolding number
  wide_sum = ap (λ (k : ℤ). k +ℤ pos 2147483648) (to_z-of_z w64 (to_z w32 (of_z w32 z)) wide_fits ∙ seen f) ∙ number.3

  pub sum_fits : FitsSigned w64 (to_z w64 (of_z w64 (to_z w32 (of_z w32 z))) +ℤ pos 2147483648)
  sum_fits =
      subst (FitsSigned w64) (sym wide_sum)
      (record { sfits = lt_of_lt_of_le number.2 (lit≤ {m = 4294967296} {n = 9223372036854775808} tt) })

  wide_result : biased_bits z ≡ pos number.0
  wide_result = to_z-of_z w64 _ sum_fits ∙ wide_sum

  pub not_negative : T (non_neg (biased_bits z))
  not_negative = subst (λ (k : ℤ). T (non_neg k)) (sym wide_result) tt

  pub is_biased : (z ≡ back 2147483648 (unsigned_abs (biased_bits z))) × (unsigned_abs (biased_bits z) < 4294967296)
  is_biased =
      subst (λ (k : ℤ). (z ≡ back 2147483648 (unsigned_abs k)) × (unsigned_abs k < 4294967296)) (sym wide_result) (number.1, number.2)
