-- A finite f32 is a whole number of 2^-149: its digits times a power of two. Assumes nothing.
use Rattle.std.specs.Prelude.{◌≡◌, refl, Bool, true, false, not, cond, ℕ, zero, suc, ◌+◌, ◌-◌, ◌*◌, ◌/◌, ◌%◌, ◌^◌, ◌<◌, ◌≤◌, T, leb, eqb, Float}
use Rattle.std.proofs.Common.{sym, ap, ◌∙◌, subst, true≢false, inl, inr, lt_irrefl, mod-lt, mul-div_cancel, arith, eqb→eq, lit<}
use Rattle.std.proofs.Math.Dec.{eqb-suc-zero, not_T}
use Rattle.std.specs.Float.{nan, inf, fin, Format, binary32}
use Rattle.std.specs.Float.Ieee.{prec, low, down, hid, ones, top, odd, of_fields, of_bits, to_bits, fits}
use Rattle.std.specs.Float.Ieee.Fits.{down_pos}
use Rattle.std.specs.Float.Ieee.Bits.{cond_no, of_bits-to_bits}
use Rattle.std.specs.Float.Ieee.Exact.{HasValue, odd_sign}
use Rattle.std.specs.Float.Ieee.Scale.{finite}
use Rattle.float.specs.Fields.{field_of, digits_of, place_of}
use Rattle.float.proofs.Tests.{decide}
use Rattle.sheet.specs.Grades.{units_of}

-- ---- a pattern and its value

neq : (a b : ℕ) → a < b → T (not (eqb a b))
neq a b h = not_T (eqb a b) (λ t. lt_irrefl b (subst (λ (x : ℕ). x < b) (eqb→eq a b t) h))

fields_value : (f : Format) (s : Bool) (x t : ℕ) → x < ones f → HasValue (of_fields f s x t) s (cond (eqb x 0) t (hid f + t) * 2 ^ (x - 1)) (2 ^ low f)
unfolding of_fields
fields_value f s zero t h = odd_sign (prec f) s t 0 (low f)
fields_value f s (suc x) t h =
    let low_part = cond (eqb t 0) (inf s) nan in
    let value = odd (prec f) s (hid f + t) x (low f) in
    let here = cond (eqb (suc x) (ones f)) low_part value in
    let one : suc x - 1 ≡ x = omega arith in
    subst (λ (b : Bool). HasValue here s (cond b t (hid f + t) * 2 ^ (suc x - 1)) (2 ^ low f)) (sym (eqb-suc-zero x))
    (subst (λ (y : ℕ). HasValue here s ((hid f + t) * 2 ^ y) (2 ^ low f)) (sym one)
    (subst (λ (v : Float). HasValue v s ((hid f + t) * 2 ^ x) (2 ^ low f)) (sym (cond_no (eqb (suc x) (ones f)) low_part value (neq (suc x) (ones f) h)))
    (odd_sign (prec f) s (hid f + t) x (low f))))

bits_value : (b : ℕ) → field_of binary32 b < 255
    → HasValue (of_bits binary32 b) (leb (top binary32) b) (digits_of binary32 b * 2 ^ place_of binary32 b) (2 ^ 149)
unfolding of_bits
bits_value b h = fields_value binary32 (leb (top binary32) b) (field_of binary32 b) (b % hid binary32) h

-- the highest field is an infinity's or a NaN's
top_value : (b : ℕ) → field_of binary32 b ≡ 255 → finite (of_bits binary32 b) ≡ false
unfolding of_bits of_fields
top_value b e =
    ap (λ (x : ℕ). finite (of_fields binary32 (leb (top binary32) b) x (b % hid binary32))) e ∙ go (eqb (b % hid binary32) 0)
  where
    go : (t : Bool) → finite (cond t (inf (leb (top binary32) b)) nan) ≡ false
    go true = refl
    go false = refl

-- ---- units

units_at : (v : Float) (s : Bool) (a : ℕ) → HasValue v s a (2 ^ 149) → units_of v ≡ a
units_at nan s a h = absurd h
units_at (inf t) s a h = absurd h
units_at (fin t m e) s a h = ap (λ (n : ℕ). n / down e) h.1 ∙ mul-div_cancel a (down_pos e)

pub digits_lt : (b : ℕ) → digits_of binary32 b < 2 ^ 24
digits_lt b = go (eqb (field_of binary32 b) 0) (b % 8388608) (mod-lt b (lit< tt))
  where
    go : (t : Bool) (x : ℕ) → x < 8388608 → cond t x (8388608 + x) < 16777216
    go true x h = omega arith
    go false x h = omega arith

-- the digits of a finite f32, at their place, are its units
pub units_bits : (v : Float) → T (fits binary32 v) → finite v ≡ true
    → digits_of binary32 (to_bits binary32 v) * 2 ^ place_of binary32 (to_bits binary32 v) ≡ units_of v
units_bits v fit e =
    let b = to_bits binary32 v in
    let back = of_bits-to_bits binary32 v fit in
    let units = digits_of binary32 b * 2 ^ place_of binary32 b in
    elim (decide (field_of binary32 b) 255) [
      | inl l ↦ sym (units_at v (leb (top binary32) b) _ (subst (λ (x : Float). HasValue x (leb (top binary32) b) units (2 ^ 149)) back (bits_value b l)))
      | inr l ↦ absurd (true≢false (sym e ∙ ap finite (sym back) ∙ top_value b (only b l)))
    ]
  where
    only : (b : ℕ) → 255 ≤ field_of binary32 b → field_of binary32 b ≡ 255
    only b h = omega arith
