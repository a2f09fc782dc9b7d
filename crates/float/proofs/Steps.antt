-- The error of a product, a sum and 1 - t, in units of the format's smallest value. Sizes alone: a sum is at most that of the sizes,
-- whatever the signs. Assumes nothing.
use Rattle.std.specs.Prelude.{◌≡◌, ℕ, ◌+◌, ◌-◌, ◌*◌, ◌^◌, ◌<◌, ◌≤◌, Bool, true, false, not, refl, Float}
use Rattle.std.proofs.Common.{sym, ap, ◌∙◌, subst, zero-le, le_refl, le_trans, lt_of_le_of_lt, mul-one, mul_comm, mul_assoc, mul_left_comm}
use Rattle.std.proofs.Common.{mul_right_comm, mul-le-mul_right, mul-pos, add-mul, zero-mul, arith, lit<, pow_pos}
use Rattle.std.proofs.Math.Nat.{mul-mul-mul_comm}
use Rattle.std.specs.Bool.{beq}
use Rattle.std.proofs.lemmas.Bool.{false≢true}
use Rattle.std.specs.Float.{nan, inf, fin, Format}
use Rattle.std.specs.Float.Ieee.{prec, low, up, down, unlike, round, sum, neg, add, sub, mul}
use Rattle.std.specs.Float.Ieee.Fits.{down_pos}
use Rattle.std.specs.Float.Ieee.Scale.{overflow}
use Rattle.float.proofs.Sums.{sum_alike, sum_above, sum_below, sum_level, order, below, level, above, sub_mul}
use Rattle.float.proofs.Exactly.{unit}
use Rattle.float.proofs.Rounded.{Near, Sized, round_sized}

-- n / d does not overflow where it is rounded
abbrev pub Fine : Format → ℕ → ℕ → Type 0
Fine f n d = n * (2 ^ prec f + 1) + 2 ^ (prec f - 1) * d < overflow f * d * 2 ^ prec f

-- x is finite, and R units in size for an R near n / d
abbrev pub Step : Format → Float → ℕ → ℕ → Type 0
Step f x n d = (R : ℕ) × Sized f x R × Near f R n d

-- a greater n has the greater bound
grows : (f : Format) (n m d : ℕ) → n ≤ m → n * (2 ^ prec f + 1) + 2 ^ (prec f - 1) * d ≤ m * (2 ^ prec f + 1) + 2 ^ (prec f - 1) * d
grows f n m d l = grow (n * (2 ^ prec f + 1)) (m * (2 ^ prec f + 1)) (2 ^ (prec f - 1) * d) (mul-le-mul_right (2 ^ prec f + 1) l)
  where
    grow : (a b c : ℕ) → a ≤ b → a + c ≤ b + c
    grow a b c h = omega arith

less_fine : (f : Format) (n m d : ℕ) → n ≤ m → Fine f m d → Fine f n d
less_fine f n m d l h = lt_of_le_of_lt (grows f n m d l) h

less_near : (f : Format) (R n m d : ℕ) → n ≤ m → Near f R n d → Near f R m d
less_near f R n m d l h = le_trans h (grows f n m d l)

-- ---- a product: X * Y / 2 ^ low units
pub mul_step : (f : Format) (x y : Float) (X Y : ℕ) → Sized f x X → Sized f y Y → Fine f (X * Y) (2 ^ low f)
    → Step f (mul f x y) (X * Y) (2 ^ low f)
unfolding mul
mul_step f (fin s m e) (fin t n d) X Y v w h =
    let L = 2 ^ low f in
    round_sized f (unlike s t) (m * up e * (n * up d)) (down e * down d) (X * Y) L (mul-pos (down_pos e) (down_pos d)) (pow_pos (low f))
    (cross (m * up e) (n * up d) L (down e) (down d) v w) h
  where
    cross : (A B L p q : ℕ) → A * L ≡ X * p → B * L ≡ Y * q → A * B * L * L ≡ X * Y * (p * q)
    cross A B L p q v w = pair A B L ∙ ap (λ (x : ℕ). x * (B * L)) v ∙ ap (λ (x : ℕ). X * p * x) w ∙ mul-mul-mul_comm X p Y q
      where
        pair : (A B L : ℕ) → A * B * L * L ≡ A * L * (B * L)
        pair A B L = simp (mul_assoc, mul_left_comm)
mul_step f (fin s m e) nan X Y v w h = absurd w
mul_step f (fin s m e) (inf t) X Y v w h = absurd w
mul_step f nan y X Y v w h = absurd v
mul_step f (inf s) y X Y v w h = absurd v

-- ---- `sum` of A / c and B / c, which are X and Y units
module _ (f : Format) (A B c X Y : ℕ) (C : 0 < c) (v : A * 2 ^ low f ≡ X * c) (w : B * 2 ^ low f ≡ Y * c) where
  plus : (A + B) * 2 ^ low f * 1 ≡ (X + Y) * c
  plus =
      mul-one ((A + B) * 2 ^ low f) ∙ add-mul A B (2 ^ low f)
      ∙ ap (λ (x : ℕ). x + B * 2 ^ low f) v ∙ ap (λ (x : ℕ). X * c + x) w ∙ sym (add-mul X Y c)

  less : (A - B) * 2 ^ low f * 1 ≡ (X - Y) * c
  less =
      mul-one ((A - B) * 2 ^ low f) ∙ sym (sub_mul A B (2 ^ low f))
      ∙ ap (λ (x : ℕ). x - B * 2 ^ low f) v ∙ ap (λ (x : ℕ). X * c - x) w ∙ sub_mul X Y c

  turned : (B - A) * 2 ^ low f * 1 ≡ (Y - X) * c
  turned =
      mul-one ((B - A) * 2 ^ low f) ∙ sym (sub_mul B A (2 ^ low f))
      ∙ ap (λ (x : ℕ). x - A * 2 ^ low f) w ∙ ap (λ (x : ℕ). Y * c - x) v ∙ sub_mul Y X c

  -- a bound N for whatever is rounded
  at : (s : Bool) (x : Float) (a n N : ℕ) → x ≡ round f s a c → a * 2 ^ low f * 1 ≡ n * c → n ≤ N → Fine f N 1 → Step f x N 1
  at s x a n N e k l h =
      let (R, z, r) = round_sized f s a c n 1 C (lit< tt) k (less_fine f n N 1 l h) in
      (R, subst (λ (y : Float). Sized f y R) (sym e) z, less_near f R n N 1 l r)

  sum_step : (s t : Bool) (N : ℕ) → (beq s t ≡ true → X + Y ≤ N) → X - Y ≤ N → Y - X ≤ N → Fine f N 1
      → Step f (sum f s A t B c) N 1
  sum_step s t N p q r h = go (beq s t) refl
    where
      none : (c L : ℕ) → 0 * L * 1 ≡ 0 * c
      none c L = mul-one (0 * L) ∙ zero-mul L ∙ sym (zero-mul c)

      go : (b : Bool) → beq s t ≡ b → Step f (sum f s A t B c) N 1
      go true e = at s (sum f s A t B c) (A + B) (X + Y) N (sum_alike f s t A B c e) plus (p e) h
      go false e = elim (order A B) [
        | below l ↦ at t (sum f s A t B c) (B - A) (Y - X) N (sum_below f s t A B c e l) turned r h
        | level l ↦ at false (sum f s A t B c) 0 0 N (sum_level f s t A B c e l) (none c (2 ^ low f)) zero-le h
        | above l ↦ at s (sum f s A t B c) (A - B) (X - Y) N (sum_above f s t A B c e l) less q h
      ]

-- x and y over one denominator
over_both : (X A L d e : ℕ) → A * L ≡ X * e → A * d * L ≡ X * (e * d)
over_both X A L d e v = mul_right_comm A d L ∙ ap (λ (x : ℕ). x * d) v ∙ mul_assoc X e d

over_turned : (X A L d e : ℕ) → A * L ≡ X * e → A * d * L ≡ X * (d * e)
over_turned X A L d e v = over_both X A L d e v ∙ ap (λ (x : ℕ). X * x) (mul_comm e d)

-- ---- a sum: at most X + Y units
pub add_step : (f : Format) (x y : Float) (X Y : ℕ) → Sized f x X → Sized f y Y → Fine f (X + Y) 1
    → Step f (add f x y) (X + Y) 1
unfolding add
add_step f (fin s m e) (fin t n d) X Y v w h =
    sum_step f (m * up e * down d) (n * up d * down e) (down e * down d) X Y (mul-pos (down_pos e) (down_pos d))
    (over_both X (m * up e) (2 ^ low f) (down d) (down e) v) (over_turned Y (n * up d) (2 ^ low f) (down e) (down d) w)
    s t (X + Y) (λ b. le_refl (X + Y)) (one X Y) (other X Y) h
  where
    one : (X Y : ℕ) → X - Y ≤ X + Y
    one X Y = omega arith

    other : (X Y : ℕ) → Y - X ≤ X + Y
    other X Y = omega arith
add_step f (fin s m e) nan X Y v w h = absurd w
add_step f (fin s m e) (inf t) X Y v w h = absurd w
add_step f nan y X Y v w h = absurd v
add_step f (inf s) y X Y v w h = absurd v

-- no minus sign, or a zero
abbrev pub Low : Float → ℕ → Type 0
Low nan T' = ⊥
Low (inf s) T' = ⊥
Low (fin s m e) T' = s ≡ true → T' ≡ 0

-- ---- 1 - t, for a t of T' units from 0 to 1: at most 2 ^ low - T' units
pub rest_step : (f : Format) (t : Float) (T' : ℕ) → Sized f t T' → Low t T' → T' ≤ 2 ^ low f → Fine f (2 ^ low f - T') 1
    → Step f (sub f unit t) (2 ^ low f - T') 1
unfolding sub add neg
rest_step f (fin s m e) T' v l k h =
    let L = 2 ^ low f in
    sum_step f (1 * 1 * down e) (m * up e * 1) (1 * down e) L T' (mul-pos (lit< tt) (down_pos e)) (first (down e) L)
    (over_turned T' (m * up e) L 1 (down e) v)
    false (not s) (L - T') (λ b. signs s b l L) (le_refl (L - T')) (past L T' k) h
  where
    first : (d L : ℕ) → 1 * 1 * d * L ≡ L * (1 * d)
    first d L = mul_comm (1 * 1 * d) L

    past : (L T' : ℕ) → T' ≤ L → T' - L ≤ L - T'
    past L T' k = omega arith

    exact : (L T' : ℕ) → T' ≡ 0 → L + T' ≤ L - T'
    exact L T' k = omega arith

    signs : (s : Bool) → beq false (not s) ≡ true → (s ≡ true → T' ≡ 0) → (L : ℕ) → L + T' ≤ L - T'
    signs true b l L = exact L T' (l refl)
    signs false b l L = absurd (false≢true b)
rest_step f nan T' v l k h = absurd v
rest_step f (inf s) T' v l k h = absurd v
