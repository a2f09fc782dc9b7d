-- The corners of the cells on one axis: each is a number, the first is low and the last is high, so some cell encloses each point between. Corners
-- need not rise with k, and may leave [low, high]. Assumes nothing.
use Rattle.std.specs.Prelude.{◌≡◌, refl, ℕ, zero, suc, ◌^◌, ◌≤◌, ◌<◌, not, T, Float}
use Rattle.std.proofs.Common.{sym, ap, ◌∙◌, subst, zero-le, le_refl, lt_irrefl}
use Rattle.std.specs.Float.{binary32}
use Rattle.std.specs.Float.Ieee.{le, is_nan}
use Rattle.float.proofs.Ordered.{le_through, number_l, found}
use Rattle.float.proofs.Blend.{blend, part, Held, Same, blend_at, part_01, part_first, part_last, blend_number, blend_first, blend_last}
use Rattle.medium.specs.Medium.{Medium, Axis, on_point}
use Rattle.index.specs.Cells.{corner}
use Rattle.index.specs.Axes.{corner_on}

-- from the axis alone
pub corner_on_lem : (m : Medium) (a : Axis) (n k : ℕ) → corner m a n k ≡ corner_on (on_point a m.low) (on_point a m.high) n k
unfolding corner corner_on
corner_on_lem m a n k = refl

corner_is : (m : Medium) (a : Axis) (n k : ℕ) → 0 < n → n ≤ 2 ^ 24 → k ≤ n
    → corner m a n k ≡ blend binary32 (part binary32 k n) (on_point a m.low) (on_point a m.high)
unfolding corner
corner_is m a n k N h l = blend_at binary32 n k (on_point a m.low) (on_point a m.high) N h l

pub corner_number : (m : Medium) (a : Axis) (n k : ℕ) → 0 < n → n ≤ 2 ^ 24 → k ≤ n → Held binary32 (on_point a m.low)
    → Held binary32 (on_point a m.high) → T (not (is_nan (corner m a n k)))
corner_number m a n k N h l p q =
    subst (λ (x : Float). T (not (is_nan x))) (sym (corner_is m a n k N h l))
    (blend_number binary32 (part binary32 k n) (on_point a m.low) (on_point a m.high) (part_01 binary32 n k N l) p q)

pub corner_first : (m : Medium) (a : Axis) (n : ℕ) → 0 < n → n ≤ 2 ^ 24 → Held binary32 (on_point a m.low) → Held binary32 (on_point a m.high)
    → Same (corner m a n 0) (on_point a m.low)
corner_first m a n N h p q =
    subst (λ (x : Float). Same x (on_point a m.low))
    (sym (corner_is m a n 0 N h zero-le ∙ ap (λ (t : Float). blend binary32 t (on_point a m.low) (on_point a m.high)) (part_first binary32 n N)))
    (blend_first binary32 (on_point a m.low) (on_point a m.high) p q)

pub corner_last : (m : Medium) (a : Axis) (n : ℕ) → 0 < n → n ≤ 2 ^ 24 → Held binary32 (on_point a m.low) → Held binary32 (on_point a m.high)
    → Same (corner m a n n) (on_point a m.high)
corner_last m a n N h p q =
    subst (λ (x : Float). Same x (on_point a m.high))
    (sym (corner_is m a n n N h (le_refl n)
    ∙ ap (λ (t : Float). blend binary32 t (on_point a m.low) (on_point a m.high)) (part_last binary32 n N)))
    (blend_last binary32 (on_point a m.low) (on_point a m.high) p q)

-- some cell of one axis encloses each number between the ends
pub on_axis : (m : Medium) (a : Axis) (n : ℕ) → 0 < n → n ≤ 2 ^ 24 → Held binary32 (on_point a m.low) → Held binary32 (on_point a m.high)
    → (v : Float) → T (le (on_point a m.low) v) → T (le v (on_point a m.high))
    → (k : ℕ) × (k < n) × T (le (corner m a n k) v) × T (le v (corner m a n (suc k)))
on_axis m a zero N h p q v x y = absurd (lt_irrefl 0 N)
on_axis m a (suc n) N h p q v x y =
    found (corner m a (suc n)) v n (number_l v (on_point a m.high) y) (λ k l. corner_number m a (suc n) k N h l p q)
    (le_through (corner m a (suc n) 0) (on_point a m.low) v (corner_first m a (suc n) N h p q).0 x)
    (le_through v (on_point a m.high) (corner m a (suc n) (suc n)) y (corner_last m a (suc n) N h p q).1)
