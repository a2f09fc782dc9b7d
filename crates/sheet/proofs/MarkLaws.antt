-- What a page says of a layer without a fault: its greatest figure is at least each of its figures and is one of them or +0, and the
-- character of a figure above zero is the least k from 1 to 9 that is enough. Assumes nothing.
use Rattle.std.specs.Prelude.{◌≡◌, refl, Bool, true, false, not, cond, ◌⊎◌, List, [], ◌∷◌, ℕ, zero, suc, ◌+◌, ◌*◌, ◌/◌, ◌^◌, ◌≤◌, ◌<◌, pos, T, ltb, length, get_or, Float}
use Rattle.std.proofs.Common.{sym, ap, ◌∙◌, true≢false, inl, inr, le_trans, le_of_eq, not-suc-le-zero, le_of_suc-le-suc, mul-le-mul_right, le_of_mul-le-mul_right, mul_right_comm, mul-one, zero-mul, div-mul-le_self, le-div_iff_mul-le, arith, ltb-false}
use Rattle.std.proofs.Math.Nat.{zero-div}
use Rattle.std.specs.Float.{nan, inf, fin}
use Rattle.std.specs.Float.Ieee.{up, down, lt}
use Rattle.std.specs.Float.Ieee.Fits.{down_pos}
use Rattle.std.specs.Float.Ieee.Scale.{finite}
use Rattle.std.proofs.lemmas.Bool.{not-true}
use Rattle.std.specs.Float.Ieee.Bits.{is_true}
use Rattle.float.specs.Zero.{+0}
use Rattle.float.proofs.Tests.{yes}
use Rattle.float.proofs.Ordered.{not_lt_through, lt_turned, same_not_lt}
use Rattle.float.proofs.Plain.{Plain, top, at, plain_number, above_plain, not_below_zero}
use Rattle.figures.specs.Figures.{figures_fault, greater}
use Rattle.figures.proofs.FigureLaws.{every_at, sound}
use Rattle.sheet.specs.Grades.{units_of, grade}
use Rattle.sheet.proofs.GradeLaws.{Least, grade_least}
use Rattle.sheet.specs.Sheet.{most_of}
use Rattle.sheet.proofs.SheetLaws.{most_finite}

-- ---- the greatest figure

-- the greater of a plain float and any other is plain, and is below neither
record Over (a v r : Float) : Type 0 where
  plain : Plain r
  first : lt r a ≡ false
  second : lt r v ≡ false

over : (a v : Float) → Plain a → Over a v (greater a v)
over a v p = by_test (lt a v) refl
  where
    above : lt a v ≡ true → lt +0 v ≡ true
    above e = go (lt +0 v) refl
      where
        go : (t : Bool) → lt +0 v ≡ t → t ≡ true
        go true z = refl
        go false z = absurd (true≢false (sym e ∙ not_lt_through a +0 v (plain_number (at 0 (pos 0))) (not_below_zero p) z))

    by_test : (t : Bool) → lt a v ≡ t → Over a v (cond t v a)
    by_test true e = record { plain = above_plain v (above e); first = lt_turned a v e; second = same_not_lt v }
    by_test false e = record { plain = p; first = same_not_lt a; second = e }

pub most_plain : (a : Float) (l : List Float) → Plain a → Plain (most_of a l)
unfolding most_of
most_plain a [] p = p
most_plain a (v ∷ l) p = most_plain (greater a v) l (over a v p).plain

most_first : (a : Float) (l : List Float) → Plain a → lt (most_of a l) a ≡ false
unfolding most_of
most_first a [] p = same_not_lt a
most_first a (v ∷ l) p =
    let o = over a v p in
    not_lt_through (most_of (greater a v) l) (greater a v) a (plain_number o.plain) (most_first (greater a v) l o.plain) o.first

-- no figure is above it
pub most_covers : (a : Float) (l : List Float) → Plain a → (i : ℕ) → i < length l → lt (most_of a l) (get_or l i +0) ≡ false
unfolding most_of
most_covers a [] p i h = absurd (not-suc-le-zero h)
most_covers a (v ∷ l) p zero h =
    let o = over a v p in
    not_lt_through (most_of (greater a v) l) (greater a v) v (plain_number o.plain) (most_first (greater a v) l o.plain) o.second
most_covers a (v ∷ l) p (suc i) h = most_covers (greater a v) l (over a v p).plain i (le_of_suc-le-suc h)

-- it is a or one of the figures
pub most_reached : (a : Float) (l : List Float) → (most_of a l ≡ a) ⊎ ((i : ℕ) × (i < length l) × (get_or l i +0 ≡ most_of a l))
unfolding most_of
most_reached a [] = inl refl
most_reached a (v ∷ l) = by_test (lt a v) (most_reached (greater a v) l)
  where
    by_test : (t : Bool) → (most_of (cond t v a) l ≡ cond t v a) ⊎ ((i : ℕ) × (i < length l) × (get_or l i +0 ≡ most_of (cond t v a) l))
        → (most_of (cond t v a) l ≡ a) ⊎ ((i : ℕ) × (i < suc (length l)) × (get_or (v ∷ l) i +0 ≡ most_of (cond t v a) l))
    by_test true (inl e) = inr (0, omega arith, sym e)
    by_test false (inl e) = inl e
    by_test true (inr w) = inr (suc w.0, omega (arith, w.1), w.2)
    by_test false (inr w) = inr (suc w.0, omega (arith, w.1), w.2)

-- ---- units keep the order

-- A / a is at most B / b: so are the whole parts of P times as much
parts : (A a B b P : ℕ) → 0 < a → 0 < b → A * b ≤ B * a → A * P / a ≤ B * P / b
parts A a B b P ha hb h =
    (le-div_iff_mul-le hb).1
    (le_of_mul-le-mul_right
    (le_trans (le_of_eq (mul_right_comm (A * P / a) b a))
    (le_trans (mul-le-mul_right b (div-mul-le_self (A * P) a))
    (le_trans (le_of_eq (mul_right_comm A P b))
    (le_trans (mul-le-mul_right P h) (le_of_eq (mul_right_comm B a P))))))
    ha)

none_below : (m u d : ℕ) → ltb 0 (m * u * 1 + 0 * 1 * d) ≡ false → m * u ≡ 0
none_below m u d e = omega (arith, ltb-false 0 (m * u * 1 + 0 * 1 * d) e, mul-one (m * u), zero-mul d)

pub units_le : (v : Float) {g : Float} → T (finite v) → Plain g → T (finite g) → lt v +0 ≡ false → lt g v ≡ false → units_of v ≤ units_of g
unfolding lt
units_le nan {g = g} p _ q z h = elim p [ ]
units_le (inf _) {g = g} p _ q z h = elim p [ ]
units_le (fin false m e) p top q z h = elim q [ ]
units_le (fin true m e) p top q z h = elim q [ ]
units_le (fin false m e) p (at n d) q z h =
    parts (m * up e) (down e) (n * up d) (down d) (2 ^ 149) (down_pos e) (down_pos d) (ltb-false (n * up d * down e) (m * up e * down d) h)
units_le (fin true m e) p (at n d) q z h =
    let zero_units : units_of (fin true m e) ≡ 0 =
    ap (λ (k : ℕ). k * 2 ^ 149 / down e) (none_below m (up e) (down e) z) ∙ ap (λ (k : ℕ). k / down e) (zero-mul (2 ^ 149)) ∙ zero-div (down e) in
    omega arith

-- ---- the characters

-- in a layer without a fault, each figure's grade is the least from 1 to 9 that is enough
pub layer_grades : (l : List Float) → figures_fault l ≡ 0 → (i : ℕ) → i < length l
    → Least (units_of (get_or l i +0)) (units_of (most_of +0 l)) 1 8 (grade (units_of (get_or l i +0)) (units_of (most_of +0 l)))
layer_grades l e i h =
    let whole = sound l e in
    let real = yes whole.real in
    let v = get_or l i +0 in
    let g = most_of +0 l in
    let above = not-true (lt v +0) (is_true _ (every_at (λ u. not (lt u +0)) l (yes whole.dense) i +0 h)) in
    let plain = most_plain +0 l (at 0 (pos 0)) in
    grade_least (units_of v) (units_of g)
    (units_le v (every_at finite l real i +0 h) plain (most_finite +0 l tt real) above (most_covers +0 l (at 0 (pos 0)) i h))
