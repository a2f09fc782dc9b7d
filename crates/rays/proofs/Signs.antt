-- Cells and steps as code has them: signed numbers of 32 bits, tested, cast and added. Assumes nothing.
use Rattle.std.proofs.Common.{◌≡◌, ℕ, zero, suc, ◌+◌, ◌-◌, ◌^◌, ◌<◌, ◌≤◌, Bool, true, false, cond, T, eqb, ltb, ℤ, pos, negsuc, ◌+ℤ◌, nat_abs, sym, refl, ap, ◌∙◌, subst, true≢false, lt_of_lt_of_le, arith, w32, Fits, SFits, to_z, of_z, ltb-true, le-ltb, ne_eqb, eqb-true}
use mathlib.Core.Bool.{false≢true}
use lib.IntN.{sub_ℕ}
use lib.Signed.{non_neg, lt_z}
use mir.Syntax.{Width}
use mir.Val.{bits}
use mir.ValLaws.{to_z-of_z}
use Rattle.layout.specs.Coordinates.{eq_z}
use Rattle.rays.specs.Ray.{inside, is_step, limit}

-- a number that fits is what a local holds of it
pub seen : {z : ℤ} → SFits w32 z → to_z w32 (of_z w32 z) ≡ z
seen {z} f = to_z-of_z w32 z f

-- ---- the sign

pub not_inside : (z : ℤ) (n : ℕ) → lt_z z (pos 0) ≡ true → false ≡ inside z n
not_inside (pos c) n h = absurd (omega (arith, ltb-true c 0 h))
not_inside (negsuc c) n h = refl

pub not_below : (z : ℤ) → lt_z z (pos 0) ≡ false → T (non_neg z)
not_below (pos c) h = tt
not_below (negsuc c) h = true≢false h

pub inside_sign : (z : ℤ) (n : ℕ) → inside z n ≡ true → T (non_neg z)
inside_sign (pos c) n h = tt
inside_sign (negsuc c) n h = false≢true h

pub inside_is : (z : ℤ) (n : ℕ) → T (non_neg z) → ltb (nat_abs z) n ≡ inside z n
inside_is (pos c) n h = refl
inside_is (negsuc c) n h = absurd h

-- a number that is not negative is cast to an unsigned one of 32 bits or more
pub unsigned : (w : Width) {z : ℤ} → 2 ^ 31 ≤ 2 ^ bits w → SFits w32 z → T (non_neg z)
    → T (non_neg (to_z w32 (of_z w32 z))) × Fits w (nat_abs (to_z w32 (of_z w32 z)))
unsigned w {z} b f h = subst (λ (k : ℤ). T (non_neg k) × Fits w (nat_abs k)) (sym (seen f)) (h, record { fits = lt_of_lt_of_le (small z f.sfits h) b })
  where
    small : (z : ℤ) → lib.Signed.mag z < 2 ^ 31 → T (non_neg z) → nat_abs z < 2 ^ 31
    small (pos c) l h = l
    small (negsuc c) l h = absurd h

-- ---- the step

pub step_forth : (s : ℤ) → SFits w32 s → of_z w32 s ≡ 1 → s ≡ pos 1
step_forth (pos n) f e = ap pos e
step_forth (negsuc n) f e = absurd (omega (arith, f.sfits))

pub step_other : (s : ℤ) → SFits w32 s → (of_z w32 s ≡ 1 → ⊥) → eqb (of_z w32 s) 4294967295 ≡ is_step s
step_other (pos n) f e = ne_eqb n 4294967295 (λ q. far n f.sfits q) ∙ sym (ne_eqb n 1 e)
  where
    far : (n : ℕ) → n < 2147483648 → n ≡ 4294967295 → ⊥
    far n l q = omega arith
step_other (negsuc zero) f e = refl
step_other (negsuc (suc k)) f e = ne_eqb (4294967296 - suc (suc k)) 4294967295 (λ q. apart k q) ∙ sym (ne_eqb (suc k) 0 (λ q. none k q))
  where
    apart : (k : ℕ) → 4294967296 - suc (suc k) ≡ 4294967295 → ⊥
    apart k q = omega arith

    none : (k : ℕ) → suc k ≡ 0 → ⊥
    none k q = omega arith

-- ---- a sound track

-- a step along a sound track stays within 32 bits
pub moved_fits : (c s : ℤ) (n : ℕ) → inside c n ≡ true → is_step s ≡ true → n ≤ 128 → SFits w32 (c +ℤ s)
moved_fits (negsuc c) s n h g l = absurd (false≢true h)
moved_fits (pos c) (pos k) n h g l = record { sfits = omega (arith, ltb-true c n h, eqb-true k 1 g) }
moved_fits (pos c) (negsuc k) n h g l = down c (ltb-true c n h)
  where
    down : (c : ℕ) → c < n → SFits w32 (sub_ℕ c (suc k))
    down zero b = subst (λ (j : ℕ). SFits w32 (sub_ℕ 0 (suc j))) (sym (eqb-true k 0 g)) (record { sfits = omega arith })
    down (suc c) b =
        subst (λ (j : ℕ). SFits w32 (sub_ℕ (suc c) (suc j))) (sym (eqb-true k 0 g))
        (subst (λ (t : Bool). SFits w32 (cond t (negsuc (1 - suc (suc c))) (pos (suc c - 1)))) (sym (le-ltb (suc c) 1 (omega arith)))
        (record { sfits = omega arith }))

-- it leads past the table where the next cell up is the last plus one, or the cell is the first
pub leaves_forth : (c : ℤ) (n : ℕ) → inside c n ≡ true → eqb (nat_abs c + 1) n ≡ eq_z (c +ℤ pos 1) (limit (pos 1) n)
leaves_forth (pos c) n h = refl
leaves_forth (negsuc c) n h = absurd (false≢true h)

pub leaves_back : (c s : ℤ) (n : ℕ) → inside c n ≡ true → is_step s ≡ true → (s ≡ pos 1 → ⊥) → eqb (nat_abs c) 0 ≡ eq_z (c +ℤ s) (limit s n)
leaves_back (negsuc c) s n h g ne = absurd (false≢true h)
leaves_back (pos c) (pos k) n h g ne = absurd (ne (ap pos (eqb-true k 1 g)))
leaves_back (pos zero) (negsuc k) n h g ne = subst (λ (j : ℕ). true ≡ eq_z (sub_ℕ 0 (suc j)) (negsuc 0)) (sym (eqb-true k 0 g)) refl
leaves_back (pos (suc c)) (negsuc k) n h g ne =
    ne_eqb (suc c) 0 (λ e. none c e)
    ∙ subst (λ (j : ℕ). false ≡ eq_z (sub_ℕ (suc c) (suc j)) (negsuc 0)) (sym (eqb-true k 0 g))
    (ap (λ (t : Bool). eq_z (cond t (negsuc (1 - suc (suc c))) (pos (suc c - 1))) (negsuc 0)) (sym (le-ltb (suc c) 1 (omega arith))))
  where
    none : (c : ℕ) → suc c ≡ 0 → ⊥
    none c e = omega arith
