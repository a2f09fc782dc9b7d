-- Zeros of either sign, as sums, products and `mul_add` take and give them.
use Rattle.std.specs.Prelude.{◌≡◌, ℕ, ◌*◌, ◌<◌, Bool, true, false, ◌&&◌, ◌||◌, T, pos, ◌==◌, refl, Float}
use Rattle.std.proofs.Common.{sym, ap, ◌∙◌, subst, zero-le, mul_assoc, mul_comm, mul_left_comm, mul-zero, zero-mul, zero-lt-suc, mul-pos, eqb→eq}
use Rattle.std.specs.Float.{nan, inf, fin, Format, binary32, binary64}
use Rattle.std.specs.Float.Ieee.{up, down, unlike, round, sum, mul, le, lt, eq, below, level}
use Rattle.std.specs.Float.Ieee.Fits.{down_pos}
use Rattle.std.specs.Float.Ieee.Scale.{finite, round_same}
use Rattle.float.specs.Fused.{plus, fma}
use Rattle.float.proofs.Sums.{sum_zeros}
use Rattle.float.proofs.Rising.{Sle, le→signed, plus_rises, round_rises, sle_scale, unsigned, keep}

-- a zero of either sign
abbrev pub is_zero : Float → Bool
is_zero nan = false
is_zero (inf s) = false
is_zero (fin s m e) = m == 0

at_one : (f : Format) (s : Bool) → round f s 0 1 ≡ fin s 0 (pos 0)
unfolding round
at_one binary32 true = refl
at_one binary32 false = refl
at_one binary64 true = refl
at_one binary64 false = refl

-- 0 keeps its sign
pub round_none : (f : Format) (s : Bool) (a c : ℕ) → 0 < c → a ≡ 0 → round f s a c ≡ fin s 0 (pos 0)
round_none f s a c C e = ap (λ (n : ℕ). round f s n c) e ∙ round_same f s 0 c 0 1 C (zero-lt-suc 0) (zero-mul 1 ∙ sym (zero-mul c)) ∙ at_one f s

round_zero : (f : Format) (s : Bool) (a c : ℕ) → 0 < c → a ≡ 0 → T (is_zero (round f s a c))
round_zero f s a c C e = subst (λ (x : Float). T (is_zero x)) (sym (round_none f s a c C e)) tt

-- zeros of either sign are equal
pub zero_le_zero : (x y : Float) → T (is_zero x) → T (is_zero y) → T (le x y)
unfolding le lt eq
zero_le_zero nan y p q = elim p [ ]
zero_le_zero (inf _) y p q = elim p [ ]
zero_le_zero (fin s m e) nan p q = elim q [ ]
zero_le_zero (fin s m e) (inf _) p q = elim q [ ]
zero_le_zero (fin s m e) (fin t n d) p q =
    subst (λ (X : ℕ). T (below s X t (n * up d * down e) || level s X t (n * up d * down e))) (sym (flat m (up e) (down d) (eqb→eq m 0 p)))
    (subst (λ (Y : ℕ). T (below s 0 t Y || level s 0 t Y)) (sym (flat n (up d) (down e) (eqb→eq n 0 q))) (go s t))
  where
    flat : (m u d : ℕ) → m ≡ 0 → m * u * d ≡ 0
    flat m u d e = ap (λ (x : ℕ). x * u * d) e ∙ ap (λ (x : ℕ). x * d) (zero-mul u) ∙ zero-mul d

    go : (s t : Bool) → T (below s 0 t 0 || level s 0 t 0)
    go true true = tt
    go true false = tt
    go false true = tt
    go false false = tt

-- x * 0 is a zero, and so is x * 0 + 0
pub mul_zero_right : (f : Format) (x z : Float) → T (finite x) → T (is_zero z) → T (is_zero (mul f x z))
unfolding mul
mul_zero_right f nan z p q = elim p [ ]
mul_zero_right f (inf _) z p q = elim p [ ]
mul_zero_right f (fin s m e) nan p q = elim q [ ]
mul_zero_right f (fin s m e) (inf _) p q = elim q [ ]
mul_zero_right f (fin s m e) (fin t n d) p q =
    round_zero f (unlike s t) (m * up e * (n * up d)) (down e * down d) (mul-pos (down_pos e) (down_pos d))
    (ap (λ (k : ℕ). m * up e * (k * up d)) (eqb→eq n 0 q) ∙ ap (λ (k : ℕ). m * up e * k) (zero-mul (up d)) ∙ mul-zero (m * up e))

pub fma_zero : (f : Format) (x r z : Float) → T (finite x) → T (is_zero r) → T (is_zero z) → T (is_zero (fma f x r z))
unfolding fma plus
fma_zero f nan _ z p q r = elim p [ ]
fma_zero f (inf _) _ z p q r = elim p [ ]
fma_zero f (fin s m e) nan z p q r = elim q [ ]
fma_zero f (fin s m e) (inf _) z p q r = elim q [ ]
fma_zero f (fin s m e) (fin t n d) nan p q r = elim r [ ]
fma_zero f (fin s m e) (fin t n d) (inf _) p q r = elim r [ ]
fma_zero f (fin s m e) (fin t n d) (fin u k g) p q r =
    let a : m * up e * (n * up d) * down g ≡ 0 =
    ap (λ (x : ℕ). m * up e * (x * up d) * down g) (eqb→eq n 0 q) ∙ ap (λ (x : ℕ). m * up e * x * down g) (zero-mul (up d))
    ∙ ap (λ (x : ℕ). x * down g) (mul-zero (m * up e)) ∙ zero-mul (down g) in
    let b : k * up g * (down e * down d) ≡ 0 =
    ap (λ (x : ℕ). x * up g * (down e * down d)) (eqb→eq k 0 r) ∙ ap (λ (x : ℕ). x * (down e * down d)) (zero-mul (up g)) ∙ zero-mul (down e * down d) in
    let c = down e * down d * down g in
    subst (λ (x : Float). T (is_zero x))
    (sym (ap (λ (x : ℕ). sum f (unlike s t) x u (k * up g * (down e * down d)) c) a ∙ ap (λ (x : ℕ). sum f (unlike s t) 0 u x c) b
    ∙ sum_zeros f (unlike s t) u c))
    (round_zero f (unlike s t && u) 0 c (mul-pos (mul-pos (down_pos e) (down_pos d)) (down_pos g)) refl)

-- a zero is finite
pub zero_finite : (x : Float) → T (is_zero x) → T (finite x)
zero_finite nan h = elim h [ ]
zero_finite (inf _) h = elim h [ ]
zero_finite (fin s m e) h = tt

-- x * 0 + z, in the order of z
pub fma_zero_rises : (f : Format) (x y r r' z w : Float) → T (finite x) → T (finite y) → T (is_zero r) → T (is_zero r') → T (finite z) → T (finite w)
    → T (le z w) → T (le (fma f x r z) (fma f y r' w))
unfolding fma plus
fma_zero_rises f nan y _ _ _ _ p q r r' z w h = elim p [ ]
fma_zero_rises f (inf _) y _ _ _ _ p q r r' z w h = elim p [ ]
fma_zero_rises f (fin s m e) nan _ _ _ _ p q r r' z w h = elim q [ ]
fma_zero_rises f (fin s m e) (inf _) _ _ _ _ p q r r' z w h = elim q [ ]
fma_zero_rises f (fin s m e) (fin t n d) nan _ _ _ p q r r' z w h = elim r [ ]
fma_zero_rises f (fin s m e) (fin t n d) (inf _) _ _ _ p q r r' z w h = elim r [ ]
fma_zero_rises f (fin s m e) (fin t n d) (fin o a j) nan _ _ p q r r' z w h = elim r' [ ]
fma_zero_rises f (fin s m e) (fin t n d) (fin o a j) (inf _) _ _ p q r r' z w h = elim r' [ ]
fma_zero_rises f (fin s m e) (fin t n d) (fin o a j) (fin o' a' j') nan _ p q r r' z w h = elim z [ ]
fma_zero_rises f (fin s m e) (fin t n d) (fin o a j) (fin o' a' j') (inf _) _ p q r r' z w h = elim z [ ]
fma_zero_rises f (fin s m e) (fin t n d) (fin o a j) (fin o' a' j') (fin u k g) nan p q r r' z w h = elim w [ ]
fma_zero_rises f (fin s m e) (fin t n d) (fin o a j) (fin o' a' j') (fin u k g) (inf _) p q r r' z w h = elim w [ ]
fma_zero_rises f (fin s m e) (fin t n d) (fin o a j) (fin o' a' j') (fin u k g) (fin v l i) p q r r' z w h =
    let X : m * up e * (a * up j) ≡ 0 = flat (m * up e) a (up j) (eqb→eq a 0 r) in
    let Y : n * up d * (a' * up j') ≡ 0 = flat (n * up d) a' (up j') (eqb→eq a' 0 r') in
    plus_rises f (unlike s o) (unlike t o') u v (m * up e * (a * up j)) (down e * down j) (n * up d * (a' * up j')) (down d * down j') (k * up g)
    (down g) (l * up i) (down i) (mul-pos (down_pos e) (down_pos j)) (mul-pos (down_pos d) (down_pos j')) (down_pos g) (down_pos i)
    (subst (λ (A : ℕ). Sle (unlike s o) (A * (down d * down j')) (unlike t o') (n * up d * (a' * up j') * (down e * down j))) (sym X)
    (subst (λ (B : ℕ). Sle (unlike s o) (0 * (down d * down j')) (unlike t o') (B * (down e * down j))) (sym Y)
    (subst (λ (A : ℕ). Sle (unlike s o) A (unlike t o') (0 * (down e * down j))) (sym (zero-mul (down d * down j')))
    (subst (λ (B : ℕ). Sle (unlike s o) 0 (unlike t o') B) (sym (zero-mul (down e * down j))) (zeros (unlike s o) (unlike t o'))))))
    (le→signed u k g v l i h)
  where
    flat : (M a u : ℕ) → a ≡ 0 → M * (a * u) ≡ 0
    flat M a u e = ap (λ (x : ℕ). M * (x * u)) e ∙ ap (λ (x : ℕ). M * x) (zero-mul u) ∙ mul-zero M

    zeros : (s t : Bool) → Sle s 0 t 0
    zeros true true = zero-le
    zeros true false = zero-le
    zeros false true = zero-le
    zeros false false = zero-le

-- x * r for an r with no minus sign
pub mul_rises : (f : Format) (x y r : Float) → T (finite x) → T (finite y) → T (unsigned r) → T (le x y) → T (le (mul f x r) (mul f y r))
unfolding mul
mul_rises f nan y _ p q r h = elim p [ ]
mul_rises f (inf _) y _ p q r h = elim p [ ]
mul_rises f (fin s m e) nan _ p q r h = elim q [ ]
mul_rises f (fin s m e) (inf _) _ p q r h = elim q [ ]
mul_rises f (fin s m e) (fin t n d) nan p q r h = elim r [ ]
mul_rises f (fin s m e) (fin t n d) (inf _) p q r h = elim r [ ]
mul_rises f (fin s m e) (fin t n d) (fin true a j) p q r h = elim r [ ]
mul_rises f (fin s m e) (fin t n d) (fin false a j) p q r h =
    let W = a * up j in
    let J = down j in
    let c = down e * down d * J in
    let C : 0 < c = mul-pos (mul-pos (down_pos e) (down_pos d)) (down_pos j) in
    subst (λ (o : Bool). T (le (round f o (m * up e * W) (down e * J)) (round f (unlike t false) (n * up d * W) (down d * J)))) (sym (keep s))
    (subst (λ (o : Bool). T (le (round f s (m * up e * W) (down e * J)) (round f o (n * up d * W) (down d * J)))) (sym (keep t))
    (subst (λ (v : Float). T (le v (round f t (n * up d * W) (down d * J))))
    (round_same f s (m * up e * down d * W) c (m * up e * W) (down e * J) C (mul-pos (down_pos e) (down_pos j)) (simp (mul_assoc, mul_comm, mul_left_comm)))
    (subst (λ (v : Float). T (le (round f s (m * up e * down d * W) c) v))
    (round_same f t (n * up d * down e * W) c (n * up d * W) (down d * J) C (mul-pos (down_pos d) (down_pos j)) (simp (mul_assoc, mul_comm, mul_left_comm)))
    (round_rises f s (m * up e * down d * W) t (n * up d * down e * W) c C
    (sle_scale s (m * up e * down d) t (n * up d * down e) W (le→signed s m e t n d h))))))
