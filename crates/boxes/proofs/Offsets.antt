-- A whole number from lo to hi is lo + i, with i below `span lo hi`; and back. Assumes nothing.
use Rattle.std.specs.Prelude.{◌≡◌, refl, ℕ, zero, suc, ◌+◌, ◌-◌, ◌≤◌, ◌<◌, Bool, true, false, not, cond, ℤ, pos, negsuc, ◌+ℤ◌, ◌-ℤ◌, T, ltb}
use Rattle.std.proofs.Common.{sym, ap, ◌∙◌, subst, zero-le, arith, leb→le, le→leb, ltb→lt, nltb→le}
use Rattle.std.proofs.Math.IntN.{suc_ℤ, sub_ℕ, +ℤ_assoc, +ℤ_comm, +ℤ-neg_ℤ_cancel, -ℤ-+ℤ_cancel}
use Rattle.std.specs.Int.Signed.{le_z}
use Rattle.boxes.specs.Boxes.{span, count}

either : (c : Bool) (x y : ℤ) (P : ℤ → Type 0) → (T c → P x) → (T (not c) → P y) → P (cond c x y)
either true x y P f g = f tt
either false x y P f g = g tt

sub_pos : (a b c : ℕ) → a ≡ b + c → sub_ℕ a b ≡ pos c
sub_pos a b c e = either (ltb a b) (negsuc (b - suc a)) (pos (a - b)) (λ z. z ≡ pos c) (λ t. absurd (never a b c e (ltb→lt a b t))) (λ t. ap pos (less a b c e))
  where
    never : (a b c : ℕ) → a ≡ b + c → a < b → ⊥
    never a b c e h = omega arith

    less : (a b c : ℕ) → a ≡ b + c → a - b ≡ c
    less a b c e = omega arith

sub_neg : (a b c : ℕ) → b ≡ suc (a + c) → sub_ℕ a b ≡ negsuc c
sub_neg a b c e =
    either (ltb a b) (negsuc (b - suc a)) (pos (a - b)) (λ z. z ≡ negsuc c) (λ t. ap negsuc (less a b c e)) (λ t. absurd (never a b c e (nltb→le a b t)))
  where
    never : (a b c : ℕ) → b ≡ suc (a + c) → b ≤ a → ⊥
    never a b c e h = omega arith

    less : (a b c : ℕ) → b ≡ suc (a + c) → b - suc a ≡ c
    less a b c e = omega arith

-- lo ≤ z: z = lo + i
pub apart : (lo z : ℤ) → T (le_z lo z) → (i : ℕ) × (z ≡ lo +ℤ pos i)
apart (pos a) (pos b) h = (b - a, ap pos (back a b (leb→le a b h)))
  where
    back : (a b : ℕ) → a ≤ b → b ≡ a + (b - a)
    back a b h = omega arith
apart (pos a) (negsuc b) h = absurd h
apart (negsuc a) (pos b) h = (suc a + b, sym (sub_pos (suc a + b) (suc a) b refl))
apart (negsuc a) (negsuc b) h = (a - b, sym (sub_neg (a - b) (suc a) b (ap suc (back a b (leb→le b a h)))))
  where
    back : (a b : ℕ) → b ≤ a → a ≡ a - b + b
    back a b h = omega arith

pub offset : (lo z hi : ℤ) → T (le_z lo z) → T (le_z z hi) → (i : ℕ) × (i < span lo hi) × (z ≡ lo +ℤ pos i)
offset lo z hi h k =
    let (i, p) = apart lo z h in
    let (j, q) = apart z hi k in
    (i, subst (λ (n : ℕ). i < n) (sym (ap count (gap i j p q))) (below i j), p)
  where
    below : (i j : ℕ) → i < suc (i + j)
    below i j = omega arith

    gap : (i j : ℕ) → z ≡ lo +ℤ pos i → hi ≡ z +ℤ pos j → hi -ℤ lo ≡ pos (i + j)
    gap i j p q =
        ap (λ (x : ℤ). x -ℤ lo) (q ∙ ap (λ (x : ℤ). x +ℤ pos j) p ∙ +ℤ_assoc lo (pos i) (pos j) ∙ +ℤ_comm lo (pos (i + j))) ∙ +ℤ-neg_ℤ_cancel (pos (i + j)) lo

-- z ≤ z + i
pub above : (z : ℤ) (i : ℕ) → T (le_z z (z +ℤ pos i))
above (pos a) i = le→leb a (a + i) (omega arith)
above (negsuc a) i =
    either (ltb i (suc a)) (negsuc (suc a - suc i)) (pos (i - suc a)) (λ z. T (le_z (negsuc a) z)) (λ t. le→leb (suc a - suc i) a (less a i)) (λ t. tt)
  where
    less : (a i : ℕ) → suc a - suc i ≤ a
    less a i = omega arith

pub within : (lo hi : ℤ) (i : ℕ) → i < span lo hi → T (le_z (lo +ℤ pos i) hi)
within lo hi i h = go (hi -ℤ lo) refl h
  where
    split : (i n : ℕ) → i < suc n → n ≡ i + (n - i)
    split i n h = omega arith

    go : (d : ℤ) → hi -ℤ lo ≡ d → i < count d → T (le_z (lo +ℤ pos i) hi)
    go (pos n) e l =
        let r : hi ≡ lo +ℤ pos i +ℤ pos (n - i) = sym (-ℤ-+ℤ_cancel hi lo) ∙ ap (λ (x : ℤ). x +ℤ lo) e ∙ +ℤ_comm (pos n) lo
        ∙ ap (λ (k : ℕ). lo +ℤ pos k) (split i n l) ∙ sym (+ℤ_assoc lo (pos i) (pos (n - i))) in
        subst (λ (x : ℤ). T (le_z (lo +ℤ pos i) x)) (sym r) (above (lo +ℤ pos i) (n - i))
    go (negsuc n) e l = absurd (native.Mathlib.Nat.not-suc-le-zero l)

-- ---- the order of ℤ

pub le_z_through : (a b c : ℤ) → T (le_z a b) → T (le_z b c) → T (le_z a c)
le_z_through (pos a) (pos b) (pos c) h k = le→leb a c (omega (arith, leb→le a b h, leb→le b c k))
le_z_through (pos a) (pos b) (negsuc c) h k = k
le_z_through (pos a) (negsuc b) c h k = absurd h
le_z_through (negsuc a) b (pos c) h k = tt
le_z_through (negsuc a) (pos b) (negsuc c) h k = absurd k
le_z_through (negsuc a) (negsuc b) (negsuc c) h k = le→leb c a (omega (arith, leb→le b a h, leb→le c b k))

pub le_z_suc : (a : ℤ) → T (le_z a (suc_ℤ a))
le_z_suc (pos a) = le→leb a (suc a) (omega arith)
le_z_suc (negsuc zero) = tt
le_z_suc (negsuc (suc a)) = le→leb a (suc a) (omega arith)

pub suc_rises : (a b : ℤ) → T (le_z a b) → T (le_z (suc_ℤ a) (suc_ℤ b))
suc_rises (pos a) (pos b) h = le→leb (suc a) (suc b) (omega (arith, leb→le a b h))
suc_rises (pos a) (negsuc b) h = absurd h
suc_rises (negsuc zero) (pos b) h = le→leb 0 (suc b) zero-le
suc_rises (negsuc (suc a)) (pos b) h = tt
suc_rises (negsuc zero) (negsuc zero) h = tt
suc_rises (negsuc zero) (negsuc (suc b)) h = absurd (never b (leb→le (suc b) 0 h))
  where
    never : (b : ℕ) → suc b ≤ 0 → ⊥
    never b h = omega arith
suc_rises (negsuc (suc a)) (negsuc zero) h = tt
suc_rises (negsuc (suc a)) (negsuc (suc b)) h = le→leb b a (omega (arith, leb→le (suc b) (suc a) h))
