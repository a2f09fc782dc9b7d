-- `box_maximum` is the greatest of +0 and the voxels in the box, whatever is read, a NaN too. Assumes nothing.
use Rattle.std.specs.Prelude.{◌≡◌, refl, ◌⊎◌, ℕ, zero, suc, ◌<◌, ℤ, pos, ◌+ℤ◌, T}
use Rattle.std.proofs.Common.{sym, ap, ◌∙◌, subst, inl, inr, arith}
use native.Mathlib.Nat.{eq-or-lt_of_le, le_of_suc-le-suc}
use mathlib.Core.Bool.{Bool, true, false, not, cond}
use Rattle.std.specs.Int.Signed.{le_z, le_z_yes}
use lib.Ieee.{Float, nan, inf, fin, lt, le, is_nan}
use Rattle.layout.specs.Coordinates.{Coord}
use Rattle.boxes.specs.Boxes.{Box, In, Greatest, greater, greatest_run, span, box_maximum}
use Rattle.boxes.proofs.Offsets.{offset, within, above}
use Rattle.float.specs.Zero.{+0}
use Rattle.float.proofs.Tests.{yes}
use Rattle.float.proofs.Ordered.{le→not_lt, le_same, not_lt_through}

same_not_lt : (x : Float) → lt x x ≡ false
same_not_lt x = go (is_nan x) refl
  where
    nothing : (x : Float) → is_nan x ≡ true → lt x x ≡ false
    nothing x e = Rattle.float.proofs.Ordered.nan_l x x e

    go : (b : Bool) → is_nan x ≡ b → lt x x ≡ false
    go true e = nothing x e
    go false e = le→not_lt x x (le_same x (Rattle.float.proofs.Tests.no (is_nan x) e))

-- lt a b passed: b is a number, and lt b a fails
lt_number : (a b : Float) → lt a b ≡ true → T (not (is_nan b))
unfolding lt is_nan
lt_number nan nan e = absurd (mathlib.Core.Bool.false≢true e)
lt_number (inf s) nan e = absurd (mathlib.Core.Bool.false≢true e)
lt_number (fin s m i) nan e = absurd (mathlib.Core.Bool.false≢true e)
lt_number a (inf t) e = tt
lt_number a (fin t n d) e = tt

lt_le : (a b : Float) → lt a b ≡ true → T (le a b)
unfolding le
lt_le a b e = first (lt a b) (lib.Ieee.eq a b) (yes e)
  where
    first : (x y : Bool) → T x → T (mathlib.Core.Bool.◌||◌ x y)
    first true y t = tt
    first false y t = absurd t

-- ---- the greater of two
pub greater_number : (a b : Float) → T (not (is_nan a)) → T (not (is_nan (greater a b)))
greater_number a b p = go (lt a b) refl
  where
    go : (c : Bool) → lt a b ≡ c → T (not (is_nan (cond c b a)))
    go true e = lt_number a b e
    go false e = p

pub greater_l : (a b : Float) → lt (greater a b) a ≡ false
greater_l a b = go (lt a b) refl
  where
    go : (c : Bool) → lt a b ≡ c → lt (cond c b a) a ≡ false
    go true e = le→not_lt b a (lt_le a b e)
    go false e = same_not_lt a

pub greater_r : (a b : Float) → lt (greater a b) b ≡ false
greater_r a b = go (lt a b) refl
  where
    go : (c : Bool) → lt a b ≡ c → lt (cond c b a) b ≡ false
    go true e = same_not_lt b
    go false e = e

-- ---- a run
pub run_number : (n : ℕ) (from : ℤ) (f : ℤ → Float) → T (not (is_nan (greatest_run n from f)))
unfolding greatest_run is_nan
run_number zero from f = tt
run_number (suc n) from f = greater_number (greatest_run n from f) (f (from +ℤ pos n)) (run_number n from f)

pub run_covers : (n : ℕ) (from : ℤ) (f : ℤ → Float) (i : ℕ) → i < n → lt (greatest_run n from f) (f (from +ℤ pos i)) ≡ false
unfolding greatest_run
run_covers zero from f i h = absurd (native.Mathlib.Nat.not-suc-le-zero h)
run_covers (suc n) from f i h = elim (eq-or-lt_of_le (le_of_suc-le-suc h)) [
  | inl e ↦ subst (λ (k : ℕ). lt (greatest_run (suc n) from f) (f (from +ℤ pos k)) ≡ false) (sym e) (greater_r (greatest_run n from f) (f (from +ℤ pos n)))
  | inr l ↦ not_lt_through (greatest_run (suc n) from f) (greatest_run n from f) (f (from +ℤ pos i)) (run_number n from f)
      (greater_l (greatest_run n from f) (f (from +ℤ pos n))) (run_covers n from f i l)
]

abbrev Reached : ℕ → ℤ → (ℤ → Float) → Float → Type 0
Reached n from f r = (r ≡ +0) ⊎ ((i : ℕ) × (i < n) × (f (from +ℤ pos i) ≡ r) × (lt +0 r ≡ true))

-- r is not below +0 and something is above r
lt_through : (x y z : Float) → lt x y ≡ true → lt y z ≡ true → lt x z ≡ true
lt_through x y z h k = go (lt x z) refl
  where
    go : (c : Bool) → lt x z ≡ c → c ≡ true
    go true e = refl
    go false e = sym (not_lt_through y x z (number_of_lem x y h) (le→not_lt y x (lt_le x y h)) e) ∙ k
      where
        number_of_lem : (x y : Float) → lt x y ≡ true → T (not (is_nan x))
        number_of_lem x y e = Rattle.float.proofs.Ordered.number_l x y (lt_le x y e)

run_reached : (n : ℕ) (from : ℤ) (f : ℤ → Float) → Reached n from f (greatest_run n from f)
unfolding greatest_run
run_reached zero from f = inl refl
run_reached (suc n) from f = go (lt (greatest_run n from f) (f (from +ℤ pos n))) refl (run_reached n from f)
  where
    grown : (i n : ℕ) → i < n → i < suc n
    grown i n h = omega arith

    last : (n : ℕ) → n < suc n
    last n = omega arith

    go : (c : Bool) → lt (greatest_run n from f) (f (from +ℤ pos n)) ≡ c → Reached n from f (greatest_run n from f)
        → Reached (suc n) from f (cond c (f (from +ℤ pos n)) (greatest_run n from f))
    go true e (inl z) = inr (n, last n, refl, subst (λ (x : Float). lt x (f (from +ℤ pos n)) ≡ true) z e)
    go true e (inr q) = inr (n, last n, refl, lt_through +0 (greatest_run n from f) (f (from +ℤ pos n)) q.3 e)
    go false e (inl z) = inl z
    go false e (inr q) = inr (q.0, grown q.0 n q.1, q.2, q.3)

-- ---- a box
zero_not_lt : lt +0 +0 ≡ false
unfolding lt
zero_not_lt = refl

not_zero : (r : Float) → lt +0 r ≡ true → r ≡ +0 → ⊥
not_zero r h e = mathlib.Core.Bool.true≢false (sym h ∙ ap (lt +0) e ∙ zero_not_lt)

pub max_number : (read : Coord → Float) (b : Box) → T (not (is_nan (box_maximum read b)))
unfolding box_maximum
max_number read b =
    run_number (span b.lo.x b.hi.x) b.lo.x
    (λ x. greatest_run (span b.lo.y b.hi.y) b.lo.y
    (λ y. greatest_run (span b.lo.z b.hi.z) b.lo.z (λ z. read (record { x = x; y = y; z = z }))))

pub greatest : (read : Coord → Float) (b : Box) → Greatest read b (box_maximum read b)
unfolding box_maximum
greatest read b = record { covers = cover; reached = reach }
  where
    line : ℤ → ℤ → Float
    line x y = greatest_run (span b.lo.z b.hi.z) b.lo.z (λ z. read (record { x = x; y = y; z = z }))

    plane : ℤ → Float
    plane x = greatest_run (span b.lo.y b.hi.y) b.lo.y (λ y. line x y)

    all : Float
    all = greatest_run (span b.lo.x b.hi.x) b.lo.x (λ x. plane x)

    cover : (c : Coord) → In b c → lt all (read c) ≡ false
    cover c h =
        let (i, i-in, i-is) = offset b.lo.x c.x b.hi.x h.x_low.le h.x_high.le in
        let (j, j-in, j-is) = offset b.lo.y c.y b.hi.y h.y_low.le h.y_high.le in
        let (k, k-in, k-is) = offset b.lo.z c.z b.hi.z h.z_low.le h.z_high.le in
        let one : lt all (plane c.x)
        ≡ false = subst (λ (x : ℤ). lt all (plane x) ≡ false) (sym i-is) (run_covers (span b.lo.x b.hi.x) b.lo.x (λ x. plane x) i i-in) in
        let two : lt (plane c.x) (line c.x c.y)
        ≡ false =
        subst (λ (y : ℤ). lt (plane c.x) (line c.x y) ≡ false) (sym j-is)
        (run_covers (span b.lo.y b.hi.y) b.lo.y (λ y. line c.x y) j j-in) in
        let three : lt (line c.x c.y) (read c)
        ≡ false =
        subst (λ (z : ℤ). lt (line c.x c.y) (read (record { x = c.x; y = c.y; z = z })) ≡ false) (sym k-is)
        (run_covers (span b.lo.z b.hi.z) b.lo.z (λ z. read (record { x = c.x; y = c.y; z = z })) k k-in) in
        not_lt_through all (plane c.x) (read c) (run_number (span b.lo.y b.hi.y) b.lo.y (λ y. line c.x y)) one
        (not_lt_through (plane c.x) (line c.x c.y) (read c)
        (run_number (span b.lo.z b.hi.z) b.lo.z (λ z. read (record { x = c.x; y = c.y; z = z }))) two three)

    in_z : (x y : ℤ) → T (le_z b.lo.x x) → T (le_z x b.hi.x) → T (le_z b.lo.y y) → T (le_z y b.hi.y)
        → Reached (span b.lo.z b.hi.z) b.lo.z (λ z. read (record { x = x; y = y; z = z })) (line x y) → lt +0 (line x y) ≡ true
        → (c : Coord) × In b c × (read c ≡ line x y)
    in_z x y xl xh yl yh (inl e) p = absurd (not_zero (line x y) p e)
    in_z x y xl xh yl yh (inr q) p =
        let z = b.lo.z +ℤ pos q.0 in (
          record { x = x; y = y; z = z },
          record {
            x_low = le_z_yes xl;
            x_high = le_z_yes xh;
            y_low = le_z_yes yl;
            y_high = le_z_yes yh;
            z_low = le_z_yes (above b.lo.z q.0);
            z_high = le_z_yes (within b.lo.z b.hi.z q.0 q.1);
          },
          q.2,
        )

    in_y : (x : ℤ) → T (le_z b.lo.x x) → T (le_z x b.hi.x) → Reached (span b.lo.y b.hi.y) b.lo.y (λ y. line x y) (plane x)
        → lt +0 (plane x) ≡ true → (c : Coord) × In b c × (read c ≡ plane x)
    in_y x xl xh (inl e) p = absurd (not_zero (plane x) p e)
    in_y x xl xh (inr q) p =
        let y = b.lo.y +ℤ pos q.0 in
        let (c, i, e) = in_z x y xl xh (above b.lo.y q.0) (within b.lo.y b.hi.y q.0 q.1)
        (run_reached (span b.lo.z b.hi.z) b.lo.z (λ z. read (record { x = x; y = y; z = z }))) (ap (lt +0) q.2 ∙ p) in
        (c, i, e ∙ q.2)

    in_x : Reached (span b.lo.x b.hi.x) b.lo.x (λ x. plane x) all → (all ≡ +0) ⊎ ((c : Coord) × In b c × (read c ≡ all) × (lt +0 all ≡ true))
    in_x (inl e) = inl e
    in_x (inr q) =
        let x = b.lo.x +ℤ pos q.0 in
        let (c, i, e) = in_y x (above b.lo.x q.0) (within b.lo.x b.hi.x q.0 q.1)
        (run_reached (span b.lo.y b.hi.y) b.lo.y (λ y. line x y)) (ap (lt +0) q.2 ∙ q.3) in
        inr (c, i, e ∙ q.2, q.3)

    reach : (all ≡ +0) ⊎ ((c : Coord) × In b c × (read c ≡ all) × (lt +0 all ≡ true))
    reach = in_x (run_reached (span b.lo.x b.hi.x) b.lo.x (λ x. plane x))

-- ---- two readings that agree in the box have one maximum
run_same : (n : ℕ) (from : ℤ) (f g : ℤ → Float) → ((i : ℕ) → i < n → f (from +ℤ pos i) ≡ g (from +ℤ pos i)) → greatest_run n from f ≡ greatest_run n from g
unfolding greatest_run
run_same zero from f g h = refl
run_same (suc n) from f g h =
    ap (λ (x : Float). greater x (f (from +ℤ pos n))) (run_same n from f g (λ i l. h i (grown i n l))) ∙ ap (greater (greatest_run n from g)) (h n (last n))
  where
    grown : (i n : ℕ) → i < n → i < suc n
    grown i n h = omega arith

    last : (n : ℕ) → n < suc n
    last n = omega arith

pub max_same : (read other : Coord → Float) (b : Box) → ((c : Coord) → In b c → read c ≡ other c) → box_maximum read b ≡ box_maximum other b
unfolding box_maximum
max_same read other b h =
    run_same (span b.lo.x b.hi.x) b.lo.x (λ x. greatest_run (span b.lo.y b.hi.y) b.lo.y (λ y. line read x y))
    (λ x. greatest_run (span b.lo.y b.hi.y) b.lo.y (λ y. line other x y)) (λ i I.
    run_same (span b.lo.y b.hi.y) b.lo.y (λ y. line read (b.lo.x +ℤ pos i) y) (λ y. line other (b.lo.x +ℤ pos i) y) (λ j J.
    run_same (span b.lo.z b.hi.z) b.lo.z (λ z. read (record { x = b.lo.x +ℤ pos i; y = b.lo.y +ℤ pos j; z = z }))
    (λ z. other (record { x = b.lo.x +ℤ pos i; y = b.lo.y +ℤ pos j; z = z })) (λ k K.
    h (record { x = b.lo.x +ℤ pos i; y = b.lo.y +ℤ pos j; z = b.lo.z +ℤ pos k }) (record {
      x_low = le_z_yes (above b.lo.x i);
      x_high = le_z_yes (within b.lo.x b.hi.x i I);
      y_low = le_z_yes (above b.lo.y j);
      y_high = le_z_yes (within b.lo.y b.hi.y j J);
      z_low = le_z_yes (above b.lo.z k);
      z_high = le_z_yes (within b.lo.z b.hi.z k K);
    }))))
  where
    line : (Coord → Float) → ℤ → ℤ → Float
    line r x y = greatest_run (span b.lo.z b.hi.z) b.lo.z (λ z. r (record { x = x; y = y; z = z }))
