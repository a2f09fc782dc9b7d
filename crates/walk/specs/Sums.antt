-- Sums over the numbers below n: products, nested sums, sums in another order, and a sum over different places. Assumes nothing.
use Rattle.std.specs.Prelude.{ℕ, zero, suc, ◌+◌, ◌*◌, ◌≤◌, ◌<◌, ◌≡◌, refl, Bool, true, false, cond, ◌&&◌, eqb, T}
use Rattle.std.proofs.Common.{zero-mul, mul-zero, suc-mul, mul-add, add-mul, mul_comm, not-suc-le-zero, arith, sym, ap, ◌∙◌, subst, eqb-true, eq-eqb}
use Rattle.sparse_grid.specs.Count.{sum, split_eq, split_lt, sum_same}

pub sum_none : (f : ℕ → ℕ) → sum 0 f ≡ 0
unfolding sum
sum_none f = refl

pub sum_suc : (n : ℕ) (f : ℕ → ℕ) → sum (suc n) f ≡ sum n f + f n
unfolding sum
sum_suc n f = refl

pub sum_le : (n : ℕ) (f g : ℕ → ℕ) → ((t : ℕ) → t < n → f t ≤ g t) → sum n f ≤ sum n g
unfolding sum
sum_le zero f g h = omega arith
sum_le (suc n) f g h = let a = sum_le n f g (λ t l. h t (omega arith)) in let b = h n (omega arith) in omega arith

pub sum_add : (n : ℕ) (f g : ℕ → ℕ) → sum n (λ t. f t + g t) ≡ sum n f + sum n g
unfolding sum
sum_add zero f g = refl
sum_add (suc n) f g = let a = sum_add n f g in omega arith

pub sum_left : (n c : ℕ) (f : ℕ → ℕ) → sum n (λ t. c * f t) ≡ c * sum n f
unfolding sum
sum_left zero c f = sym (mul-zero c)
sum_left (suc n) c f = let a = sum_left n c f in let b = mul-add c (sum n f) (f n) in omega arith

pub sum_right : (n c : ℕ) (f : ℕ → ℕ) → sum n (λ t. f t * c) ≡ sum n f * c
unfolding sum
sum_right zero c f = sym (zero-mul c)
sum_right (suc n) c f = let a = sum_right n c f in let b = add-mul (sum n f) (f n) c in omega arith

pub sum_const : (n c : ℕ) → sum n (λ t. c) ≡ n * c
unfolding sum
sum_const zero c = sym (zero-mul c)
sum_const (suc n) c = let a = sum_const n c in omega (arith, suc-mul n c)

-- n numbers and then m more
pub sum_more : (n m : ℕ) (f : ℕ → ℕ) → sum (n + m) f ≡ sum n f + sum m (λ t. f (n + t))
sum_more n zero f = let e : n + 0 ≡ n = omega arith in let z = sum_none (λ t. f (n + t)) in let w = ap (λ (k : ℕ). sum k f) e in omega arith
sum_more n (suc m) f =
    let e : n + suc m ≡ suc (n + m) = omega arith in
    let w = ap (λ (k : ℕ). sum k f) e in
    let a = sum_more n m f in let b = sum_suc (n + m) f in let c = sum_suc m (λ t. f (n + t)) in omega arith

-- n rows of m
pub sum_rows : (n m : ℕ) (f : ℕ → ℕ) → sum n (λ i. sum m (λ j. f (m * i + j))) ≡ sum (n * m) f
sum_rows zero m f = sum_none _ ∙ sym (ap (λ (k : ℕ). sum k f) (zero-mul m) ∙ sum_none f)
sum_rows (suc n) m f =
    let e : suc n * m ≡ n * m + m = suc-mul n m in
    let w = ap (λ (k : ℕ). sum k f) e in
    let a = sum_rows n m f in let b = sum_suc n (λ i. sum m (λ j. f (m * i + j))) in let c = sum_more (n * m) m f in
    let d : sum m (λ j. f (m * n + j)) ≡ sum m (λ j. f (n * m + j)) = ap (λ (k : ℕ). sum m (λ j. f (k + j))) (mul_comm m n) in
    omega arith

-- in another order
pub sum_swap : (n m : ℕ) (f : ℕ → ℕ → ℕ) → sum n (λ i. sum m (λ j. f i j)) ≡ sum m (λ j. sum n (λ i. f i j))
sum_swap zero m f = sum_none _ ∙ sym (sum_same m (λ j. 0) (λ j. sum 0 (λ i. f i j)) (λ j l. sum_none _) ∙ sum_const m 0 ∙ mul-zero m)
sum_swap (suc n) m f =
    sum_suc n (λ i. sum m (λ j. f i j)) ∙ ap (λ (k : ℕ). k + sum m (λ j. f n j)) (sum_swap n m f)
    ∙ sym (sum_add m (λ j. sum n (λ i. f i j)) (λ j. f n j))
    ∙ sym (sum_same m (λ j. sum n (λ i. f i j) + f n j) (λ j. sum (suc n) (λ i. f i j)) (λ j l. sum_suc n (λ i. f i j)))

-- a product of three sums
abbrev pub sum3 : ℕ → (ℕ → ℕ → ℕ → ℕ) → ℕ
sum3 n f = sum n (λ i. sum n (λ j. sum n (λ k. f i j k)))

pub sum3_same : (n : ℕ) (f g : ℕ → ℕ → ℕ → ℕ) → ((i j k : ℕ) → i < n → j < n → k < n → g i j k ≡ f i j k)
    → sum3 n g ≡ sum3 n f
sum3_same n f g h = sum_same n _ _ (λ i a. sum_same n _ _ (λ j b. sum_same n _ _ (λ k c. h i j k a b c)))

pub sum3_le : (n : ℕ) (f g : ℕ → ℕ → ℕ → ℕ) → ((i j k : ℕ) → i < n → j < n → k < n → f i j k ≤ g i j k)
    → sum3 n f ≤ sum3 n g
sum3_le n f g h = sum_le n _ _ (λ i a. sum_le n _ _ (λ j b. sum_le n _ _ (λ k c. h i j k a b c)))

pub sum3_add : (n : ℕ) (f g : ℕ → ℕ → ℕ → ℕ) → sum3 n (λ i j k. f i j k + g i j k) ≡ sum3 n f + sum3 n g
sum3_add n f g =
    sum_same n _ _ (λ i a. sum_same n _ _ (λ j b. sum_add n (f i j) (g i j)) ∙ sum_add n (λ j. sum n (f i j)) (λ j. sum n (g i j)))
    ∙ sum_add n (λ i. sum n (λ j. sum n (f i j))) (λ i. sum n (λ j. sum n (g i j)))

pub sum3_left : (n c : ℕ) (f : ℕ → ℕ → ℕ → ℕ) → sum3 n (λ i j k. c * f i j k) ≡ c * sum3 n f
sum3_left n c f =
    sum_same n _ _ (λ i a. sum_same n _ _ (λ j b. sum_left n c (f i j)) ∙ sum_left n c (λ j. sum n (f i j)))
    ∙ sum_left n c (λ i. sum n (λ j. sum n (f i j)))

pub sum3_product : (n : ℕ) (f g h : ℕ → ℕ) → sum3 n (λ i j k. f i * g j * h k) ≡ sum n f * sum n g * sum n h
sum3_product n f g h =
    sum_same n _ _ (λ i a. sum_same n _ _ (λ j b. sum_left n (f i * g j) h) ∙ sum_right n (sum n h) (λ j. f i * g j)
    ∙ ap (λ (k : ℕ). k * sum n h) (sum_left n (f i) g))
    ∙ sum_right n (sum n h) (λ i. f i * sum n g)
    ∙ ap (λ (k : ℕ). k * sum n h) (sum_right n (sum n g) f)

-- ---- a sum over places that differ is at most the sum over all places

-- one term is v more, and the others are as they were
pub sum_grown : (n v : ℕ) (f g : ℕ → ℕ) (s : ℕ) → s < n → g s ≡ f s + v → ((t : ℕ) → t < n → (t ≡ s → ⊥) → g t ≡ f t)
    → sum n g ≡ sum n f + v
unfolding sum
sum_grown zero v f g s l h k = absurd (not-suc-le-zero l)
sum_grown (suc n) v f g s l h k =
    split_eq n s
    (λ e. let a = sum_same n f g (λ t j. k t (omega arith) (λ q. omega arith)) in
    let b : g n ≡ f n + v = subst (λ (x : ℕ). g x ≡ f x + v) (sym e) h in omega arith)
    (λ d. let a = sum_grown n v f g s (smaller n s l d) h (λ t j q. k t (omega arith) q) in let b = k n (omega arith) d in omega arith)
  where
    smaller : (n s : ℕ) → s < suc n → (n ≡ s → ⊥) → s < n
    smaller n s l d = split_lt s n (λ h. h) (λ h. absurd (d (omega arith)))

abbrev pub same_as : ℕ → ℕ → ℕ → ℕ → ℕ → ℕ → Bool
same_as a b c x y z = eqb a x && eqb b y && eqb c z

same_self : (a b c : ℕ) → same_as a b c a b c ≡ true
same_self a b c = simp (eq-eqb a a refl, eq-eqb b b refl, eq-eqb c c refl)

and_true : (a b : Bool) → (a && b) ≡ true → (a ≡ true) × (b ≡ true)
and_true true b h = (refl, h)
and_true false b h = absurd (subst T (sym h) tt)

same_yes : (a b c x y z : ℕ) → same_as a b c x y z ≡ true → (a ≡ x) × (b ≡ y) × (c ≡ z)
same_yes a b c x y z h =
    let p = and_true (eqb a x && eqb b y) (eqb c z) h in
    let q = and_true (eqb a x) (eqb b y) p.0 in
    (eqb-true a x q.0, eqb-true b y q.1, eqb-true c z p.1)

same_no : (a b c x y z : ℕ) → ((a ≡ x) × (b ≡ y) × (c ≡ z) → ⊥) → same_as a b c x y z ≡ false
same_no a b c x y z n = go (same_as a b c x y z) refl
  where
    go : (t : Bool) → same_as a b c x y z ≡ t → t ≡ false
    go true e = absurd (n (same_yes a b c x y z e))
    go false e = refl

-- f without its value at (a, b, c)
without : ℕ → ℕ → ℕ → (ℕ → ℕ → ℕ → ℕ) → ℕ → ℕ → ℕ → ℕ
without a b c f x y z = cond (same_as a b c x y z) 0 (f x y z)

module _ (a b c : ℕ) (f : ℕ → ℕ → ℕ → ℕ) where
  without_there : f a b c ≡ without a b c f a b c + f a b c
  unfolding without
  without_there = rw (same_self a b c) (omega arith)

  without_other : (x y z : ℕ) → ((a ≡ x) × (b ≡ y) × (c ≡ z) → ⊥) → f x y z ≡ without a b c f x y z
  unfolding without
  without_other x y z n = rw (same_no a b c x y z n)

  without_sum : (m : ℕ) → a < m → b < m → c < m → sum3 m f ≡ sum3 m (without a b c f) + f a b c
  without_sum m p q r =
      sum_grown m (f a b c) _ _ a p
      (sum_grown m (f a b c) _ _ b q
      (sum_grown m (f a b c) _ _ c r without_there
      (λ z l n. without_other a b z (λ e. n (sym e.2))))
      (λ y l n. sum_same m _ _ (λ z k. without_other a y z (λ e. n (sym e.1)))))
      (λ x l n. sum_same m _ _ (λ y k. sum_same m _ _ (λ z j. without_other x y z (λ e. n (sym e.0)))))

pub sum_places : (n m : ℕ) (x y z : ℕ → ℕ) (f : ℕ → ℕ → ℕ → ℕ) → ((i : ℕ) → i < n → (x i < m) × (y i < m) × (z i < m))
    → ((i j : ℕ) → i < j → j < n → (x i ≡ x j) × (y i ≡ y j) × (z i ≡ z j) → ⊥)
    → sum n (λ i. f (x i) (y i) (z i)) ≤ sum3 m f
sum_places zero m x y z f h d = let e = sum_none (λ i. f (x i) (y i) (z i)) in omega arith
sum_places (suc n) m x y z f h d =
    let p = h n (omega arith) in
    let a = sum_places n m x y z (without (x n) (y n) (z n) f) (λ i l. h i (omega arith)) (λ i j l k. d i j l (omega arith)) in
    let b = without_sum (x n) (y n) (z n) f m p.0 p.1 p.2 in
    let c = sum_same n (λ i. without (x n) (y n) (z n) f (x i) (y i) (z i)) (λ i. f (x i) (y i) (z i))
    (λ i l. without_other (x n) (y n) (z n) f (x i) (y i) (z i) (λ e. d i n l (omega arith) (sym e.0, sym e.1, sym e.2))) in
    let w = sum_suc n (λ i. f (x i) (y i) (z i)) in
    omega arith
