-- One axis: which cells of s coordinates n coordinates in a row meet, and how many. Assumes nothing.
use Rattle.std.specs.Prelude.{ℕ, zero, suc, ◌+◌, ◌-◌, ◌*◌, ◌/◌, ◌≤◌, ◌<◌, max, min, ◌≡◌, refl, Bool, true, false}
use native.Mathlib.Nat.{mul-add-div, div-lt_iff_lt-mul, le-div_iff_mul-le, mul_comm, div-add-mod, mod-lt}
use native.Mathlib.Omega.{arith}
use Rattle.std.proofs.Common.{ap}
use borrow.Author.Tests.{lt-ltb, ltb-true}
use Rattle.sparse_grid.specs.Count.{sum, bit, split_lt}
use Rattle.walk.specs.Walk.{meets}
use Rattle.walk.specs.Sums.{sum_none, sum_suc}

-- 1 where a cell is met
abbrev pub hit : ℕ → ℕ → ℕ → ℕ → ℕ
hit s lo hi t = bit (meets s lo hi t)

module _ (s lo hi t : ℕ) (p : 0 < s) where
  pub met : lo < hi → lo / s ≤ t → t ≤ (hi - 1) / s → meets s lo hi t ≡ true
  unfolding meets
  met l a b =
      let u = (div-lt_iff_lt-mul {x = lo} {y = t + 1} p).0 (omega arith) in
      let v = (le-div_iff_mul-le {x = t} {y = hi - 1} p).0 b in
      let e = mul_comm s t in let f = native.Mathlib.Nat.add-mul t 1 s in let g = native.Mathlib.Nat.one-mul s in
      lt-ltb (max lo (s * t)) (min hi (s * t + s)) (omega arith)

  pub met_back : meets s lo hi t ≡ true → (lo < hi) × (lo / s ≤ t) × (t ≤ (hi - 1) / s)
  unfolding meets
  met_back h =
      let k = ltb-true (max lo (s * t)) (min hi (s * t + s)) h in
      let e = mul_comm s t in let f = native.Mathlib.Nat.add-mul t 1 s in let g = native.Mathlib.Nat.one-mul s in
      let u = (div-lt_iff_lt-mul {x = lo} {y = t + 1} p).1 (omega arith) in
      let v = (le-div_iff_mul-le {x = t} {y = hi - 1} p).1 (omega arith) in
      (omega arith, omega arith, v)

pub unmet : (s lo hi t : ℕ) → 0 < s → ((lo < hi) × (lo / s ≤ t) × (t ≤ (hi - 1) / s) → ⊥) → meets s lo hi t ≡ false
unmet s lo hi t p n = go (meets s lo hi t) refl
  where
    go : (b : Bool) → meets s lo hi t ≡ b → b ≡ false
    go true e = absurd (n (met_back s lo hi t p e))
    go false e = refl

-- the numbers from p to q, of those from a up to below a + n
between : (a n p q : ℕ) (f : ℕ → ℕ) → a ≤ p → p ≤ q → q < a + n
    → ((t : ℕ) → p ≤ t → t ≤ q → f t ≡ 1) → ((t : ℕ) → t < p → f t ≡ 0) → ((t : ℕ) → q < t → f t ≡ 0)
    → sum n (λ t. f (a + t)) ≡ q - p + 1
between a n p q f h k l one low high = go n l
  where
    nothing : (m : ℕ) → a + m ≤ p → sum m (λ t. f (a + t)) ≡ 0
    nothing zero j = sum_none _
    nothing (suc m) j = let u = nothing m (omega arith) in let v = sum_suc m (λ t. f (a + t)) in let w = low (a + m) (omega arith) in omega arith

    some : (m : ℕ) → p < a + m → a + m ≤ q + 1 → sum m (λ t. f (a + t)) ≡ a + m - p
    some zero i j = absurd (omega arith)
    some (suc m) i j =
        let v = sum_suc m (λ t. f (a + t)) in let w = one (a + m) (omega arith) (omega arith) in
        split_lt p (a + m) (λ d. let u = some m d (omega arith) in omega arith) (λ d. let u = nothing m d in omega arith)

    go : (m : ℕ) → q < a + m → sum m (λ t. f (a + t)) ≡ q - p + 1
    go zero i = absurd (omega arith)
    go (suc m) i =
        split_lt q (a + m)
        (λ d. let u = go m d in let v = sum_suc m (λ t. f (a + t)) in let w = high (a + m) d in omega arith)
        (λ d. let u = some (suc m) (omega arith) (omega arith) in omega arith)

-- how many cells lo..hi meets, of those from a up to below a + n, where it has no others
pub hits : (s lo hi a n : ℕ) → 0 < s → lo < hi → a ≤ lo / s → (hi - 1) / s < a + n
    → sum n (λ t. hit s lo hi (a + t)) ≡ (hi - 1) / s - lo / s + 1
hits s lo hi a n p l h k =
    let rises = div_mono (omega arith) in
    between a n (lo / s) ((hi - 1) / s) (hit s lo hi) h rises k
    (λ t i j. ap bit (met s lo hi t p l i j))
    (λ t i. ap bit (unmet s lo hi t p (λ e. omega arith)))
    (λ t i. ap bit (unmet s lo hi t p (λ e. omega arith)))
  where
    div_mono : lo ≤ hi - 1 → lo / s ≤ (hi - 1) / s
    div_mono d = let m = native.Mathlib.Nat.div-mul-le_self lo s in (le-div_iff_mul-le p).1 (omega arith)

-- the most cells of s that n coordinates in a row meet
abbrev pub most : ℕ → ℕ → ℕ
most s n = (n + s - 2) / s + 1

-- n coordinates in a row, wherever they start, meet no more
pub row_most : (s lo n : ℕ) → 0 < s → 1 ≤ n → (lo + n - 1) / s - lo / s + 1 ≤ most s n
row_most s lo n p h =
    let m = div-add-mod lo s in let r = mod-lt lo p in
    let q = lo / s in
    let d = mul-add-div p q (n + s - 2) in
    let le : (lo + n - 1) / s ≤ (s * q + (n + s - 2)) / s = mono (lo + n - 1) (s * q + (n + s - 2)) (omega arith) in
    omega arith
  where
    mono : (a b : ℕ) → a ≤ b → a / s ≤ b / s
    mono a b d = let m = native.Mathlib.Nat.div-mul-le_self a s in (le-div_iff_mul-le p).1 (omega arith)

-- from the last coordinate of a cell on it meets as many
pub row_reached : (s k n : ℕ) → 0 < s → 1 ≤ n → (s * k + s - 1 + n - 1) / s - (s * k + s - 1) / s + 1 ≡ most s n
row_reached s k n p h =
    let d = mul-add-div p k (n + s - 2) in
    let c = mul-add-div p k (s - 1) in
    let z = native.Mathlib.Nat.div-eq_of_lt {n = s - 1} {m = s} (omega arith) in
    let e : s * k + s - 1 + n - 1 ≡ s * k + (n + s - 2) = omega arith in
    let f : s * k + s - 1 ≡ s * k + (s - 1) = omega arith in
    let u = ap (λ (w : ℕ). w / s) e in let v = ap (λ (w : ℕ). w / s) f in
    omega arith
