-- One axis: cells within cells. The cells of a level that lo..hi meets are those of the level above, taken apart. Assumes nothing.
use Rattle.std.specs.Prelude.{ℕ, ◌+◌, ◌-◌, ◌*◌, ◌/◌, ◌≤◌, ◌<◌, max, min, ◌≡◌, refl}
use Rattle.std.proofs.Common.{one-mul, mul-one, mul-suc, mul-add, mul_assoc, mul_comm, mul-le-mul_left, arith, sym, ap, ◌∙◌, lt-ltb, ltb-true}
use mathlib.Core.Bool.{Bool, true, false}
use Rattle.sparse_grid.specs.Count.{sum, bit, sum_same}
use Rattle.walk.specs.Walk.{meets}
use Rattle.walk.specs.Sums.{sum_left, sum_rows}
use Rattle.walk.proofs.Cells.{hit, hits}
use Rattle.walk.proofs.Bound.{Axial, one, row, inside, values8, values128, values4096, lowers128, lowers4096, uppers4096}

-- a cell that is met lies in one that is
met_above : (s r lo hi t j : ℕ) → j < r → meets s lo hi (r * t + j) ≡ true → meets (r * s) lo hi t ≡ true
unfolding meets
met_above s r lo hi t j l h =
    let k = ltb-true (max lo (s * (r * t + j))) (min hi (s * (r * t + j) + s)) h in
    let a = mul-add s (r * t) j in
    let b : s * (r * t) ≡ r * s * t = sym (mul_assoc s r t) ∙ ap (λ (w : ℕ). w * t) (mul_comm s r) in
    let c = mul-suc s j in let d = mul-le-mul_left s l in let e = mul_comm s r in
    lt-ltb (max lo (r * s * t)) (min hi (r * s * t + r * s)) (omega arith)

absorb : (a b : Bool) → (b ≡ true → a ≡ true) → bit a * bit b ≡ bit b
absorb true b h = one-mul (bit b)
absorb false true h = absurd (mathlib.Core.Bool.false≢true (h refl))
absorb false false h = refl

-- f gives how many of the r cells of s coordinates in a cell are met
abbrev pub Counts : ℕ → ℕ → Axial → Type 0
Counts s r f = (lo hi t : ℕ) → f lo hi t ≡ sum r (λ j. hit s lo hi (r * t + j))

pub row_one : (n s lo hi b : ℕ) → row n s one lo hi b ≡ sum n (λ t. hit s lo hi (b + t))
unfolding row
row_one n s lo hi b = sum_same n _ _ (λ t l. mul-one (hit s lo hi (b + t)))

pub row_flat : (n r s : ℕ) (f : Axial) → Counts s r f → (lo hi b : ℕ) → row n (r * s) f lo hi b ≡ sum (n * r) (λ t. hit s lo hi (r * b + t))
unfolding row
row_flat n r s f h lo hi b =
    sum_same n (λ i. sum r (λ j. hit s lo hi (r * b + (r * i + j)))) _ (λ i l.
    ap (λ (w : ℕ). hit (r * s) lo hi (b + i) * w) (h lo hi (b + i))
    ∙ sym (sum_left r (hit (r * s) lo hi (b + i)) (λ j. hit s lo hi (r * (b + i) + j)))
    ∙ sum_same r (λ j. hit s lo hi (r * b + (r * i + j))) _ (λ j k.
    absorb (meets (r * s) lo hi (b + i)) (meets s lo hi (r * (b + i) + j)) (met_above s r lo hi (b + i) j k)
    ∙ ap (hit s lo hi) (let e = mul-add r b i in omega arith)))
    ∙ sum_rows n r (λ t. hit s lo hi (r * b + t))

counts_first : (n s : ℕ) → Counts s n (inside n s one)
counts_first n s lo hi t = row_one n s lo hi (n * t)

counts_next : (n r s : ℕ) (f : Axial) → Counts s r f → Counts s (n * r) (inside n (r * s) f)
counts_next n r s f h lo hi t =
    row_flat n r s f h lo hi (n * t)
    ∙ ap (λ (w : ℕ). sum (n * r) (λ j. hit s lo hi (w + j))) (sym (mul_assoc r n t) ∙ ap (λ (w : ℕ). w * t) (mul_comm r n))

pub counts_values8 : Counts 1 8 values8
counts_values8 = counts_first 8 1

pub counts_values128 : Counts 1 128 values128
counts_values128 = counts_next 16 8 1 values8 counts_values8

pub counts_values4096 : Counts 1 4096 values4096
counts_values4096 = counts_next 32 128 1 values128 counts_values128

pub counts_lowers128 : Counts 8 16 lowers128
counts_lowers128 = counts_first 16 8

pub counts_lowers4096 : Counts 8 512 lowers4096
counts_lowers4096 = counts_next 32 16 8 lowers128 counts_lowers128

pub counts_uppers4096 : Counts 128 32 uppers4096
counts_uppers4096 = counts_first 32 128

-- all of lo..hi lies in m cells from a on: what f comes to in them
module _ (m a lo hi : ℕ) (l : lo < hi) where
  pub total_one : (s : ℕ) → 0 < s → a ≤ lo / s → (hi - 1) / s < a + m → row m s one lo hi a ≡ (hi - 1) / s - lo / s + 1
  total_one s p h k = row_one m s lo hi a ∙ hits s lo hi a m p l h k

  pub total : (r s : ℕ) (f : Axial) → Counts s r f → 0 < s → r * a ≤ lo / s → (hi - 1) / s < r * a + m * r
      → row m (r * s) f lo hi a ≡ (hi - 1) / s - lo / s + 1
  total r s f c p h k = row_flat m r s f c lo hi a ∙ hits s lo hi (r * a) (m * r) p l h k
