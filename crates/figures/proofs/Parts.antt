-- Parts of n figures of a list. Assumes nothing.
use Rattle.std.specs.Prelude.{◌≡◌, List, ℕ, ◌+◌, ◌-◌, ◌*◌, ◌≤◌, ◌<◌, take, drop, Float}
use Rattle.std.proofs.Common.{sym, ap, le_trans, le_of_eq, suc-mul, mul-le-mul_right, arith}

-- part p of w parts lies in them
pub place_in : (n w p : ℕ) → p < w → p * n + n ≤ w * n
place_in n w p h = le_trans (le_of_eq (sym (suc-mul p n))) (mul-le-mul_right n h)

-- the n figures from a on
pub part_is : (n a : ℕ) (l : List Float) → take (a + n - a) (drop a l) ≡ take n (drop a l)
part_is n a l = let e : a + n - a ≡ n = omega arith in ap (λ (k : ℕ). take k (drop a l)) e
