-- The classes of a box make up all of its coordinates, whatever is read. Assumes nothing.
use Rattle.std.specs.Prelude.{ℕ, zero, suc, ◌+◌, ◌*◌, ◌≤◌, ◌<◌, ◌≡◌, refl, Bool, true, false, cond, List, [], ◌∷◌, eqb, pos, ◌+ℤ◌, length, get_or, replicate, Float}
use native.Mathlib.Nat.{mul-one, mul-zero}
use Rattle.std.proofs.Common.{arith, sym, ap, ◌∙◌, eq-eqb, ne_eqb}
use Rattle.std.proofs.lemmas.List.{length-replicate}
use Rattle.std.specs.Float.Ieee.{lt}
use Rattle.refusals.specs.Results.{ok, value_or}
use Rattle.refusals.specs.Faults.{◌then◌, passing}
use Rattle.float.specs.Zero.{+0}
use Rattle.layout.specs.Coordinates.{Coord}
use Rattle.sparse_grid.specs.Tables.{Grid}
use Rattle.sparse_grid.specs.Validate.{validate}
use Rattle.sparse_grid.specs.Lookup.{read_in}
use Rattle.sparse_grid.specs.Count.{sum, bit, sum_same, sum_nil, bit_most}
use Rattle.boxes.specs.Boxes.{Box, span}
use Rattle.walk.specs.Classes.{class, box_sum, class_count, box_size, class_total, limits_fault, sides_fault, listed, public_counts}
use Rattle.walk.specs.Sums.{sum_le, sum_swap, sum_const, sum_grown}

-- ---- what a class means

pub class_most : (ls : List Float) (v : Float) → class ls v ≤ length ls
class_most [] v = omega arith
class_most (l ∷ ls) v = go (lt v l) (class_most ls v)
  where
    go : (b : Bool) → class ls v ≤ length ls → cond b 0 (suc (class ls v)) ≤ suc (length ls)
    go true h = omega arith
    go false h = omega arith

-- below the limit of its class, where it has one
pub class_below : (ls : List Float) (v : Float) → class ls v < length ls → lt v (get_or ls (class ls v) +0) ≡ true
class_below [] v h = absurd (omega arith)
class_below (l ∷ ls) v h = go (lt v l) refl h (class_below ls v)
  where
    go : (b : Bool) → lt v l ≡ b → cond b 0 (suc (class ls v)) < suc (length ls)
        → (class ls v < length ls → lt v (get_or ls (class ls v) +0) ≡ true) → lt v (get_or (l ∷ ls) (cond b 0 (suc (class ls v))) +0) ≡ true
    go true e h r = e
    go false e h r = r (omega arith)

-- at or above each limit before
pub class_above : (ls : List Float) (v : Float) (i : ℕ) → i < class ls v → lt v (get_or ls i +0) ≡ false
class_above [] v i h = absurd (omega arith)
class_above (l ∷ ls) v i h = go (lt v l) refl i h (class_above ls v)
  where
    go : (b : Bool) → lt v l ≡ b → (i : ℕ) → i < cond b 0 (suc (class ls v)) → ((i : ℕ) → i < class ls v → lt v (get_or ls i +0) ≡ false)
        → lt v (get_or (l ∷ ls) i +0) ≡ false
    go true e i h r = absurd (omega arith)
    go false e zero h r = e
    go false e (suc i) h r = r i (omega arith)

-- ---- sums over a box

pub box_sum_same : (f g : Coord → ℕ) (b : Box) → ((c : Coord) → g c ≡ f c) → box_sum g b ≡ box_sum f b
unfolding box_sum
box_sum_same f g b h = sum_same (span b.lo.x b.hi.x) _ _
    (λ i l. sum_same (span b.lo.y b.hi.y) _ _ (λ j m. sum_same (span b.lo.z b.hi.z) _ _ (λ k o. h _)))

pub box_sum_le : (f g : Coord → ℕ) (b : Box) → ((c : Coord) → f c ≤ g c) → box_sum f b ≤ box_sum g b
unfolding box_sum
box_sum_le f g b h = sum_le (span b.lo.x b.hi.x) _ _
    (λ i l. sum_le (span b.lo.y b.hi.y) _ _ (λ j m. sum_le (span b.lo.z b.hi.z) _ _ (λ k o. h _)))

-- the sum of sums
pub box_sum_swap : (n : ℕ) (f : ℕ → Coord → ℕ) (b : Box) → sum n (λ t. box_sum (f t) b) ≡ box_sum (λ c. sum n (λ t. f t c)) b
unfolding box_sum
box_sum_swap n f b =
    sum_swap n (span b.lo.x b.hi.x)
    (λ t i. sum (span b.lo.y b.hi.y)
    (λ j. sum (span b.lo.z b.hi.z) (λ k. f t (record { x = b.lo.x +ℤ pos i; y = b.lo.y +ℤ pos j; z = b.lo.z +ℤ pos k }))))
    ∙ sum_same (span b.lo.x b.hi.x) _ _ (λ i l.
    sum_swap n (span b.lo.y b.hi.y)
    (λ t j. sum (span b.lo.z b.hi.z) (λ k. f t (record { x = b.lo.x +ℤ pos i; y = b.lo.y +ℤ pos j; z = b.lo.z +ℤ pos k })))
    ∙ sum_same (span b.lo.y b.hi.y) _ _ (λ j m.
    sum_swap n (span b.lo.z b.hi.z) (λ t k. f t (record { x = b.lo.x +ℤ pos i; y = b.lo.y +ℤ pos j; z = b.lo.z +ℤ pos k }))))

pub box_sum_const : (n : ℕ) (b : Box) → box_sum (λ c. n) b ≡ box_size b * n
unfolding box_sum
box_sum_const n b =
    sum_same (span b.lo.x b.hi.x) _ _ (λ i l. sum_same (span b.lo.y b.hi.y) _ _ (λ j m. sum_const (span b.lo.z b.hi.z) n)
    ∙ sum_const (span b.lo.y b.hi.y) (span b.lo.z b.hi.z * n))
    ∙ sum_const (span b.lo.x b.hi.x) (span b.lo.y b.hi.y * (span b.lo.z b.hi.z * n))
    ∙ sym (native.Mathlib.Nat.mul_assoc (span b.lo.x b.hi.x * span b.lo.y b.hi.y) (span b.lo.z b.hi.z) n
    ∙ native.Mathlib.Nat.mul_assoc (span b.lo.x b.hi.x) (span b.lo.y b.hi.y) (span b.lo.z b.hi.z * n))

-- ---- the classes

-- one of the numbers below n is k
one_of : (n k : ℕ) → k < n → sum n (λ t. bit (eqb k t)) ≡ 1
one_of n k l =
    let z = sum_nil n (λ t. 0) (λ t. refl) in
    let g = sum_grown n 1 (λ t. 0) (λ t. bit (eqb k t)) k l (ap bit (eq-eqb k k refl)) (λ t m d. ap bit (ne_eqb k t (λ e. d (sym e)))) in
    omega arith

-- N is the sum of the class lines and the number of coordinates in the box
pub total_size : (read : Coord → Float) (ls : List Float) (b : Box) → class_total read ls b ≡ box_size b
total_size read ls b =
    box_sum_swap (length ls + 1) (λ k c. bit (eqb (class ls (read c)) k)) b
    ∙ box_sum_same (λ c. 1) _ b (λ c. one_of (length ls + 1) (class ls (read c)) (let h = class_most ls (read c) in omega arith))
    ∙ box_sum_const 1 b ∙ mul-one (box_size b)

-- past the last class there is nothing
pub past_last : (read : Coord → Float) (ls : List Float) (b : Box) (k : ℕ) → length ls < k → class_count read ls b k ≡ 0
past_last read ls b k h =
    box_sum_same (λ c. 0) _ b (λ c. ap bit (ne_eqb (class ls (read c)) k (λ e. let m = class_most ls (read c) in omega arith)))
    ∙ box_sum_const 0 b ∙ mul-zero (box_size b)

-- no class has more than the box, so that each count fits 64 bits where no side is over 2^20; and an empty box has none
pub class_size : (read : Coord → Float) (ls : List Float) (b : Box) (k : ℕ) → class_count read ls b k ≤ box_size b
class_size read ls b k = let h = box_sum_le _ (λ c. 1) b (λ c. bit_most (eqb (class ls (read c)) k)) in let e = box_sum_const 1 b in
    let o = mul-one (box_size b) in omega arith

-- ---- the 17 counts as a list

-- a list is what stands in its places
pub listed_is : (l : List ℕ) (i n : ℕ) (f : ℕ → ℕ) → length l ≡ n → ((k : ℕ) → k < n → get_or l k 0 ≡ f (i + k)) → l ≡ listed n i f
unfolding listed
listed_is [] i zero f e h = refl
listed_is [] i (suc n) f e h = absurd (omega arith)
listed_is (a ∷ l) i zero f e h = absurd (omega arith)
listed_is (a ∷ l) i (suc n) f e h =
    let first : a ≡ f i = h 0 (omega arith) ∙ ap f (omega arith) in
    let rest : l ≡ listed n (i + 1) f = listed_is l (i + 1) n f (omega arith) (λ k K. h (suc k) (omega arith) ∙ ap f (omega arith)) in
    λ t. first t ∷ rest t

pub listed_length : (n i : ℕ) (f : ℕ → ℕ) → length (listed n i f) ≡ n
unfolding listed
listed_length zero i f = refl
listed_length (suc n) i f = ap suc (listed_length n (i + 1) f)

-- there are 17 of them, after a refusal too
pub counts_long : (g : Grid) (ls : List Float) (b : Box) → length (value_or (replicate 17 0) (public_counts g ls b)) ≡ 17
unfolding public_counts
counts_long g ls b = go (validate g then limits_fault ls then sides_fault b)
  where
    go : (n : ℕ) → length (value_or (replicate 17 0) (passing n (ok (listed 17 0 (class_count (read_in g) ls b))))) ≡ 17
    go zero = listed_length 17 0 (class_count (read_in g) ls b)
    go (suc n) = length-replicate {A = ℕ} 17 0
