-- Sizes that fit, and one turn more of the loops. Assumes nothing.
use mathlib.Core.Path.{◌≡◌, refl, sym, ap, ◌∙◌, subst}
use mathlib.Core.Bool.{true}
use mathlib.Core.List.{List, [], ◌∷◌, ◌++◌}
use Prim.Native.Nat.{ℕ, zero, suc, ◌+◌, ◌-◌, ◌*◌, ◌≤◌, ◌<◌}
use native.Mathlib.Nat.{le_trans, mul-le-mul_left, mul-le-mul_right}
use native.Mathlib.Numerals.{add-one}
use native.Mathlib.Omega.{arith}
use lib.Dec.{leb, leb→le}
use lib.ListN.{length, get_or, set, take, drop, length-drop}
use lib.Seq.{paste, paste-suc, length-take-le}
use lib.Ieee.{Float}
use Rattle.refusals.specs.TestLaws.{and_r}
use Rattle.float.proofs.Tests.{yes}
use Rattle.figures.proofs.Parts.{place_in, part_is}
use Rattle.figures.specs.Figures.{greater}
use Rattle.window.specs.Tables.{raised, raised_by}
use Rattle.window.specs.Window.{width_in, before, table_at, ring}
use Rattle.window.specs.Fours.{Alike, raised_four}
use Rattle.window.proofs.TableLaws.{front, front_more, raised_last, raised_length, raised_by_none}
use Rattle.window.proofs.RingLaws.{before_in}
use Rattle.window.proofs.FourLaws.{fronts, four_length, cell_four, fronts_more}

-- ---- sizes

-- a width is at most 16
pub wide_most : (w : ℕ) → width_in w ≡ true → w ≤ 16
wide_most w e = leb→le w 16 (and_r (leb 1 w) (leb w 16) (yes e))

-- w tables are at most 2^25 figures
pub tables_most : (w n : ℕ) → w ≤ 16 → n ≤ 2097152 → w * n ≤ 33554432
tables_most w n h k = le_trans (mul-le-mul_right n h) (mul-le-mul_left 16 k)

-- ---- places of the ring

-- the place before one of the w is one of them
pub stepped : (w p q : ℕ) → q ≡ before w p → p < w → q < w
stepped w p q e h = subst (λ (r : ℕ). r < w) (sym e) (before_in w p h)

-- its table lies in the memory
pub ring_room : (n w p long : ℕ) → p < w → w * n ≤ long → p * n + n ≤ long
ring_room n w p long h k = le_trans (place_in n w p h) k

-- ---- one turn more

pub paste_more : (d : List Float) (at : ℕ) (s m : List Float) (i : ℕ) (z : Float) → m ≡ paste d at s i → at + i < length d → i < length s
    → set m (at + i) (get_or s i z) ≡ paste d at s (i + 1)
paste_more d at s m i z e h k =
    ap (λ (l : List Float). set l (at + i) (get_or s i z)) e ∙ paste-suc d at s i z h k ∙ ap (paste d at s) (sym (add-one i))

pub raise_more : (a t l : List Float) (i : ℕ) (z v : Float) → l ≡ front i a t → v ≡ greater (get_or l i z) (get_or t i z) → i < length a → i < length t
    → set l i v ≡ front (i + 1) a t
raise_more a t l i z v e f h k =
    ap (λ (x : Float). set l i x) f
    ∙ ap (λ (q : List Float). set q i (greater (get_or q i z) (get_or t i z))) e
    ∙ front_more i a t z h k
    ∙ ap (λ (j : ℕ). front j a t) (sym (add-one i))

-- by four tables
pub four_more : (l a b c d : List Float) → Alike l a b c d → (m : List Float) (i : ℕ) (z v w x y : Float) → i < length l → m ≡ fronts l a b c d i
    → v ≡ greater (get_or m i z) (get_or a i z) → w ≡ greater v (get_or b i z) → x ≡ greater w (get_or c i z) → y ≡ greater x (get_or d i z)
    → set m i y ≡ fronts l a b c d (i + 1)
four_more l a b c d (na, nb, nc, nd) m i z v w x y h e f g j k =
    let cell : y ≡ cell_four l a b c d i z (get_or m i z) =
    k ∙ ap (λ (t : Float). greater t (get_or d i z)) (j ∙ ap (λ (t : Float). greater t (get_or c i z)) (g ∙ ap (λ (t : Float). greater t (get_or b i z)) f)) in
    ap (set m i) cell
    ∙ ap (λ (q : List Float). set q i (cell_four l a b c d i z (get_or q i z))) e
    ∙ fronts_more l a b c d na nb nc nd i z h
    ∙ ap (fronts l a b c d) (sym (add-one i))

-- the newest of the tables that are left
pub ring_step : (n w : ℕ) (m a a' r : List Float) (left at p : ℕ) → 0 < left → p ≡ before w at → a' ≡ raised a (table_at n m p)
    → raised_by a (ring n w m left at) ≡ r → raised_by a' (ring n w m (left - 1) p) ≡ r
unfolding ring
ring_step n w m a a' r zero at p h e f g = absurd (omega arith)
ring_step n w m a a' r (suc k) at p h e f g =
    let one : suc k - 1 ≡ k = omega arith in
    ap (λ (j : ℕ). raised_by a' (ring n w m j p)) one
    ∙ ap (λ (q : List Float). raised_by q (ring n w m k p)) f
    ∙ sym (raised_last a (ring n w m k p) (table_at n m p))
    ∙ ap (λ (q : ℕ). raised_by a (ring n w m k q ++ (table_at n m q ∷ []))) e
    ∙ g

-- the four newest
pub ring_four : (n w : ℕ) (m a r : List Float) (left at : ℕ) → 4 ≤ left → raised_by a (ring n w m left at) ≡ r
    → let p = before w at in let q = before w p in let s = before w q in let t = before w s in
    raised_by (raised_four a (table_at n m p) (table_at n m q) (table_at n m s) (table_at n m t)) (ring n w m (left - 4) t) ≡ r
ring_four n w m a r left at h g =
    let p = before w at in
    let q = before w p in
    let s = before w q in
    let t = before w s in
    let b = raised a (table_at n m p) in
    let c = raised b (table_at n m q) in
    let d = raised c (table_at n m s) in
    let one = ring_step n w m a b r left at p (omega arith) refl refl g in
    let two = ring_step n w m b c r (left - 1) p q (omega arith) refl refl one in
    let three = ring_step n w m c d r (left - 1 - 1) q s (omega arith) refl refl two in
    let four = ring_step n w m d (raised d (table_at n m t)) r (left - 1 - 1 - 1) s t (omega arith) refl refl three in
    let e : left - 4 ≡ left - 1 - 1 - 1 - 1 = omega arith in
    ap (λ (k : ℕ). raised_by (raised d (table_at n m t)) (ring n w m k t)) e ∙ four

-- none is left
pub ring_none : (n w : ℕ) (m a r : List Float) (left at : ℕ) → left ≡ 0 → raised_by a (ring n w m left at) ≡ r → a ≡ r
unfolding ring
ring_none n w m a r left at z g = sym (raised_by_none a) ∙ ap (λ (j : ℕ). raised_by a (ring n w m j at)) (sym z) ∙ g

-- the loop over the ring: the tables that are left before `at` are still to be raised into the answer
pub record Left (answer₀ memory : List Float) (w held next : ℕ) (answer : List Float) (left at : ℕ) : Type 0 where
  pub inside : at < w
  pub long : length answer ≡ length answer₀
  pub still : raised_by answer (ring (length answer₀) w memory left at) ≡ raised_by answer₀ (ring (length answer₀) w memory held next)

module _ (answer₀ memory : List Float) (w held next : ℕ) where
  pub left_all : next < w → Left answer₀ memory w held next answer₀ held next
  left_all h = record { inside = h; long = refl; still = refl }

  module _ {answer : List Float} {left at : ℕ} (L : Left answer₀ memory w held next answer left at) (answer' : List Float) (r : ℕ) where
    pub left_one : 0 < left → r ≡ before w at → answer' ≡ raised answer (table_at (length answer) memory r)
        → Left answer₀ memory w held next answer' (left - 1) r
    left_one h e f =
        let same : answer' ≡ raised answer (table_at (length answer₀) memory r) = f ∙ ap (λ (n : ℕ). raised answer (table_at n memory r)) L.long in
        record {
          inside = stepped w at r e L.inside;
          long = ap length same ∙ raised_length answer _ ∙ L.long;
          still = ring_step (length answer₀) w memory answer answer' _ left at r h e same L.still;
        }

    pub left_four : 4 ≤ left → r ≡ before w (before w (before w (before w at)))
        → (let p = before w at in
        let q = before w p in
        let table = table_at (length answer) memory in
        answer' ≡ raised_four answer (table p) (table q) (table (before w q)) (table r))
        → Left answer₀ memory w held next answer' (left - 4) r
    left_four h e f =
        let p = before w at in
        let q = before w p in
        let s = before w q in
        let t = before w s in
        let inside : t < w = before_in w s (before_in w q (before_in w p (before_in w at L.inside))) in
        let four : ℕ → ℕ → List Float = λ n k. raised_four answer (table_at n memory p) (table_at n memory q) (table_at n memory s) (table_at n memory k) in
        let same : answer' ≡ four (length answer₀) t = f ∙ (λ i. four (L.long i) (e i)) in
        let n = length answer₀ in
        record {
          inside = subst (λ (k : ℕ). k < w) (sym e) inside;
          long = ap length same ∙ four_length answer _ _ _ _ ∙ L.long;
          still = (λ i. raised_by (same i) (ring n w memory (left - 4) (e i))) ∙ ring_four n w memory answer _ left at h L.still;
        }

  -- the same of a number that is spelled otherwise
  pub left_as : {answer : List Float} {left at : ℕ} → Left answer₀ memory w held next answer left at → (k : ℕ) → left ≡ k
      → Left answer₀ memory w held next answer k at
  left_as {answer} {left} {at} L k e = subst (λ (j : ℕ). Left answer₀ memory w held next answer j at) e L

  pub left_none : {answer : List Float} {left at : ℕ} → Left answer₀ memory w held next answer left at → left ≡ 0
      → answer ≡ raised_by answer₀ (ring (length answer₀) w memory held next)
  left_none {answer} {left} {at} L z = ring_none _ w memory answer _ left at z L.still

-- ---- the n figures from a on

pub part_long : (n a : ℕ) (m : List Float) → a + n ≤ length m → length (take (a + n - a) (drop a m)) ≡ n
part_long n a m h = ap length (part_is n a m) ∙ length-take-le n (drop a m) (omega (arith, length-drop a m))
