-- Laws of parts of a list, and of tables that are raised one after another. Assumes nothing.
use Rattle.std.specs.Prelude.{◌≡◌, refl, List, [], ◌∷◌, ◌++◌, ℕ, zero, suc, ◌+◌, ◌-◌, ◌*◌, ◌≤◌, ◌<◌, length, get_or, set, take, drop, Float}
use Rattle.std.proofs.Common.{sym, ap, ◌∙◌, inl, inr, le_of_eq, not-suc-le-zero, le_of_suc-le-suc, arith, length-drop, take-append-drop, drop_at, drop-drop, length-take-le}
use Rattle.std.proofs.lemmas.List.{take-append-le, drop-append-le}
use Rattle.std.proofs.Math.Seq.{length_paste_head, take-length}
use Rattle.std.proofs.lemmas.List.Edits.{length-paste, drop-paste}
use Rattle.float.proofs.Tests.{decide}
use Rattle.figures.proofs.Parts.{place_in}
use Rattle.figures.specs.Figures.{greater}
use Rattle.window.specs.Tables.{raised, raised_by}
use Rattle.window.specs.Window.{table_at, stored}

-- ---- raising

-- tables in front of the last
pub raised_last : (a : List Float) (ts : List (List Float)) (t : List Float) → raised_by a (ts ++ (t ∷ [])) ≡ raised_by (raised a t) ts
unfolding raised_by
raised_last a [] t = refl
raised_last a (u ∷ ts) t = ap (λ (l : List Float). raised l u) (raised_last a ts t)

pub raised_length : (a t : List Float) → length (raised a t) ≡ length a
unfolding raised
raised_length [] t = refl
raised_length (x ∷ a) [] = refl
raised_length (x ∷ a) (v ∷ t) = ap suc (raised_length a t)

pub raised_by_length : (a : List Float) (ts : List (List Float)) → length (raised_by a ts) ≡ length a
unfolding raised_by
raised_by_length a [] = refl
raised_by_length a (t ∷ ts) = raised_length (raised_by a ts) t ∙ raised_by_length a ts

pub raised_by_none : (a : List Float) → raised_by a [] ≡ a
unfolding raised_by
raised_by_none a = refl

-- the first i cells raised
pub front : ℕ → List Float → List Float → List Float
front zero a t = a
front (suc i) [] t = []
front (suc i) (x ∷ a) [] = x ∷ a
front (suc i) (x ∷ a) (v ∷ t) = greater x v ∷ front i a t

pub front_none : (a t : List Float) → front 0 a t ≡ a
unfolding front
front_none a t = refl

pub front_length : (i : ℕ) (a t : List Float) → length (front i a t) ≡ length a
unfolding front
front_length zero a t = refl
front_length (suc i) [] t = refl
front_length (suc i) (x ∷ a) [] = refl
front_length (suc i) (x ∷ a) (v ∷ t) = ap suc (front_length i a t)

pub front_more : (i : ℕ) (a t : List Float) (d : Float) → i < length a → i < length t
    → set (front i a t) i (greater (get_or (front i a t) i d) (get_or t i d)) ≡ front (suc i) a t
unfolding front
front_more i [] t d h k = absurd (not-suc-le-zero h)
front_more i (x ∷ a) [] d h k = absurd (not-suc-le-zero k)
front_more zero (x ∷ a) (v ∷ t) d h k = refl
front_more (suc i) (x ∷ a) (v ∷ t) d h k = ap (λ (l : List Float). greater x v ∷ l) (front_more i a t d (le_of_suc-le-suc h) (le_of_suc-le-suc k))

-- cell i is not raised yet
pub front_rest : (i : ℕ) (l t : List Float) (z : Float) → get_or (front i l t) i z ≡ get_or l i z
unfolding front
front_rest zero l t z = refl
front_rest (suc i) [] t z = refl
front_rest (suc i) (x ∷ l) [] z = refl
front_rest (suc i) (x ∷ l) (v ∷ t) z = front_rest i l t z

-- a list whose cell i was raised before: one cell more
pub front_again : (i : ℕ) (l t : List Float) (x z : Float) → i < length l → i < length t
    → front (suc i) (set l i x) t ≡ set (front i l t) i (greater x (get_or t i z))
unfolding front
front_again i [] t x z h k = absurd (not-suc-le-zero h)
front_again i (y ∷ l) [] x z h k = absurd (not-suc-le-zero k)
front_again zero (y ∷ l) (v ∷ t) x z h k = refl
front_again (suc i) (y ∷ l) (v ∷ t) x z h k =
    ap (λ (m : List Float). greater y v ∷ m) (front_again i l t x z (le_of_suc-le-suc h) (le_of_suc-le-suc k))

pub front_all : (a t : List Float) → length t ≡ length a → front (length a) a t ≡ raised a t
unfolding front raised
front_all [] t e = refl
front_all (x ∷ a) [] e = refl
front_all (x ∷ a) (v ∷ t) e = ap (λ (l : List Float). greater x v ∷ l) (front_all a t (omega (arith, e)))

-- ---- a part of a list

-- within the first of two lists
part_left : (n a : ℕ) (xs ys : List Float) → a + n ≤ length xs → take n (drop a (xs ++ ys)) ≡ take n (drop a xs)
part_left n a xs ys h =
    ap (take n) (drop-append-le a xs ys (omega arith)) ∙ take-append-le n (drop a xs) ys (omega (arith, length-drop a xs))

-- within what a list begins with
part_front : (n a b : ℕ) (l : List Float) → a + n ≤ b → b ≤ length l → take n (drop a l) ≡ take n (drop a (take b l))
part_front n a b l h k =
    ap (λ (x : List Float). take n (drop a x)) (sym (take-append-drop b l)) ∙ part_left n a (take b l) (drop b l) (omega (arith, length-take-le b l k))

-- ---- a table in its place

module _ (n : ℕ) (memory : List Float) (p : ℕ) (t : List Float) (same : length t ≡ n) (fits : p * n + n ≤ length memory) where
  first_part : length (take (p * n) memory) ≡ p * n
  first_part = length-take-le (p * n) memory (omega (arith, fits))

  head_long : length (take (p * n) memory ++ take n t) ≡ p * n + n
  head_long = length_paste_head memory (p * n) t n (omega (arith, fits)) (omega (arith, same))

  pub stored_length : length (stored n memory p t) ≡ length memory
  stored_length = length-paste memory (p * n) t n fits (omega (arith, same))

  -- what was stored is read back
  pub stored_here : table_at n (stored n memory p t) p ≡ t
  stored_here =
      part_left n (p * n) (take (p * n) memory ++ take n t) (drop (p * n + n) memory) (le_of_eq (sym head_long))
      ∙ ap (take n) (drop_at (take (p * n) memory) (take n t) (p * n) first_part)
      ∙ ap (λ (k : ℕ). take k (take k t)) (sym same)
      ∙ ap (take (length t)) (take-length t)
      ∙ take-length t

  -- and the other places are as they were
  before_it : (q : ℕ) → q < p → table_at n (stored n memory p t) q ≡ table_at n memory q
  before_it q h =
      let k = place_in n p q h in
      part_left n (q * n) (take (p * n) memory ++ take n t) (drop (p * n + n) memory) (omega (arith, k, head_long))
      ∙ part_left n (q * n) (take (p * n) memory) (take n t) (omega (arith, k, first_part))
      ∙ sym (part_front n (q * n) (p * n) memory k (omega (arith, fits)))

  behind_it : (q : ℕ) → p < q → table_at n (stored n memory p t) q ≡ table_at n memory q
  behind_it q h =
      let k = place_in n q p h in
      let m = q * n - (p * n + n) in
      let e : p * n + n + m ≡ q * n = omega (arith, k) in
      let back : (l : List Float) → drop (q * n) l ≡ drop m (drop (p * n + n) l) = λ l. ap (λ (j : ℕ). drop j l) (sym e) ∙ sym (drop-drop m (p * n + n) l) in
      ap (take n) (back (stored n memory p t) ∙ ap (drop m) (drop-paste memory (p * n) t n (omega (arith, fits)) (omega (arith, same))) ∙ sym (back memory))

  pub stored_else : (q : ℕ) → (q ≡ p → ⊥) → table_at n (stored n memory p t) q ≡ table_at n memory q
  stored_else q ne = elim (decide q p) [ inl h ↦ before_it q h | inr h ↦ behind_it q (omega arith) ]
