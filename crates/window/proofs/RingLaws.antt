-- Laws of the ring: what a store leaves in the other places, and what one table more makes of it. Assumes nothing.
use Rattle.std.specs.Prelude.{◌≡◌, List, [], ◌∷◌, ◌++◌, Bool, true, false, cond, eqb, length, drop, Float}
use Rattle.std.proofs.Math.Path.{refl}
use Rattle.std.proofs.Common.{ap, ◌∙◌, arith, length-append, drop-drop, ne_eqb, eqb-true}
use Prim.Native.Nat.{ℕ, zero, suc, ◌+◌, ◌-◌, ◌*◌, ◌≤◌, ◌<◌}
use Rattle.std.proofs.lemmas.List.{drop-append-le}
use Rattle.std.proofs.lemmas.Bool.{eqb-false}
use Rattle.window.specs.Tables.{last_of}
use Rattle.window.specs.Window.{before, after, table_at, stored, ring}
use Rattle.window.proofs.TableLaws.{stored_here, stored_else}

-- ---- places

before_suc : (w p : ℕ) → before w (suc p) ≡ p
before_suc w p =
    let e : suc p - 1 ≡ p = omega arith in
    ap (λ (t : Bool). cond t (w - 1) (suc p - 1)) (ne_eqb (suc p) 0 (λ (z : suc p ≡ 0). omega arith)) ∙ e

pub before_in : (w p : ℕ) → p < w → before w p < w
before_in w zero h = omega arith
before_in w (suc p) h = omega (arith, before_suc w p)

pub after_in : (w p : ℕ) → p < w → after w p < w
after_in w p h = go (eqb (p + 1) w) refl
  where
    go : (t : Bool) → eqb (p + 1) w ≡ t → cond t 0 (p + 1) < w
    go true e = omega arith
    go false e = omega (arith, eqb-false (p + 1) w e)

-- the place before the one after p is p
pub before_after : (w p : ℕ) → p < w → before w (after w p) ≡ p
before_after w p h = go (eqb (p + 1) w) refl
  where
    go : (t : Bool) → eqb (p + 1) w ≡ t → before w (cond t 0 (p + 1)) ≡ p
    go true e = omega (arith, eqb-true (p + 1) w e)
    go false e = ap (λ (t : Bool). cond t (w - 1) (p + 1 - 1)) (ne_eqb (p + 1) 0 (λ (z : p + 1 ≡ 0). omega arith)) ∙ omega arith

-- ---- the tables before a place

pub ring_length : (n w : ℕ) (m : List Float) (k p : ℕ) → length (ring n w m k p) ≡ k
unfolding ring
ring_length n w m zero p = refl
ring_length n w m (suc k) p = length-append (ring n w m k (before w p)) _ ∙ omega (arith, ring_length n w m k (before w p))

-- the oldest is the first
pub ring_rest : (n w : ℕ) (m : List Float) (k p : ℕ) → drop 1 (ring n w m (suc k) p) ≡ ring n w m k p
unfolding ring
ring_rest n w m zero p = refl
ring_rest n w m (suc k) p =
    let older = ring n w m (suc k) (before w p) in
    drop-append-le 1 older (table_at n m (before w p) ∷ []) (omega (arith, ring_length n w m (suc k) (before w p)))
    ∙ ap (λ (l : List (List Float)). l ++ (table_at n m (before w p) ∷ [])) (ring_rest n w m k (before w p))

-- two memories that differ in place p alone
module _ (n w : ℕ) (m m' : List Float) (p : ℕ) (other : (q : ℕ) → (q ≡ p → ⊥) → table_at n m' q ≡ table_at n m q) where
  -- the places down to the one after p
  above_same : (k q : ℕ) → p + k < q → ring n w m' k q ≡ ring n w m k q
  unfolding ring
  above_same zero q h = refl
  above_same (suc k) zero h = absurd (omega arith)
  above_same (suc k) (suc q) h =
      let b = before w (suc q) in
      let e : b ≡ q = before_suc w q in
      λ i. above_same k b (omega arith) i ++ (other b (λ (z : b ≡ p). omega arith) i ∷ [])

  -- round to the one after p
  round_same : (k q : ℕ) → q ≤ p → k + p < q + w → ring n w m' k q ≡ ring n w m k q
  unfolding ring
  round_same zero q l h = refl
  round_same (suc k) zero l h = λ i. above_same k (w - 1) (omega arith) i ++ (other (w - 1) (λ (e : w - 1 ≡ p). omega arith) i ∷ [])
  round_same (suc k) (suc q) l h =
      let b = before w (suc q) in
      let e : b ≡ q = before_suc w q in
      λ i. round_same k b (omega arith) (omega arith) i ++ (other b (λ (z : b ≡ p). omega arith) i ∷ [])

  -- fewer than w places before p
  pub ring_same : (k : ℕ) → k < w → ring n w m' k p ≡ ring n w m k p
  ring_same k h = round_same k p (omega arith) (omega arith)

-- one table more, in place p: it, and the k before p
pub ring_more : (n w : ℕ) (m : List Float) (p : ℕ) (t : List Float) → length t ≡ n → p * n + n ≤ length m → p < w → (k : ℕ) → k < w
    → ring n w (stored n m p t) (suc k) (after w p) ≡ ring n w m k p ++ (t ∷ [])
unfolding ring
ring_more n w m p t long fits h k l =
    let m' = stored n m p t in
    ap (λ (q : ℕ). ring n w m' k q ++ (table_at n m' q ∷ [])) (before_after w p h)
    ∙ (λ i. ring_same n w m m' p (stored_else n m p t long fits) k l i ++ (stored_here n m p t long fits i ∷ []))

-- ---- the last of a list

-- one table more: the last w - 1 and it
pub last_more : {A : Type 0} (w : ℕ) (l : List A) (a : A) → last_of (suc w) (l ++ (a ∷ [])) ≡ last_of w l ++ (a ∷ [])
last_more w l a =
    let e : length (l ++ (a ∷ [])) - suc w ≡ length l - w = omega (arith, length-append l (a ∷ [])) in
    ap (λ (k : ℕ). drop k (l ++ (a ∷ []))) e ∙ drop-append-le (length l - w) l (a ∷ []) (omega arith)

-- the last w of a longer list without the first of them are the last w - 1
pub last_rest : {A : Type 0} (w : ℕ) (l : List A) → suc w ≤ length l → drop 1 (last_of (suc w) l) ≡ last_of w l
last_rest w l h =
    let e : length l - suc w + 1 ≡ length l - w = omega arith in
    drop-drop 1 (length l - suc w) l ∙ ap (λ (k : ℕ). drop k l) e

-- all of a shorter list
pub last_short : {A : Type 0} (w : ℕ) (l : List A) → length l ≤ w → last_of (suc w) l ≡ last_of w l
last_short w l h = let e : length l - suc w ≡ length l - w = omega arith in ap (λ (k : ℕ). drop k l) e
