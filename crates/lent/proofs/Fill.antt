-- A loop that fills a list of any type from the front (borrow.Author.Fill has it at ℕ alone).
use mathlib.Core.Path.{◌≡◌, refl, ap, ◌∙◌}
use mathlib.Core.List.{List, [], ◌∷◌, ◌++◌, append-nil}
use Prim.Native.Nat.{ℕ, zero, suc, ◌+◌, ◌<◌, ◌≤◌}
use native.Mathlib.Nat.{not-suc-le-zero, le_of_suc-le-suc}
use native.Mathlib.Numerals.{add-one}
use native.Mathlib.Omega.{arith}
use lib.ListN.{length, set, drop, replicate, length-set, drop_of_length-le}

module _ {A : Type 0} where
  -- s is d with its first n elements set to v
  pub record Filled (v : A) (d : List A) (n : ℕ) (s : List A) : Type 0 where
    pub within : n ≤ length d
    pub same : length s ≡ length d
    pub filled : s ≡ replicate n v ++ drop n d

  pub fill_none : {v : A} {d : List A} → Filled v d 0 d
  fill_none = record { within = omega arith; same = refl; filled = refl }

  fill_suc : (n : ℕ) (v : A) (d : List A) → n < length d → set (replicate n v ++ drop n d) n v ≡ replicate (suc n) v ++ drop (suc n) d
  fill_suc n v [] l = absurd (not-suc-le-zero l)
  fill_suc zero v (x ∷ d) l = refl
  fill_suc (suc n) v (x ∷ d) l = ap (λ (t : List A). v ∷ t) (fill_suc n v d (le_of_suc-le-suc l))

  -- one store more, at n
  pub fill_more : {v : A} {d : List A} {n : ℕ} {s : List A} → Filled v d n s → n < length s → Filled v d (n + 1) (set s n v)
  fill_more {v} {d} {n} f l =
      let h : n < length d = omega (arith, f.same) in
      record {
        within = omega arith;
        same = simp length-set f.same;
        filled = rw (f.filled, add-one) (fill_suc n v d h);
      }

  -- filled to its end
  pub fill_all : {v : A} {d : List A} {n : ℕ} {s : List A} → Filled v d n s → length s ≤ n → s ≡ replicate (length d) v
  fill_all {v} {d} {n} f l =
      let z : drop n d ≡ [] = drop_of_length-le d {i = n} (omega (arith, f.same)) in
      let e : n ≡ length d = omega (arith, f.same, f.within) in
      f.filled ∙ rw z (append-nil _ ∙ ap (λ (k : ℕ). replicate k v) e)
