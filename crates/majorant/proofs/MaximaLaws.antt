-- The maxima of an accepted list of boxes: each is the single call's answer, and the greatest of them is the greatest of +0 and the voxels that lie
-- in some box of the list. Assumes nothing.
use Rattle.std.specs.Prelude.{◌≡◌, ℕ, zero, suc, ◌+◌, ◌*◌, ◌<◌, ◌⊎◌, List, [], ◌∷◌, ◌++◌, length, get_or, ℤ, ◌==◌, slice_index_or}
use Rattle.std.proofs.Common.{not-suc-le-zero, ◌∙◌, inr}
use native.Mathlib.Omega.{arith}
use Rattle.std.proofs.Math.Path.{refl, sym, ap, subst}
use Rattle.std.proofs.Math.Logic.{inl}
use Rattle.std.proofs.Math.ListN.{length-append, get_or-append}
use Rattle.std.proofs.Math.Seq.{get_or_at}
use Rattle.std.specs.Float.Ieee.{Float}
use Rattle.refusals.specs.Results.{Result, ok, refused, bind, number_of}
use Rattle.refusals.specs.ResultLaws.{ok_injective}
use Rattle.refusals.specs.Faults.{◌then◌, unless, passing}
use Rattle.refusals.specs.FaultLaws.{then_zero, passing_ok}
use Rattle.float.specs.Zero.{+0}
use Rattle.layout.specs.Coordinates.{Coord}
use Rattle.sparse_grid.specs.Tables.{Grid}
use Rattle.sparse_grid.specs.Validate.{validate}
use Rattle.sparse_grid.specs.Lookup.{read_in}
use Rattle.sparse_grid.specs.Count.{split_lt}
use Rattle.boxes.specs.Boxes.{Box, In, InSome, GreatestOver, greater, box_maximum}
use Rattle.boxes.proofs.Maximum.{greatest}
use Rattle.boxes.proofs.Greatest.{over_two}
use Rattle.majorant.specs.Build.{public_maximum}
use Rattle.majorant.specs.Maxima.{box_at, maxima_of, maxima_into, greatest_from, greatest_of, greatest_into}

-- ---- one box more

pub greatest_more : (m : Float) (l : List Float) (v : Float) → greatest_from m (l ++ (v ∷ [])) ≡ greater (greatest_from m l) v
unfolding greatest_from
greatest_more m [] v = refl
greatest_more m (x ∷ l) v = greatest_more (greater m x) l v

module _ (maximum : Box → Float) (boxes : List ℤ) where
  pub maxima_length : (n : ℕ) → length (maxima_of maximum boxes n) ≡ n
  unfolding maxima_of
  maxima_length zero = refl
  maxima_length (suc n) =
      length-append (maxima_of maximum boxes n) (maximum (box_at boxes n) ∷ []) ∙ (let e = maxima_length n in omega arith)

  maxima_at : (n i : ℕ) → i < n → slice_index_or (maxima_of maximum boxes n) i +0 ≡ maximum (box_at boxes i)
  unfolding maxima_of
  maxima_at zero i l = absurd (not-suc-le-zero l)
  maxima_at (suc n) i l =
      let e = maxima_length n in
      split_lt i n
      (λ k. get_or-append (maxima_of maximum boxes n) (maximum (box_at boxes n) ∷ []) +0 i (omega arith) ∙ maxima_at n i k)
      (λ k. let q : n ≡ i = omega arith in
      get_or_at (maxima_of maximum boxes n) (maximum (box_at boxes n)) [] +0 i (e ∙ q) ∙ ap (λ (j : ℕ). maximum (box_at boxes j)) q)

-- ---- the greatest of the boxes together

module _ (read : Coord → Float) (boxes : List ℤ) where
  some_more : (n : ℕ) (c : Coord) → InSome (box_at boxes) (suc n) c → InSome (box_at boxes) n c ⊎ In (box_at boxes n) c
  some_more n c w =
      split_lt w.0 n (λ k. inl (w.0, k, w.2))
      (λ k. let q : w.0 ≡ n = omega (arith, w.1) in inr (subst (λ (i : ℕ). In (box_at boxes i) c) q w.2))

  pub maxima_greatest : (n : ℕ) → GreatestOver read (InSome (box_at boxes) n) (greatest_of (maxima_of (box_maximum read) boxes n))
  unfolding maxima_of greatest_from
  maxima_greatest zero = record { covers = λ c w. absurd (not-suc-le-zero w.1); reached = inl refl }
  maxima_greatest (suc n) =
      subst (GreatestOver read (InSome (box_at boxes) (suc n)))
      (sym (greatest_more +0 (maxima_of (box_maximum read) boxes n) (box_maximum read (box_at boxes n))))
      (over_two read (InSome (box_at boxes) n) (In (box_at boxes n)) (InSome (box_at boxes) (suc n))
      (λ c w. (w.0, omega (arith, w.1), w.2)) (λ c i. (n, omega arith, i)) (some_more n)
      (maxima_greatest n) (greatest read (box_at boxes n)))

-- ---- the number of the list

-- with the greatest comes the list's own number
pub one_number : (g : Grid) (boxes : List ℤ) (n : ℕ) → number_of (greatest_into g boxes n) ≡ number_of (maxima_into g boxes n)
unfolding greatest_into
one_number g boxes n = go (maxima_into g boxes n)
  where
    go : (r : Result (List Float)) → number_of (bind r (λ (l : List Float). ok (greatest_of l))) ≡ number_of r
    go (ok l) = refl
    go (refused k) = refl

-- ---- an accepted list

module _ (g : Grid) (boxes : List ℤ) (n : ℕ) {l : List Float} (a : maxima_into g boxes n ≡ ok l) where
  parts : ((unless (length boxes == 6 * n) 18 then validate g) ≡ 0) × (maxima_of (box_maximum (read_in g)) boxes n ≡ l)
  unfolding maxima_into
  parts =
      let p = passing_ok (unless (length boxes == 6 * n) 18 then validate g) (ok (maxima_of (box_maximum (read_in g)) boxes n)) a in
      (p.0, ok_injective p.1)

  pub list_length : length l ≡ n
  list_length = ap length (sym parts.1) ∙ maxima_length (box_maximum (read_in g)) boxes n

  -- each is the single call's answer
  pub list_each : (i : ℕ) → i < n → public_maximum g (box_at boxes i) ≡ ok (slice_index_or l i +0)
  unfolding public_maximum
  list_each i h =
      let valid = (then_zero (unless (length boxes == 6 * n) 18) (validate g) parts.0).1 in
      let value = sym (maxima_at (box_maximum (read_in g)) boxes n i h) ∙ ap (λ (t : List Float). get_or t i +0) parts.1 in
      λ j. passing (valid j) (ok (value j))

  -- the greatest is that of the boxes together
  pub list_greatest : (r : Float) → greatest_into g boxes n ≡ ok r → GreatestOver (read_in g) (InSome (box_at boxes) n) r
  unfolding greatest_into
  list_greatest r e =
      let listed : Result (List Float) → Result Float = λ x. bind x (λ (l : List Float). ok (greatest_of l)) in
      let q : greatest_of l ≡ r = ok_injective (ap listed (sym a) ∙ e) in
      subst (GreatestOver (read_in g) (InSome (box_at boxes) n)) (ap greatest_of parts.1 ∙ q) (maxima_greatest (read_in g) boxes n)
