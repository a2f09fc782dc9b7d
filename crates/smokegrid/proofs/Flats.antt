-- What a function with flat arrays comes to: 18 where a length is another, and otherwise what the function on records answers; and each promise, of
-- an answer r that is what the definition gives. Assumes nothing.
use Rattle.std.specs.Prelude.{◌≡◌, ℕ, Bool, true, false, ◌&&◌, eqb, List, ℤ, pos, length, replicate, Float}
use Rattle.std.proofs.Common.{sym, ap, ◌∙◌}
use Rattle.refusals.specs.Results.{Result, refused, number_of, value_or}
use Rattle.refusals.specs.Faults.{unless, passing}
use Rattle.float.specs.Zero.{+0}
use Rattle.sparse_grid.specs.Tables.{Grid}
use Rattle.medium.specs.Medium.{Point}
use Rattle.index.specs.Answers.{index_bits}
use Rattle.boxes.specs.Boxes.{Box}
use Rattle.majorant.specs.Build.{build_into}
use Rattle.majorant.specs.Counted.{Read, unread, public_counted}
use Rattle.majorant.specs.Maxima.{maxima_into, greatest_into}
use Rattle.majorant.proofs.MaximaLaws.{one_number}
use Rattle.mix.specs.Density.{density_at}
use Rattle.walk.specs.Classes.{public_counts}
use Rattle.smokegrid.specs.Flat.{medium_from, index_flat, build_flat}
use Rattle.smokegrid.specs.FlatClasses.{classes_flat}
use Rattle.smokegrid.specs.FlatCounted.{counted_flat, counts_after}
use Rattle.smokegrid.specs.FlatMix.{mix_flat}
use Rattle.smokegrid.specs.Promises.{WorldToIndex, MixesAt, Builds, BoxMaxima, CountsBox, CountsClasses}

module _ {A : Type 0} {b : Bool} (r : Result A) where
  pub stops : b ≡ false → refused 18 ≡ passing (unless b 18) r
  stops e = sym (ap (λ (t : Bool). passing (unless t 18) r) e)

  pub goes : b ≡ true → r ≡ passing (unless b 18) r
  goes e = sym (ap (λ (t : Bool). passing (unless t 18) r) e)

-- ---- an index position
module _ (m : List Float) (p : Point) (n : ℕ) where
  abbrev position : Result (List ℕ)
  position = index_bits (medium_from m (replicate 6 (pos 0)) (replicate 3 0)) p

  pub index_stops : (eqb (length m) 18 && eqb n 3) ≡ false → refused 18 ≡ index_flat m p n
  unfolding index_flat
  index_stops = stops position

  pub index_goes : (eqb (length m) 18 && eqb n 3) ≡ true → position ≡ index_flat m p n
  unfolding index_flat
  index_goes = goes position

  pub index_out : {r : Result (List ℕ)} {k : ℕ} {bits : List ℕ} → r ≡ index_flat m p n → k ≡ number_of r → bits ≡ value_or (replicate n 0) r
      → WorldToIndex m p n k bits
  index_out e k b = record { number_is = k ∙ ap number_of e; bits_are = b ∙ ap (value_or (replicate n 0)) e }

-- ---- a density
module _ (g : Grid) (l : List Float) (p : Point) where
  abbrev density : Result Float
  density = density_at g (medium_from l (replicate 6 (pos 0)) (replicate 3 0)) p

  pub mix_stops : eqb (length l) 18 ≡ false → refused 18 ≡ mix_flat g l p
  unfolding mix_flat
  mix_stops = stops density

  pub mix_goes : eqb (length l) 18 ≡ true → density ≡ mix_flat g l p
  unfolding mix_flat
  mix_goes = goes density

  pub mix_out : {r : Result Float} {k : ℕ} {v : Float} → r ≡ mix_flat g l p → k ≡ number_of r → v ≡ value_or +0 r → MixesAt g l p k v
  mix_out e k v = record { number_is = k ∙ ap number_of e; value_is = v ∙ ap (value_or +0) e }

-- ---- a build
module _ (g : Grid) (m : List Float) (c : List ℤ) (k : List ℕ) (n : ℕ) where
  pub build_stops : (eqb (length m) 18 && eqb (length c) 6 && eqb (length k) 3) ≡ false → refused 18 ≡ build_flat g m c k n
  unfolding build_flat
  build_stops = stops (build_into g (medium_from m c k) n)

  pub build_goes : (eqb (length m) 18 && eqb (length c) 6 && eqb (length k) 3) ≡ true → build_into g (medium_from m c k) n ≡ build_flat g m c k n
  unfolding build_flat
  build_goes = goes (build_into g (medium_from m c k) n)

  pub build_out : {r : Result (List Float)} {number : ℕ} {table : List Float} → r ≡ build_flat g m c k n → number ≡ number_of r
      → table ≡ value_or (replicate n +0) r → Builds g m c k n number table
  build_out e a t = record { number_is = a ∙ ap number_of e; table_is = t ∙ ap (value_or (replicate n +0)) e }

-- ---- the maxima of a list
pub list_out : (g : Grid) (boxes : List ℤ) (n : ℕ) {r : Result Float} {k : ℕ} {v : Float} {maxima : List Float} → r ≡ greatest_into g boxes n → k ≡ number_of r
    → v ≡ value_or +0 r → maxima ≡ value_or (replicate n +0) (maxima_into g boxes n) → BoxMaxima g boxes n k maxima v
list_out g boxes n e k v m = record {
  number_is = k ∙ ap number_of e ∙ one_number g boxes n;
  maxima_are = m;
  greatest_is = v ∙ ap (value_or +0) e;
}

-- ---- a counted box maximum
module _ (g : Grid) (x : Box) (n : ℕ) where
  pub counted_stops : eqb n 5 ≡ false → refused 18 ≡ counted_flat g x n
  unfolding counted_flat
  counted_stops = stops (public_counted g x)

  pub counted_goes : eqb n 5 ≡ true → public_counted g x ≡ counted_flat g x n
  unfolding counted_flat
  counted_goes = goes (public_counted g x)

  pub counted_out : {r : Result Read} {k : ℕ} {v : Float} {l : List ℕ} → r ≡ counted_flat g x n → k ≡ number_of r → v ≡ (value_or unread r).maximum
      → l ≡ counts_after n r → CountsBox g x n k v l
  counted_out e k v l = record {
    number_is = k ∙ ap number_of e;
    value_is = v ∙ ap (λ (r : Result Read). (value_or unread r).maximum) e;
    counts_are = l ∙ ap (counts_after n) e;
  }

-- ---- the classes of a box
module _ (g : Grid) (limits : List Float) (x : Box) (n : ℕ) where
  pub classes_stops : eqb n 17 ≡ false → refused 18 ≡ classes_flat g limits x n
  unfolding classes_flat
  classes_stops = stops (public_counts g limits x)

  pub classes_goes : eqb n 17 ≡ true → public_counts g limits x ≡ classes_flat g limits x n
  unfolding classes_flat
  classes_goes = goes (public_counts g limits x)

  pub classes_out : {r : Result (List ℕ)} {k : ℕ} {l : List ℕ} → r ≡ classes_flat g limits x n → k ≡ number_of r → l ≡ value_or (replicate n 0) r
      → CountsClasses g limits x n k l
  classes_out e k l = record { number_is = k ∙ ap number_of e; counts_are = l ∙ ap (value_or (replicate n 0)) e }
