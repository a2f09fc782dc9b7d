-- What `smokegrid_decode_density_grid` leaves, from what the decode answers. Assumes nothing.
use mathlib.Core.Path.{◌≡◌, refl, sym, ap, ◌∙◌}
use mathlib.Core.List.{List}
use mathlib.Core.Bool.{◌&&◌}
use Prim.Native.Nat.{ℕ, zero, suc}
use lib.Dec.{eqb, eqb→eq}
use lib.IntN.{ℤ, pos}
use lib.ListN.{replicate}
use lib.Ieee.{Float}
use Rattle.refusals.specs.Results.{Result, ok, refused, number_of}
use Rattle.refusals.specs.Faults.{passing}
use Rattle.refusals.specs.FaultLaws.{unless_zero}
use Rattle.refusals.specs.TestLaws.{and_l, and_r}
use Rattle.float.specs.Zero.{+0}
use Rattle.nanovdb.specs.Decode.{Accepted, decode_density}
use Rattle.nanovdb.specs.Lent.{Lent, Answer, answer_of, left_of, zeros, decode_into}
use Rattle.smokegrid.specs.Flat.{counts_of, floats_of, corners_of, numbers_of, Arrays, flat_fault, decode_flat}
use Rattle.smokegrid.specs.Flat.{counts_left, background_left, medium_left, corners_left, cells_left}
use Rattle.smokegrid.specs.Promises.{Left, Decodes}

-- the arrays have their lengths where there is no fault
pub record Sized (a : Arrays) : Type 0 where
  pub counts_is : a.counts ≡ 4
  pub medium_is : a.medium ≡ 18
  pub corners_is : a.corners ≡ 6
  pub cells_is : a.cells ≡ 3

sized : (a : Arrays) → flat_fault a ≡ 0 → Sized a
sized a e =
    let c = eqb a.counts 4 in
    let m = eqb a.medium 18 in
    let k = eqb a.corners 6 in
    let n = eqb a.cells 3 in
    let all = unless_zero (c && m && k && n) 17 e in
    let three = and_l (c && m && k) n all in
    let two = and_l (c && m) k three in
    record {
      counts_is = eqb→eq a.counts 4 (and_l c m two);
      medium_is = eqb→eq a.medium 18 (and_r c m two);
      corners_is = eqb→eq a.corners 6 (and_r (c && m) k three);
      cells_is = eqb→eq a.cells 3 (and_r (c && m && k) n all);
    }

-- ---- from the decode's answer

pub number_is : (r : Result Accepted) → (answer_of r).number ≡ number_of r
number_is (ok t) = refl
number_is (refused n) = refl

pub counts_of_lem : (n : ℕ) (r : Result Accepted) → n ≡ 4 → counts_of (answer_of r) ≡ counts_left n r
counts_of_lem n (ok t) e = refl
counts_of_lem n (refused k) e = ap (λ (x : ℕ). counts_left x (refused k)) (sym e)

medium_of_lem : (n : ℕ) (r : Result Accepted) → n ≡ 18 → floats_of (answer_of r).medium ≡ medium_left n r
medium_of_lem n (ok t) e = refl
medium_of_lem n (refused k) e = ap (λ (x : ℕ). medium_left x (refused k)) (sym e)

corners_of_lem : (n : ℕ) (r : Result Accepted) → n ≡ 6 → corners_of (answer_of r).medium ≡ corners_left n r
corners_of_lem n (ok t) e = refl
corners_of_lem n (refused k) e = ap (λ (x : ℕ). corners_left x (refused k)) (sym e)

cells_of : (n : ℕ) (r : Result Accepted) → n ≡ 3 → numbers_of (answer_of r).medium.cells ≡ cells_left n r
cells_of n (ok t) e = refl
cells_of n (refused k) e = ap (λ (x : ℕ). cells_left x (refused k)) (sym e)

-- ---- what C hands over
pub record Handed : Type 0 where
  pub bytes : List ℕ
  pub lent : Lent
  pub arrays : Arrays

abbrev pub fault_of : Handed → ℕ
fault_of h = flat_fault h.arrays

-- the decode, once the flat arrays have their lengths; and the two together
abbrev pub decoded_of : Handed → Result Accepted
decoded_of h = decode_into decode_density h.bytes h.lent

abbrev pub flat_of : Handed → Result Accepted
flat_of h = decode_flat h.bytes h.lent h.arrays

-- the promise of what was handed over
abbrev pub Out : Handed → ℕ → Left → Type 0
Out h number left = Decodes h.bytes h.lent h.arrays number left

stops : (h : Handed) (n : ℕ) → n ≡ fault_of h → (n ≡ 0 → ⊥) → refused n ≡ flat_of h
unfolding decode_flat
stops h zero e off = absurd (off refl)
stops h (suc n) e off = ap (λ (x : ℕ). passing x (decoded_of h)) e

goes : (h : Handed) → fault_of h ≡ 0 → decoded_of h ≡ flat_of h
unfolding decode_flat
goes h e = ap (λ (x : ℕ). passing x (decoded_of h)) (sym e)

module _ (h : Handed) {left : Left} where
  -- a flat array of another length: everything is zeros
  pub out_fault : {n : ℕ} → n ≡ fault_of h → (n ≡ 0 → ⊥) → left.tables ≡ zeros h.lent → left.counts ≡ replicate h.arrays.counts 0
      → left.background ≡ +0 → left.medium ≡ replicate h.arrays.medium +0 → left.corners ≡ replicate h.arrays.corners (pos 0)
      → left.cells ≡ replicate h.arrays.cells 0 → Out h n left
  out_fault {n} is off t c b m k x =
      let s = stops h n is off in
      record {
        number_is = ap number_of s;
        tables_are = t ∙ ap (left_of h.lent) s;
        counts_are = c ∙ ap (counts_left h.arrays.counts) s;
        background_is = b ∙ ap background_left s;
        medium_is = m ∙ ap (medium_left h.arrays.medium) s;
        corners_are = k ∙ ap (corners_left h.arrays.corners) s;
        cells_are = x ∙ ap (cells_left h.arrays.cells) s;
      }

  -- the decode's answer a, put into the flat arrays
  pub out_answer : {a : Answer} {k : ℕ} → k ≡ a.number → fault_of h ≡ 0 → a ≡ answer_of (decoded_of h) → left.tables ≡ left_of h.lent (decoded_of h)
      → left.counts ≡ counts_of a → left.background ≡ a.background → left.medium ≡ floats_of a.medium → left.corners ≡ corners_of a.medium
      → left.cells ≡ numbers_of a.medium.cells → Out h k left
  out_answer {a} k-is fits is t c b m k x =
      let s = goes h fits in
      let z = sized h.arrays fits in
      let d : a ≡ answer_of (flat_of h) = is ∙ ap answer_of s in
      record {
        number_is = k-is ∙ ap (λ (a : Answer). a.number) d ∙ number_is (flat_of h);
        tables_are = t ∙ ap (left_of h.lent) s;
        counts_are = c ∙ ap counts_of d ∙ counts_of_lem h.arrays.counts (flat_of h) z.counts_is;
        background_is = b ∙ ap (λ (a : Answer). a.background) d;
        medium_is = m ∙ ap (λ (a : Answer). floats_of a.medium) d ∙ medium_of_lem h.arrays.medium (flat_of h) z.medium_is;
        corners_are = k ∙ ap (λ (a : Answer). corners_of a.medium) d ∙ corners_of_lem h.arrays.corners (flat_of h) z.corners_is;
        cells_are = x ∙ ap (λ (a : Answer). numbers_of a.medium.cells) d ∙ cells_of h.arrays.cells (flat_of h) z.cells_is;
      }

-- ---- a flat array of zeros has its length
pub zero_counts : (h : Handed) {l : List ℕ} → fault_of h ≡ 0 → l ≡ replicate h.arrays.counts 0 → l ≡ replicate 4 0
zero_counts h fits e = e ∙ ap (λ (n : ℕ). replicate n 0) (sized h.arrays fits).counts_is

pub zero_medium : (h : Handed) {l : List Float} → fault_of h ≡ 0 → l ≡ replicate h.arrays.medium +0 → l ≡ replicate 18 +0
zero_medium h fits e = e ∙ ap (λ (n : ℕ). replicate n +0) (sized h.arrays fits).medium_is

pub zero_corners : (h : Handed) {l : List ℤ} → fault_of h ≡ 0 → l ≡ replicate h.arrays.corners (pos 0) → l ≡ replicate 6 (pos 0)
zero_corners h fits e = e ∙ ap (λ (n : ℕ). replicate n (pos 0)) (sized h.arrays fits).corners_is

pub zero_cells : (h : Handed) {l : List ℕ} → fault_of h ≡ 0 → l ≡ replicate h.arrays.cells 0 → l ≡ replicate 3 0
zero_cells h fits e = e ∙ ap (λ (n : ℕ). replicate n 0) (sized h.arrays fits).cells_is
