-- What a decode leaves behind C's pointers is read back as it was: the used parts are the accepted grid, and the medium is the
-- accepted one. Assumes nothing.
use Rattle.std.specs.Prelude.{◌≡◌, refl, List, ℕ, zero, suc, ℤ}
use Rattle.std.proofs.Common.{sym, ap, ◌∙◌, subst, arith}
use Rattle.refusals.specs.Results.{Result, ok, refused, number_of}
use Rattle.refusals.specs.Faults.{passing}
use Rattle.layout.specs.Bytes.{Bytes}
use Rattle.medium.specs.Medium.{Medium}
use Rattle.nanovdb.specs.Decode.{Accepted, decode_density, medium_of, medium_at}
use Rattle.nanovdb.specs.Lent.{Lent, decode_into, left_of}
use Rattle.nanovdb.proofs.Numbers.{Numbered, numbered, not_zero}
use Rattle.nanovdb.proofs.UsedLaws.{used_parts, used_room}
use Rattle.medium.specs.Alike.{Alike}
use Rattle.claim.proofs.ContractLaws.{same_medium}
use Rattle.smokegrid.specs.Flat.{floats_of, corners_of, numbers_of, medium_from, Arrays, flat_fault, decode_flat}
use Rattle.smokegrid.specs.Flat.{counts_left, background_left, medium_left, corners_left, cells_left}
use Rattle.smokegrid.specs.Promises.{Left, Decodes}
use Rattle.smokegrid.proofs.Back.{medium_back}
use Rattle.smokegrid_claim.specs.ThroughC.{used, Fits}

-- ---- the decode

pub record Flat (b : List ℕ) (l : Lent) (a : Arrays) : Type 0 where
  pub accepted : Accepted
  pub is : decode_flat b l a ≡ ok accepted
  pub into : decode_into decode_density b l ≡ ok accepted

-- 0 is the number of an accepted grid alone
pub flat : (b : List ℕ) (l : Lent) (a : Arrays) → number_of (decode_flat b l a) ≡ 0 → Flat b l a
unfolding decode_flat
flat b l a z =
    let (t, is, into) = go (flat_fault a) (decode_into decode_density b l) (numbered b l) z in
    record { accepted = t; is = is; into = into }
  where
    go : (n : ℕ) (r : Result Accepted) → Numbered r → number_of (passing n r) ≡ 0 → (t : Accepted) × (passing n r ≡ ok t) × (r ≡ ok t)
    go zero (ok t) h z = (t, refl, refl)
    go zero (refused n) h z = absurd (not_zero h z)
    go (suc n) r h z = absurd (omega arith)

-- what is left of a decode that gave r
abbrev pub left_after : Lent → Arrays → Result Accepted → Left
left_after l a r = record {
  tables = left_of l r;
  counts = counts_left a.counts r;
  background = background_left r;
  medium = medium_left a.medium r;
  corners = corners_left a.corners r;
  cells = cells_left a.cells r;
}

pub left_is : (b : List ℕ) (l : Lent) (a : Arrays) (number : ℕ) (left : Left) → Decodes b l a number left
    → (r : Result Accepted) → decode_flat b l a ≡ r → left ≡ left_after l a r
left_is b l a number left d r e =
    (λ i. record {
      tables = d.tables_are i;
      counts = d.counts_are i;
      background = d.background_is i;
      medium = d.medium_is i;
      corners = d.corners_are i;
      cells = d.cells_are i;
    })
    ∙ ap (left_after l a) e

-- ---- the grid, by C's four counts

pub used_back : (b : List ℕ) (l : Lent) (a : Arrays) (t : Accepted) → decode_into decode_density b l ≡ ok t → used (left_after l a (ok t)) ≡ t.grid
used_back b l a t e = used_parts b l t e

pub fits_back : (b : List ℕ) (l : Lent) (a : Arrays) (t : Accepted) → decode_into decode_density b l ≡ ok t → Fits (left_after l a (ok t))
fits_back b l a t e =
    let u = used_room b l t e in
    record {
      blocks = u.blocks;
      root_links = u.root_links;
      root_values = u.root_values;
      upper_links = u.upper_links;
      upper_values = u.upper_values;
      lower_links = u.lower_links;
      lower_values = u.lower_values;
      leaf_values = u.leaf_values;
    }

-- ---- the medium, by C's 18 numbers, 6 corners and 3 numbers of cells

alike : (b : List ℕ) (corners : List ℤ) (n : List ℕ) → Alike (medium_of b) (medium_from (floats_of (medium_of b)) corners n)
unfolding medium_of medium_at
alike b corners n = record { low = refl; high = refl; map = refl; translation = refl }

module _ (b : List ℕ) (bytes : Bytes b) (l : Lent) (t : Accepted) (e : decode_into decode_density b l ≡ ok t) where
  pub medium_read : medium_from (floats_of t.medium) (corners_of t.medium) (numbers_of t.medium.cells) ≡ t.medium
  medium_read =
      subst (λ (m : Medium). medium_from (floats_of m) (corners_of m) (numbers_of m.cells) ≡ m) (sym (same_medium b bytes l t e)) (medium_back b)

  -- with any corners of the index box and any numbers of cells the rest is read back
  pub medium_alike : (corners : List ℤ) (n : List ℕ) → Alike t.medium (medium_from (floats_of t.medium) corners n)
  medium_alike corners n =
      subst (λ (m : Medium). Alike m (medium_from (floats_of m) corners n)) (sym (same_medium b bytes l t e)) (alike b corners n)
