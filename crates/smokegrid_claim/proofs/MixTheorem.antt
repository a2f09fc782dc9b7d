-- The density between voxels over what the contracts of the C interface say, proved. Assumes nothing.
use Rattle.std.specs.Prelude.{◌≡◌, refl, List, ℕ, ◌<◌, ℤ, pos, T, get_or, replicate, Float}
use Rattle.std.proofs.Common.{sym, ap, ◌∙◌, subst}
use Rattle.std.specs.Float.Ieee.{le}
use Rattle.refusals.specs.Results.{Result, ok, number_of, value_or}
use Rattle.float.specs.Zero.{+0}
use Rattle.layout.specs.Bytes.{Bytes}
use Rattle.layout.specs.Walk.{voxel}
use Rattle.sparse_grid.specs.Tables.{Grid}
use Rattle.cells.specs.Cells.{cell_count}
use Rattle.medium.specs.Medium.{Medium, Point}
use Rattle.medium.specs.Record.{cells_of}
use Rattle.medium.specs.Alike.{Alike}
use Rattle.nanovdb.specs.Decode.{Accepted, decode_density, medium_of, medium_at}
use Rattle.nanovdb.specs.Lent.{Lent, places_of, decode_into}
use Rattle.nanovdb.proofs.UsedLaws.{accepts}
use Rattle.majorant.proofs.Accepted as Built
use Rattle.mix.specs.Density.{density_by, density_at}
use Rattle.mix.specs.Bounded.{ceiling, Mixed}
use Rattle.claim.specs.Claim.{Encloses, Inside}
use Rattle.claim.proofs.ContractLaws.{same_medium}
use Rattle.claim.proofs.MixTheorem.{demand_a7}
use Rattle.smokegrid.specs.Flat.{floats_of, medium_from}
use Rattle.smokegrid.specs.FlatMix.{mix_flat}
use Rattle.smokegrid.specs.Promises.{Left, Builds, MixesAt}
use Rattle.smokegrid_claim.specs.ThroughC.{used}
use Rattle.smokegrid_claim.specs.MixThroughC.{MixKept, MixThroughC}
use Rattle.smokegrid_claim.proofs.Theorem.{flat_build}
use Rattle.smokegrid_claim.proofs.Back.{flat, left_is, used_back, medium_alike}

-- the medium of 18 numbers alone: corners and cells play no part
abbrev bare : List Float → Medium
bare m = medium_from m (replicate 6 (pos 0)) (replicate 3 0)

bare_alike : (m : List Float) (corners : List ℤ) (n : List ℕ) → Alike (medium_from m corners n) (bare m)
bare_alike m corners n = record { low = refl; high = refl; map = refl; translation = refl }

-- a decode leaves 18 numbers
flat_mix : (b : List ℕ) (g : Grid) (p : Point) → mix_flat g (floats_of (medium_of b)) p ≡ density_at g (bare (floats_of (medium_of b))) p
unfolding mix_flat medium_of medium_at
flat_mix b g p = refl

module _ (b : List ℕ) (bytes : Bytes b) (l : Lent) (t : Accepted) (e : decode_into decode_density b l ≡ ok t) where
  asked : (g : Grid) (p : Point) → mix_flat g (floats_of t.medium) p ≡ density_at g (bare (floats_of t.medium)) p
  asked g p =
      subst (λ (m : Medium). mix_flat g (floats_of m) p ≡ density_at g (bare (floats_of m)) p) (sym (same_medium b bytes l t e)) (flat_mix b g p)

  kept : (corners : List ℤ) (n : List ℕ) (places built : ℕ) (table : List Float)
      → Builds t.grid (floats_of t.medium) corners n places built table → built ≡ 0
      → (p : Point) → Inside b p → (answer : ℕ) (value : Float) → MixesAt t.grid (floats_of t.medium) p answer value
      → MixKept b (cells_of n) table p answer value
  kept corners n places built table B z p h answer value M =
      let g = t.grid in
      let m = medium_from (floats_of t.medium) corners n in
      let into = flat_build g (floats_of t.medium) corners n places (sym B.number_is ∙ z) in
      let A = Built.accepted g m places (sym (B.number_is ∙ ap number_of into) ∙ z) in
      let filled : table ≡ A.table = B.table_is ∙ ap (value_or (replicate places +0)) (into ∙ A.into) in
      let S = demand_a7 b bytes (places_of l) t (accepts b l t e) m (medium_alike b bytes l t e corners n) places A.table A.into p h in
      let gives = asked g p ∙ S.answered (bare (floats_of t.medium)) (bare_alike (floats_of t.medium) corners n) in
      let is : value ≡ S.density = M.value_is ∙ ap (value_or +0) gives in
      record {
        number_is = M.number_is ∙ ap number_of gives;
        walked = S.walked ∙ ap ok (sym is);
        bounded =
            subst (λ (v : Float). (k : ℕ) → k < cell_count (cells_of n) → Encloses b (cells_of n) k p → T (le (get_or table k +0) ceiling)
            → Mixed (get_or table k +0) v) (sym is)
            (subst (λ (f : List Float). (k : ℕ) → k < cell_count (cells_of n) → Encloses b (cells_of n) k p → T (le (get_or f k +0) ceiling)
            → Mixed (get_or f k +0) S.density) (sym filled) S.bounded);
      }

pub mix_through_c : MixThroughC
mix_through_c b bytes lent arrays number left d z corners n places built table =
    let F = flat b lent arrays (sym d.number_is ∙ z) in
    let t = F.accepted in
    let grid = used_back b lent arrays t F.into in
    subst (λ (x : Left). Says (used x) x.medium) (sym (left_is b lent arrays number left d (ok t) F.is))
    (subst (λ (g : Grid). Says g (floats_of t.medium)) (sym grid) (kept b bytes lent t F.into corners n places built table))
  where
    Says : Grid → List Float → Type 0
    Says g m = Builds g m corners n places built table → built ≡ 0
        → (p : Point) → Inside b p → (answer : ℕ) (value : Float) → MixesAt g m p answer value → MixKept b (cells_of n) table p answer value
