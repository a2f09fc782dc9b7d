-- The one claim over what the contracts of the C interface say, proved. Assumes nothing.
use Rattle.std.specs.Prelude.{◌≡◌, refl, List, ◌&&◌, ℕ, ℤ, eqb, length, replicate, Float}
use Rattle.std.proofs.Common.{sym, ap, ◌∙◌, subst}
use Rattle.std.specs.Float.{binary32}
use Rattle.std.specs.Float.Ieee.{to_bits}
use Rattle.refusals.specs.Results.{Result, ok, number_of, value_or}
use Rattle.refusals.specs.Faults.{unless, passing}
use Rattle.float.specs.Zero.{+0}
use Rattle.layout.specs.Bytes.{Bytes}
use Rattle.layout.specs.Coordinates.{Coord, Signed32}
use Rattle.layout.specs.Walk.{voxel}
use Rattle.sparse_grid.specs.Tables.{Grid}
use Rattle.sparse_grid.specs.Lookup.{read_in, value_in}
use Rattle.sparse_grid.specs.Answers.{Spoken, unspoken, level_number}
use Rattle.medium.specs.Medium.{Medium, Point, map_fault}
use Rattle.nanovdb.specs.Decode.{Accepted, decode_density, medium_of, medium_at}
use Rattle.nanovdb.specs.Lent.{Lent, places_of, decode_into}
use Rattle.nanovdb.proofs.Lookups.{reads}
use Rattle.nanovdb.specs.Passed.{density_passed}
use Rattle.nanovdb.proofs.UsedLaws.{accepts}
use Rattle.index.specs.Index.{world_to_index}
use Rattle.index.specs.Answers.{index_bits}
use Rattle.boxes.specs.Boxes.{InSome, GreatestOver, Greatest}
use Rattle.majorant.specs.Maxima.{box_at}
use Rattle.majorant.proofs.MaximaLaws.{maxima_greatest}
use Rattle.majorant.specs.Build.{build_into}
use Rattle.claim.specs.Claim.{Holds}
use Rattle.claim.specs.Promises.{index_of}
use Rattle.claim.proofs.Theorem.{demand3}
use Rattle.claim.proofs.Lists.{listed, listed_greatest}
use Rattle.claim.proofs.ContractLaws.{looked, heard_at, same_medium, figured}
use Rattle.smokegrid.specs.Flat.{floats_of, medium_from, index_flat, build_flat}
use Rattle.smokegrid.specs.Promises.{Left}
use Rattle.smokegrid_claim.specs.ThroughC.{used, Fits, KeepsC, ThroughC}
use Rattle.smokegrid_claim.proofs.Passed.{passed}
use Rattle.smokegrid_claim.proofs.Loads.{load}
use Rattle.smokegrid_claim.proofs.ByClass.{classed}
use Rattle.smokegrid_claim.proofs.Back.{flat, left_is, used_back, fits_back, medium_alike}

-- ---- a build and an index position from flat arrays

pub flat_build : (g : Grid) (m : List Float) (c : List ℤ) (n : List ℕ) (places : ℕ) → number_of (build_flat g m c n places) ≡ 0
    → build_flat g m c n places ≡ build_into g (medium_from m c n) places
unfolding build_flat
flat_build g m c n places z =
    passed (unless (eqb (length m) 18 && eqb (length c) 6 && eqb (length n) 3) 18) (build_into g (medium_from m c n) places) z

-- the position of a medium in the bytes whose map passes; the index box plays no part
flat_index : (b : List ℕ) (p : Point) → map_fault (medium_of b) ≡ 0 → index_flat (floats_of (medium_of b)) p 3 ≡ ok (index_of b p)
unfolding index_flat index_bits medium_of medium_at map_fault world_to_index
flat_index b p e = ap (λ (n : ℕ). passing n (ok (index_of b p))) e

-- ---- the accepted grid and its medium

module _ (b : List ℕ) (bytes : Bytes b) (l : Lent) (t : Accepted) (e : decode_into decode_density b l ≡ ok t) where
  holds : Holds b t
  holds = demand3 b bytes (places_of l) t (accepts b l t e)

  indexed : (p : Point) → index_flat (floats_of t.medium) p 3 ≡ ok (index_of b p)
  indexed p =
      ap (λ (m : Medium). index_flat (floats_of m) p 3) (same_medium b bytes l t e)
      ∙ flat_index b p (density_passed b (places_of l) t (accepts b l t e)).0.mapped

  read : (c : Coord) → Signed32 c → read_in t.grid c ≡ voxel b c
  read c s = ap value_in (reads b bytes (places_of l) t (accepts b l t e) c s).0

  keeps : KeepsC b t.grid (floats_of t.medium)
  keeps = record {
    lookups = λ c s number value G.
        let (v, bits) = looked b bytes l t e c s in
        (G.number_is ∙ ap number_of v, ap (to_bits binary32) (G.value_is ∙ ap (value_or +0) v) ∙ bits);
    readings = λ c s number value level G.
        let v = heard_at b bytes l t e c s in (
          G.number_is ∙ ap number_of v,
          ap (to_bits binary32) (G.value_is ∙ ap (λ (r : Result Spoken). (value_or unspoken r).value) v) ∙ (looked b bytes l t e c s).1,
          G.level_is ∙ ap (λ (r : Result Spoken). level_number (value_or unspoken r).level) v,
        );
    maxima = λ x lo hi number value M.
        let (v, greatest) = holds.maxima x lo hi in
        let is = M.value_is ∙ ap (value_or +0) v in
        (M.number_is ∙ ap number_of v, is, subst (Greatest (voxel b) x) (sym is) greatest);
    loads = λ x lo hi number value counts C.
        let (v, greatest) = holds.maxima x lo hi in
        let L = load t.grid x v number value counts C in
        (L.number_is, L.value_is, subst (Greatest (voxel b) x) (sym L.value_is) greatest, L.read_is, L.no_dearer);
    classes = λ limits x lo hi L S number counts C.
        classed t.grid (voxel b) read (density_passed b (places_of l) t (accepts b l t e)).0.valid limits x lo hi L S number counts C;
    lists = λ boxes n long signed number maxima greatest M.
        let all = listed b t holds boxes n long signed in
        let is = M.greatest_is ∙ ap (value_or +0) (listed_greatest b t holds boxes n long signed) in (
          M.number_is ∙ ap number_of all,
          M.maxima_are ∙ ap (value_or (replicate n +0)) all,
          subst (GreatestOver (voxel b) (InSome (box_at boxes) n)) (sym is) (maxima_greatest (voxel b) boxes n),
        );
    positions = λ p number bits W. (W.number_is ∙ ap number_of (indexed p), W.bits_are ∙ ap (value_or (replicate 3 0)) (indexed p));
    figures = λ corners n places number table B z.
        let into = flat_build t.grid (floats_of t.medium) corners n places (sym B.number_is ∙ z) in
        figured b bytes l t e (medium_from (floats_of t.medium) corners n) (medium_alike b bytes l t e corners n) places number table
        (B.number_is ∙ ap number_of into) (B.table_is ∙ ap (value_or (replicate places +0)) into) z;
  }

pub through_c : ThroughC
through_c b bytes lent arrays number left d z =
    let F = flat b lent arrays (sym d.number_is ∙ z) in
    let t = F.accepted in
    let grid = used_back b lent arrays t F.into in
    subst (λ (x : Left). Fits x × KeepsC b (used x) x.medium) (sym (left_is b lent arrays number left d (ok t) F.is)) (
      fits_back b lent arrays t F.into,
      subst (λ (g : Grid). KeepsC b g (floats_of t.medium)) (sym grid) (keeps b bytes lent t F.into),
    )
