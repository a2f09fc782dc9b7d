-- The one claim over what the contracts say, proved. Assumes nothing.
use Rattle.std.specs.Prelude.{◌≡◌, refl, List, ℕ, replicate, Float}
use Rattle.std.proofs.Common.{sym, ◌∙◌, subst}
use Rattle.std.proofs.Math.Path.{ap}
use Rattle.std.specs.Float.{binary32}
use Rattle.std.specs.Float.Ieee.{to_bits}
use Rattle.refusals.specs.Results.{Result, ok, refused, number_of, value_or, Said, said}
use Rattle.refusals.specs.Faults.{passing}
use Rattle.float.specs.Zero.{+0}
use Rattle.layout.specs.Bytes.{Bytes}
use Rattle.layout.specs.Coordinates.{Coord, Signed32}
use Rattle.layout.specs.Walk.{walk, voxel}
use Rattle.sparse_grid.specs.Tables.{Grid}
use Rattle.sparse_grid.specs.Lookup.{lookup}
use Rattle.sparse_grid.specs.Answers.{value_only, Spoken, unspoken, spoken}
use Rattle.cells.specs.Cells.{cell_count}
use Rattle.medium.specs.Medium.{Point, Medium}
use Rattle.medium.specs.Alike.{Alike}
use Rattle.nanovdb.specs.Decode.{Accepted, decode_density, medium_of}
use Rattle.nanovdb.specs.Lent.{Lent, Answer, places_of, decode_into, answer_of, left_of, filled}
use Rattle.nanovdb.specs.Agreement.{ReadsAs}
use Rattle.nanovdb.specs.Passed.{density_passed}
use Rattle.nanovdb.proofs.Numbers.{Numbered, numbered, not_zero}
use Rattle.nanovdb.proofs.Lookups.{reads}
use Rattle.nanovdb.proofs.UsedLaws.{accepts, used_parts, used_room}
use Rattle.index.specs.Answers.{index_bits}
use Rattle.boxes.specs.Boxes.{InSome, GreatestOver, Greatest, box_maximum}
use Rattle.majorant.specs.Build.{public_maximum, build_into}
use Rattle.majorant.specs.Maxima.{box_at, maxima_of, greatest_of, greatest_into}
use Rattle.majorant.proofs.MaximaLaws.{maxima_greatest}
use Rattle.majorant.proofs.Accepted as Built
use Rattle.claim.specs.Claim.{Inside, Bounds, Holds}
use Rattle.claim.proofs.Theorem.{demand3}
use Rattle.claim.proofs.Lists.{listed, listed_greatest}
use Rattle.claim.specs.Promises.{index_of, Keeps, Handed, ThroughContracts}

-- a value says that it is one, 0 and itself
says : {A : Type 0} (z v : A) (r : Result A) → r ≡ ok v → (a : Said A) → a ≡ said z r → a ≡ said z (ok v)
says z v r e a s = s ∙ ap (said z) e

module _ (b : List ℕ) (bytes : Bytes b) (l : Lent) (t : Accepted) (e : decode_into decode_density b l ≡ ok t) where
  decoded : decode_density b (places_of l) ≡ ok t
  decoded = accepts b l t e

  holds : Holds b t
  holds = demand3 b bytes (places_of l) t decoded

  -- a lookup of the accepted grid, without its level
  pub looked : (c : Coord) → Signed32 c → (value_only (lookup t.grid c) ≡ ok (voxel b c)) × (to_bits binary32 (voxel b c) ≡ (walk b c).bits)
  looked c s =
      let r = (reads b bytes (places_of l) t decoded c s).0 in
      (ap value_only r, (subst (ReadsAs b c) r (holds.lookups c s)).0)

  -- and with it
  pub heard_at : (c : Coord) → Signed32 c → spoken (lookup t.grid c) ≡ ok (record { value = voxel b c; level = (walk b c).level })
  heard_at c s = ap spoken (reads b bytes (places_of l) t decoded c s).0

  pub same_medium : t.medium ≡ medium_of b
  same_medium = (density_passed b (places_of l) t decoded).0.medium

  -- the index position of the accepted medium
  pub positioned : (p : Point) → index_bits t.medium p ≡ ok (index_of b p)
  unfolding index_bits
  positioned p =
      ap (λ (m : Medium). index_bits m p) same_medium
      ∙ ap (λ (n : ℕ). passing n (ok (index_of b p))) (density_passed b (places_of l) t decoded).0.mapped

  -- a build of the accepted grid that answered 0
  pub figured : (n : Medium) → Alike t.medium n → (places number : ℕ) (table : List Float)
      → number ≡ number_of (build_into t.grid n places) → table ≡ value_or (replicate places +0) (build_into t.grid n places)
      → number ≡ 0 → (places ≡ cell_count n.cells) × ((p : Point) → Inside b p → Bounds b n.cells table p)
  figured n alike places number table number_is table_is z =
      let B = Built.accepted t.grid n places (sym number_is ∙ z) in
      let is : table ≡ B.table = table_is ∙ ap (value_or (replicate places +0)) B.into in
      let bounds = holds.figures n alike places B.table B.into in
      (B.size.places_is, subst (λ (f : List Float). (p : Point) → Inside b p → Bounds b n.cells f p) (sym is) bounds)

  keeps : Keeps b t.grid t.medium
  keeps = record {
    lookups = λ c s a is.
        let (v, bits) = looked c s in
        let q = says +0 (voxel b c) (value_only (lookup t.grid c)) v a is in
        (ap (λ (x : Said Float). x.accepted) q, ap (λ (x : Said Float). x.number) q, ap (λ (x : Said Float). to_bits binary32 x.value) q ∙ bits);
    readings = λ c s a is.
        let q = says unspoken (record { value = voxel b c; level = (walk b c).level }) (spoken (lookup t.grid c)) (heard_at c s) a is in (
          ap (λ (x : Said Spoken). x.accepted) q,
          ap (λ (x : Said Spoken). x.number) q,
          ap (λ (x : Said Spoken). to_bits binary32 x.value.value) q ∙ (looked c s).1,
          ap (λ (x : Said Spoken). x.value.level) q,
        );
    maxima = λ x lo hi a is.
        let (v, greatest) = holds.maxima x lo hi in
        let q = says +0 (box_maximum (voxel b) x) (public_maximum t.grid x) v a is in
        let w = ap (λ (x : Said Float). x.value) q in
        (ap (λ (x : Said Float). x.accepted) q, ap (λ (x : Said Float). x.number) q, w, subst (Greatest (voxel b) x) (sym w) greatest);
    lists = λ boxes n long signed a maxima a-is maxima_are.
        let all = listed b t holds boxes n long signed in
        let v = listed_greatest b t holds boxes n long signed in
        let q = says +0 (greatest_of (maxima_of (box_maximum (voxel b)) boxes n)) (greatest_into t.grid boxes n) v a a-is in (
          ap (λ (x : Said Float). x.accepted) q,
          ap (λ (x : Said Float). x.number) q,
          maxima_are ∙ ap (value_or (replicate n +0)) all,
          subst (GreatestOver (voxel b) (InSome (box_at boxes) n)) (sym (ap (λ (x : Said Float). x.value) q)) (maxima_greatest (voxel b) boxes n),
        );
    positions = λ p r is. is ∙ positioned p;
    figures = figured;
  }

  -- what it hands on
  handed : Handed b l (answer_of (ok t)) (filled l t.grid)
  handed =
      let u = used_parts b l t e in
      record {
        room = used_room b l t e;
        tables = ap (filled l) (sym u);
        medium = same_medium;
        keeps = subst (λ (g : Grid). Keeps b g t.medium) (sym u) keeps;
      }

pub through_contracts : ThroughContracts
through_contracts b bytes l a left p s z = go (decode_into decode_density b l) refl (numbered b l) p s
  where
    go : (r : Result Accepted) → decode_into decode_density b l ≡ r → Numbered r → a ≡ answer_of r → left ≡ left_of l r → Handed b l a left
    go (ok t) e n p s = subst (λ (X : Type 0). X) (sym (λ i. Handed b l (p i) (s i))) (handed b bytes l t e)
    go (refused k) e n p s = absurd (not_zero n (sym (ap (λ (x : Answer). x.number) p) ∙ z))
