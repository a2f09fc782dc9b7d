-- What `load` and `ask` answer and leave, from what the functions that they call answer and leave. Assumes nothing.
use mathlib.Core.Path.{◌≡◌, refl, sym, ap, ◌∙◌, subst}
use mathlib.Core.List.{List}
use Prim.Native.Nat.{ℕ, zero, suc, ◌<◌}
use lib.ListN.{get_or, replicate}
use lib.Ieee.{Float}
use Rattle.refusals.specs.Results.{Result, ok, refused, number_of, value_or, bind}
use Rattle.refusals.specs.ResultLaws.{stopped}
use Rattle.refusals.specs.Faults.{passing}
use Rattle.refusals.specs.Numbers.{number, fault_of}
use Rattle.refusals.specs.declared.Refusal.{Refusal}
use Rattle.refusals.proofs.Exits.{number_some}
use Rattle.refusals.proofs.FaultSteps.{passing_stop}
use Rattle.std.specs.Prelude.{Ok, Err, None, Option, Result as Outcome}
use Rattle.float.specs.Zero.{+0}
use Rattle.layout.specs.Bytes.{Bytes}
use Rattle.layout.specs.Walk.{voxel}
use Rattle.sparse_grid.specs.Tables.{Grid}
use Rattle.cells.specs.Cells.{cell_count}
use Rattle.cells.specs.Counted.{Counted, Tabled}
use Rattle.medium.specs.Medium.{Medium, Point, Axis, bounds_fault}
use Rattle.medium.specs.Alike.{alike_same}
use Rattle.nanovdb.specs.Decode.{Accepted, decode_density, medium_of}
use Rattle.nanovdb.specs.Lent as Lent
use Rattle.nanovdb.specs.Lent.{Lent, Tables, places_of, decode_into, answer_of, left_of, used_of, no_medium}
use Rattle.nanovdb.proofs.Numbers as Numbers
use Rattle.nanovdb.proofs.Numbers.{Numbered, numbered, not_zero}
use Rattle.nanovdb.proofs.UsedLaws.{accepts, used_parts}
use Rattle.index.specs.Found.{cell_at}
use Rattle.index.proofs.Enclosed as Cells
use Rattle.index.proofs.Enclosed.{cell_found, cell_encloses}
use Rattle.boxes.specs.Boxes.{box_maximum}
use Rattle.majorant.proofs.Bounded.{built}
use Rattle.majorant.specs.Build.{build_into}
use Rattle.majorant.proofs.Accepted as Built
use Rattle.claim.specs.Claim.{Inside, Bounds}
use Rattle.claim.proofs.Points.{fitting}
use Rattle.claim.proofs.Theorem.{demand3}
use Rattle.claim.specs.Load as Load
use Rattle.claim.specs.Load.{with_build, load, load_answer, Claimed, Loads}
use Rattle.claim.specs.Ask.{Question, Answer, answer}
use Rattle.claim.specs.Answered.{Figured, Answered, Asks}
use Rattle.claim.proofs.ContractLaws.{looked, same_medium, through_contracts}
use Rattle.claim.specs.Asked.{as_found}
use Rattle.claim.specs.Inner.{Small, build_in, seen_in, found_in}
use Rattle.claim.specs.declared.Seen.{Seen}
use Rattle.claim.specs.declared.Found.{Found}

-- ---- what the private functions answer after a build

-- the build passed, and the code found what the definition finds
pub found_passed : (m : Medium) (table : List Float) (p : Point) (none : ℕ) {build : Outcome (Unit {0}) Refusal} {u : Unit {0}} (f : Option Found)
    → build ≡ Ok u → as_found 0 none f ≡ found_in 0 m table p → as_found (fault_of build) none f ≡ found_in (fault_of build) m table p
found_passed m table p none f e h =
    ap (λ (r : Outcome (Unit {0}) Refusal). as_found (fault_of r) none f) e ∙ h
    ∙ ap (λ (r : Outcome (Unit {0}) Refusal). found_in (fault_of r) m table p) (sym e)

-- the build was refused
pub found_refused : (m : Medium) (table : List Float) (p : Point) (none : ℕ) {build : Outcome (Unit {0}) Refusal} {e : Refusal}
    → build ≡ Err e → as_found (fault_of build) none None ≡ found_in (fault_of build) m table p
found_refused m table p none {e = e} is =
    ap (λ (r : Outcome (Unit {0}) Refusal). as_found (fault_of r) none None) is ∙ zeros (number e) (number_some e)
    ∙ ap (λ (r : Outcome (Unit {0}) Refusal). found_in (fault_of r) m table p) (sym is)
  where
    zeros : (n : ℕ) → (n ≡ 0 → ⊥) → as_found n none None ≡ found_in n m table p
    zeros zero h = absurd (h refl)
    zeros (suc n) h = refl

-- a build into a table is refused by a number above 0
build_number : (g : Grid) (m : Medium) (places n : ℕ) → build_into g m places ≡ refused n → n ≡ 0 → ⊥
build_number g m places n e z = stopped (sym e ∙ (Built.accepted g m places (ap number_of e ∙ z)).into)

-- an answer from its three parts
abbrev pub joined : Load.Answer → Seen → Found → Answer
joined a s f = record { load = a; value = s.value; maximum = s.maximum; cell = f.cell; figure = f.figure }

-- what a decode answered and left: the premises of `ThroughContracts`
pub record Decode (b : List ℕ) (l : Lent) (a : Lent.Answer) (left : Tables) : Type 0 where
  pub answer_is : a ≡ answer_of (decode_into decode_density b l)
  pub tables_are : left ≡ left_of l (decode_into decode_density b l)

-- 0 is the number of an accepted grid alone
accepted : {b : List ℕ} {l : Lent} {a : Lent.Answer} {left : Tables} → Decode b l a left → a.number ≡ 0
    → (t : Accepted) × (decode_into decode_density b l ≡ ok t)
accepted {b = b} {l = l} {a = a} d z = go (decode_into decode_density b l) refl (numbered b l) d.answer_is
  where
    go : (r : Result Accepted) → decode_into decode_density b l ≡ r → Numbered r → a ≡ answer_of r → (t : Accepted) × (decode_into decode_density b l ≡ ok t)
    go (ok t) e n p = (t, e)
    go (refused k) e n p = absurd (not_zero n (sym (ap (λ (x : Lent.Answer). x.number) p) ∙ z))

module _ (b : List ℕ) (l : Lent) (places : ℕ) where
  -- ---- load

  -- the build of the used parts is that of the load
  build_of : (r : Result Accepted) → decode_into decode_density b l ≡ r → Numbered r
      → build_in (answer_of r) (used_of (answer_of r) (left_of l r)) places ≡ (with_build places r).built
  build_of (ok t) e n = ap (λ (g : Grid). build_into g t.medium places) (used_parts b l t e)
  build_of (refused k) e (Numbers.number j) = refl

  build_is : {a : Lent.Answer} {left : Tables} → Decode b l a left → build_in a (used_of a left) places ≡ (load b l places).built
  unfolding load
  build_is d =
      (λ i. build_in (d.answer_is i) (used_of (d.answer_is i) (d.tables_are i)) places)
      ∙ build_of (decode_into decode_density b l) refl (numbered b l)

  module _ {a : Lent.Answer} {left : Tables} {k : ℕ} {table : List Float} (bytes : Bytes b) (d : Decode b l a left)
      (k-is : k ≡ number_of (build_in a (used_of a left) places))
      (table_is : table ≡ value_or (replicate places +0) (build_in a (used_of a left) places)) where
    claimed : a.number ≡ 0 → Claimed b l (record { decode = a; build = k }) left table
    claimed z =
        let H = through_contracts b bytes l a left d.answer_is d.tables_are z in
        let g = used_of a left in
        let p : build_in a g places ≡ build_into g a.medium places = ap (λ (n : ℕ). passing n (build_into g a.medium places)) z in
        record {
          grid = H;
          figures = λ zero. (H.keeps.figures a.medium alike_same places k table
              (k-is ∙ ap number_of p) (table_is ∙ ap (value_or (replicate places +0)) p) zero).1;
        }

    pub loads : Loads b l places (record { decode = a; build = k }) left table
    unfolding load
    loads = record {
      answer_is = λ i. record { decode = d.answer_is i; build = (k-is ∙ ap number_of (build_is d)) i };
      tables_are = d.tables_are;
      figures_are = table_is ∙ ap (value_or (replicate places +0)) (build_is d);
      claim = claimed;
    }

  -- a refused decode leaves zeros in both
  pub loads_none : {left : Tables} {table : List Float} → Bytes b → (e : Refusal) → answer_of (refused (number e)) ≡ answer_of (decode_into decode_density b l)
      → left ≡ left_of l (decode_into decode_density b l) → table ≡ replicate places +0
      → Loads b l places (record { decode = answer_of (refused (number e)); build = number e }) left table
  loads_none {left} {table} bytes e a-is left-is z =
      let d : Decode b l (answer_of (refused (number e))) left = record { answer_is = a-is; tables_are = left-is } in
      let stop = passing_stop (number e) (build_into (used_of (answer_of (refused (number e))) left) no_medium places) (number_some e) in
      loads bytes d (sym (ap number_of stop)) (z ∙ sym (ap (value_or (replicate places +0)) stop))

  -- a build that answered 0 has a figure for each cell
  tabled_of : (r : Result Accepted) → Numbered r → number_of (with_build places r).built ≡ 0 → Tabled (answer_of r).medium.cells places
  tabled_of (ok t) n z = (Built.accepted t.grid t.medium places z).size
  tabled_of (refused k) n z = absurd (not_zero n z)

  pub tabled_in : {a : Load.Answer} {left : Tables} {table : List Float} {n : ℕ} → Loads b l places a left table → a.build ≡ 0 → n ≡ places
      → Tabled a.decode.medium.cells n
  unfolding load
  tabled_in {a = a} L z same =
      subst (λ (k : ℕ). Tabled a.decode.medium.cells k) (sym same)
      (subst (λ (y : Load.Answer). Tabled y.decode.medium.cells places) (sym L.answer_is)
      (tabled_of (decode_into decode_density b l) (numbered b l) (sym (ap (λ (y : Load.Answer). y.build) L.answer_is) ∙ z)))

  -- ---- ask

  module _ (q : Question) (bytes : Bytes b) (small : Small q) where
    abbrev k : ℕ
    k = cell_at (medium_of b) (medium_of b).cells q.point

    -- what the definition answers of a decode that gave r, and of a build that gave s
    abbrev seen_of : Result Accepted → Seen
    seen_of r = record {
      value = value_or +0 (bind r (λ (t : Accepted). ok (voxel b q.coordinate)));
      maximum = value_or +0 (bind r (λ (t : Accepted). ok (box_maximum (voxel b) q.box)));
    }

    abbrev found_of : Result (List Float) → Found
    found_of s = record {
      cell = value_or 0 (bind s (λ (f : List Float). ok k));
      figure = value_or +0 (bind s (λ (f : List Float). ok (get_or f k +0)));
    }

    seen_of_lem : (r : Result Accepted) → decode_into decode_density b l ≡ r → Numbered r
        → seen_in (answer_of r).number (used_of (answer_of r) (left_of l r)) q ≡ seen_of r
    seen_of_lem (ok t) e n =
        let v = (looked b bytes l t e q.coordinate small.coordinate).0 in
        let m = ((demand3 b bytes (places_of l) t (accepts b l t e)).maxima q.box small.low small.high).0 in
        ap (λ (g : Grid). seen_in 0 g q) (used_parts b l t e)
        ∙ (λ i. record { value = value_or +0 (v i); maximum = value_or +0 (m i) })
    seen_of_lem (refused n) e (Numbers.number j) = refl

    found_of_lem : (t : Accepted) → decode_into decode_density b l ≡ ok t → (s : Result (List Float)) → build_into t.grid t.medium places ≡ s
        → found_in (number_of s) t.medium (value_or (replicate places +0) s) q.point ≡ found_of s
    found_of_lem t e (ok f) h = ap (λ (m : Medium). found_in 0 m f q.point) (same_medium b bytes l t e)
    found_of_lem t e (refused (suc n)) h = refl
    found_of_lem t e (refused zero) h = absurd (build_number t.grid t.medium places zero h refl)

    answer_of_lem : (r : Result Accepted) → decode_into decode_density b l ≡ r → Numbered r
        → joined (load_answer (with_build places r)) (seen_in (answer_of r).number (used_of (answer_of r) (left_of l r)) q)
        (found_in (number_of (with_build places r).built) (answer_of r).medium (value_or (replicate places +0) (with_build places r).built) q.point)
        ≡ answer b q (with_build places r)
    answer_of_lem (ok t) e n =
        let s = build_into t.grid t.medium places in
        λ i. joined (load_answer (with_build places (ok t))) (seen_of_lem (ok t) e n i) (found_of_lem t e s refl i)
    answer_of_lem (refused n) e (Numbers.number j) = refl

    -- the cell and the figure of the definition, of a table f for which the claim holds
    figured : (a : Load.Answer) (v : Seen) (f : List Float) → Counted (medium_of b).cells → ((x : Axis) → bounds_fault (medium_of b) x ≡ 0)
        → ((p : Point) → Inside b p → Bounds b (medium_of b).cells f p) → Figured b q (joined a v (found_of (ok f))) f
    figured a v f some bounds figures =
        let n = (medium_of b).cells in
        let found : Inside b q.point → k < cell_count n = cell_found (medium_of b) n (Cells.numbered some) (fitting b) bounds q.point in
        let encloses = cell_encloses (medium_of b) n q.point in
        record {
          found = found;
          encloses = encloses;
          figure = refl;
          bounded = λ i c r. (figures q.point i).bounded k (found i) (encloses (found i)) c r;
        }

    -- the claim of the definition's answer, where the decode accepted
    answered : (t : Accepted) → decode_into decode_density b l ≡ ok t → (left : Tables) (table : List Float)
        → table ≡ value_or (replicate places +0) (build_into t.grid t.medium places)
        → Claimed b l (load_answer (with_build places (ok t))) left table → Answered b l q (answer b q (with_build places (ok t))) left table
    answered t e left table table_is claim = record {
      load = claim;
      value = (looked b bytes l t e q.coordinate small.coordinate).1;
      maximum = ((demand3 b bytes (places_of l) t (accepts b l t e)).maxima q.box small.low small.high).1;
      cell = λ z.
          let B = Built.accepted t.grid t.medium places z in
          let same = same_medium b bytes l t e in
          let some = subst (λ (m : Medium). Counted m.cells) same B.size.count in
          let is : table ≡ B.table = table_is ∙ ap (value_or (replicate places +0)) B.into in
          let bounds = subst (λ (m : Medium). (x : Axis) → bounds_fault m x ≡ 0) same (built t.grid t.medium B.table B.is).bounds in
          let figures = subst (λ (X : Type 0). X) (λ i. (p : Point) → Inside b p → Bounds b (same i).cells (is i) p) (claim.figures z) in
          subst (λ (X : Type 0). X) (sym (λ i. Figured b q (joined (load_answer (with_build places (ok t))) (seen_of (ok t)) (found_of (B.into i))) (is i)))
          (figured (load_answer (with_build places (ok t))) (seen_of (ok t)) B.table some bounds figures);
    }

    module _ {a : Load.Answer} {left : Tables} {table : List Float} (L : Loads b l places a left table) {x : Answer}
        (x-is : x ≡ joined a (seen_in a.decode.number (used_of a.decode left) q) (found_in a.build a.decode.medium table q.point)) where
      answer_is : x ≡ answer b q (with_build places (decode_into decode_density b l))
      unfolding load
      answer_is =
          x-is
          ∙ (λ i. let a = L.answer_is i in
          joined a (seen_in a.decode.number (used_of a.decode (L.tables_are i)) q) (found_in a.build a.decode.medium (L.figures_are i) q.point))
          ∙ answer_of_lem (decode_into decode_density b l) refl (numbered b l)

      claim : x.load.decode.number ≡ 0 → Answered b l q x left table
      unfolding load
      claim z =
          let zero_is : a.decode.number ≡ 0 = sym (ap (λ (y : Answer). y.load.decode.number) x-is) ∙ z in
          let (t, e) = accepted (record { answer_is = ap (λ (y : Load.Answer). y.decode) L.answer_is; tables_are = L.tables_are }) zero_is in
          let same = L.answer_is ∙ ap (λ (r : Result Accepted). load_answer (with_build places r)) e in
          let table_is = L.figures_are ∙ ap (λ (r : Result Accepted). value_or (replicate places +0) (with_build places r).built) e in
          let y_is = answer_is ∙ ap (λ (r : Result Accepted). answer b q (with_build places r)) e in
          subst (λ (y : Answer). Answered b l q y left table) (sym y_is)
          (answered t e left table table_is (subst (λ (y : Load.Answer). Claimed b l y left table) same (L.claim zero_is)))

      pub asks : Asks b l places q x left table
      unfolding load
      asks = record { answer_is = answer_is; tables_are = L.tables_are; figures_are = L.figures_are; claim = claim }
