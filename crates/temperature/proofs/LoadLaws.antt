-- Of an accepted temperature grid every reading is the walk's value of its bytes, less the offset, times the scale. Assumes nothing.
use Rattle.std.specs.Prelude.{◌≡◌, List, Bool, ◌&&◌, Float}
use Rattle.std.proofs.Math.Path.{refl, ap}
use Rattle.std.proofs.Common.{sym, ◌∙◌, subst}
use Rattle.std.proofs.Math.Bool.{true, false}
use Prim.Native.Nat.{ℕ, zero, suc}
use native.Mathlib.Omega.{arith}
use Rattle.std.specs.Float.Ieee.Scale.{finite}
use Rattle.refusals.specs.Results.{Result, ok, refused, number_of, bind}
use Rattle.refusals.specs.Faults.{◌then◌, unless, passing}
use Rattle.refusals.specs.FaultLaws.{passing_ok}
use Rattle.refusals.proofs.FaultSteps.{then_stop, then_next, passing_stop, passing_on}
use Rattle.refusals.specs.ResultLaws.{bind_ok}
use Rattle.layout.specs.Bytes.{Bytes}
use Rattle.layout.specs.Coordinates.{Coord, Signed32}
use Rattle.sparse_grid.specs.Tables.{Grid}
use Rattle.sparse_grid.specs.Lookup.{Found, lookup}
use Rattle.sparse_grid.specs.Answers.{value_only}
use Rattle.medium.specs.Medium.{Temperature}
use Rattle.nanovdb.specs.Decode.{Accepted, decode_scalar}
use Rattle.nanovdb.specs.Lent.{Lent, places_of, decode_into, answer_of, left_of, filled}
use Rattle.nanovdb.proofs.Lookups.{scalar_reads}
use Rattle.nanovdb.proofs.Numbers.{Numbered, scalar_numbered, not_zero, scalar_never_15}
use Rattle.nanovdb.proofs.UsedLaws.{scalar_accepts, scalar_parts, scalar_room}
use Rattle.temperature.specs.Temperature.{heated, heat_fault, load_into, read_by, temperature_at}
use Rattle.temperature.specs.Answers.{Loaded, loaded_of}
use Rattle.temperature.specs.ThroughLoad.{heat_in, HandedHeat, ThroughLoad}

-- ---- a load is a decode, and then 27

module _ (b : List ℕ) (t : Temperature) (l : Lent) where
  abbrev decoded : Result Accepted
  decoded = decode_into decode_scalar b l

  -- the first of the decode's fault and 27
  pub load_stops : (n : ℕ) → n ≡ ((answer_of decoded).number then heat_fault t) → (n ≡ 0 → ⊥) → load_into b t l ≡ refused n
  unfolding load_into
  load_stops n e off = go decoded (scalar_numbered b l) e
    where
      go : (r : Result Accepted) → Numbered r → n ≡ ((answer_of r).number then heat_fault t)
          → bind r (λ (a : Accepted). passing (heat_fault t) (ok a)) ≡ refused n
      go (ok a) h e = passing_stop (heat_fault t) (ok a) (λ z. off (e ∙ z)) ∙ ap (λ (k : ℕ). refused k) (sym e)
      go (refused k) h e = ap (λ (k : ℕ). refused k) (sym (e ∙ then_stop k (heat_fault t) (not_zero h)))

  -- 27, where the decode passed
  pub heat_stops : (answer_of decoded).number ≡ 0 → heat_fault t ≡ 27 → load_into b t l ≡ refused 27
  heat_stops z e = load_stops 27 (sym (then_next (answer_of decoded).number (heat_fault t) z ∙ e)) (λ (h : 27 ≡ 0). omega arith)

  -- neither: what the decode gave
  pub load_goes : ((answer_of decoded).number then heat_fault t) ≡ 0 → (a : Accepted) × (decoded ≡ ok a) × (load_into b t l ≡ ok a)
  unfolding load_into
  load_goes z = go decoded (scalar_numbered b l) z
    where
      go : (r : Result Accepted) → Numbered r → ((answer_of r).number then heat_fault t) ≡ 0
          → (a : Accepted) × (r ≡ ok a) × (bind r (λ (a : Accepted). passing (heat_fault t) (ok a)) ≡ ok a)
      go (ok a) h z = (a, refl, passing_on (heat_fault t) (ok a) z)
      go (refused k) h z = absurd (not_zero h (sym (then_stop k (heat_fault t) (not_zero h)) ∙ z))

  -- a load that accepts is a decode that does, with an offset and a scale that are finite
  pub load_passed : (a : Accepted) → load_into b t l ≡ ok a → (decoded ≡ ok a) × (heat_fault t ≡ 0)
  unfolding load_into
  load_passed a e =
      let (x, is, e₁) = bind_ok decoded (λ (a : Accepted). passing (heat_fault t) (ok a)) e in
      let (z, e₂) = passing_ok (heat_fault t) (ok x) e₁ in
      (is ∙ e₂, z)

  -- no refusal of a load has the number 0
  pub load_numbered : Numbered (load_into b t l)
  unfolding load_into
  load_numbered = go decoded (scalar_numbered b l)
    where
      go : (r : Result Accepted) → Numbered r → Numbered (bind r (λ (a : Accepted). passing (heat_fault t) (ok a)))
      go (ok a) h = after (heat_fault t)
        where
          after : (n : ℕ) → Numbered (passing n (ok a))
          after zero = Numbered.value a
          after (suc n) = Numbered.number n
      go (refused k) h = h

  -- nor 15, which no scalar grid is tested for
  pub never_15 : number_of (load_into b t l) ≡ 15 → ⊥
  unfolding load_into
  never_15 e = go decoded (scalar_never_15 b l) e
    where
      go : (r : Result Accepted) → (number_of r ≡ 15 → ⊥) → number_of (bind r (λ (a : Accepted). passing (heat_fault t) (ok a))) ≡ 15 → ⊥
      go (ok a) h e = after (finite t.offset && finite t.scale) e
        where
          after : (p : Bool) → number_of (passing (unless p 27) (ok a)) ≡ 15 → ⊥
          after true e = omega arith
          after false e = omega arith
      go (refused k) h e = h e

-- ---- a reading

-- 27 and the lookup's refusals out of the way, a reading is the lookup's value, less the offset, times the scale
reads_by : (t : Temperature) (g : Grid) (c : Coord) → heat_fault t ≡ 0
    → passing (heat_fault t) (read_by t (value_only (lookup g c))) ≡ read_by t (value_only (lookup g c))
reads_by t g c z = passing_on (heat_fault t) (read_by t (value_only (lookup g c))) z

module _ (b : List ℕ) (bytes : Bytes b) (offset scale : Float) (l : Lent) (a : Accepted) (e : load_into b (heated offset scale) l ≡ ok a) where
  abbrev into : decode_into decode_scalar b l ≡ ok a
  into = (load_passed b (heated offset scale) l a e).0

  -- over the definitions, from the bytes
  pub temperature_read : (c : Coord) → Signed32 c → temperature_at (heated offset scale) a.grid c ≡ ok (heat_in b offset scale c)
  unfolding temperature_at
  temperature_read c small =
      let t = heated offset scale in
      reads_by t a.grid c (load_passed b t l a e).1
      ∙ ap (λ (f : Found). read_by t (value_only f)) (scalar_reads b bytes (places_of l) a (scalar_accepts b l a into) c small).0

  handed : HandedHeat b offset scale l (loaded_of (heated offset scale) (ok a)) (filled l a.grid)
  handed =
      let u = scalar_parts b l a into in
      record {
        room = let r = scalar_room b l a into in
            record {
              blocks = r.blocks;
              root_links = r.root_links;
              root_values = r.root_values;
              upper_links = r.upper_links;
              upper_values = r.upper_values;
              lower_links = r.lower_links;
              lower_values = r.lower_values;
              leaf_values = r.leaf_values;
            };
        tables = ap (filled l) (sym u);
        temperature = refl;
        readings = λ c small h is. is ∙ ap (λ (g : Grid). temperature_at (heated offset scale) g c) u ∙ temperature_read c small;
      }

-- over the contracts of `load_temperature` and `temperature_at`
pub through_load : ThroughLoad
through_load b bytes offset scale l a left p s z =
    go (load_into b (heated offset scale) l) refl (load_numbered b (heated offset scale) l) p s
  where
    go : (r : Result Accepted) → load_into b (heated offset scale) l ≡ r → Numbered r → a ≡ loaded_of (heated offset scale) r → left ≡ left_of l r
        → HandedHeat b offset scale l a left
    go (ok x) e n p s = subst (λ (X : Type 0). X) (sym (λ i. HandedHeat b offset scale l (p i) (s i))) (handed b bytes offset scale l x e)
    go (refused k) e n p s = absurd (not_zero n (sym (ap (λ (x : Loaded). x.number) p) ∙ z))
