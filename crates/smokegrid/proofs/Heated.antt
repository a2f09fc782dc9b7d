-- What the functions of temperature leave, from what the functions behind them answer. Assumes nothing.
use mathlib.Core.Path.{◌≡◌, sym, ap, ◌∙◌}
use mathlib.Core.List.{List, [], ◌∷◌}
use mathlib.Core.Bool.{Bool}
use Prim.Native.Nat.{ℕ}
use lib.ListN.{replicate}
use lib.Ieee.{Float}
use borrow.Author.Tests.{eq-eqb, ne_eqb}
use Rattle.refusals.specs.Results.{Result, refused, number_of}
use Rattle.refusals.specs.Faults.{unless, passing}
use Rattle.float.specs.Zero.{+0}
use Rattle.medium.specs.Medium.{Temperature}
use Rattle.nanovdb.specs.Decode.{Accepted}
use Rattle.nanovdb.specs.Lent.{Lent, zeros, left_of}
use Rattle.temperature.specs.Temperature.{heated, load_into}
use Rattle.temperature.specs.Answers.{Loaded, loaded_of}
use Rattle.smokegrid.specs.Flat.{counts_left, background_left}
use Rattle.smokegrid.specs.FlatHeat.{load_flat}
use Rattle.smokegrid.specs.Promises.{HeatLeft, LoadsTemperature}
use Rattle.smokegrid.proofs.Left.{number_is, counts_of_lem}

-- what C hands over to a load
pub record HeatHanded : Type 0 where
  pub bytes : List ℕ
  pub offset : Float
  pub scale : Float
  pub lent : Lent
  pub counts : ℕ

abbrev factors : HeatHanded → Temperature
factors h = heated h.offset h.scale

abbrev pub load_of : HeatHanded → Result Accepted
load_of h = load_into h.bytes (factors h) h.lent

abbrev flat_of : HeatHanded → Result Accepted
flat_of h = load_flat h.bytes h.offset h.scale h.lent h.counts

abbrev pub HeatOut : HeatHanded → ℕ → HeatLeft → Type 0
HeatOut h number left = LoadsTemperature h.bytes h.offset h.scale h.lent h.counts number left

stops : (h : HeatHanded) → (h.counts ≡ 4 → ⊥) → refused 18 ≡ flat_of h
unfolding load_flat
stops h off = sym (ap (λ (b : Bool). passing (unless b 18) (load_of h)) (ne_eqb h.counts 4 off))

goes : (h : HeatHanded) → h.counts ≡ 4 → load_of h ≡ flat_of h
unfolding load_flat
goes h e = sym (ap (λ (b : Bool). passing (unless b 18) (load_of h)) (eq-eqb h.counts 4 e))

module _ (h : HeatHanded) {left : HeatLeft} where
  -- counts of another length: everything is zeros
  pub heat_sized : {k : ℕ} → k ≡ 18 → (h.counts ≡ 4 → ⊥) → left.tables ≡ zeros h.lent → left.counts ≡ replicate h.counts 0
      → left.background ≡ +0 → HeatOut h k left
  heat_sized k-is off t c b =
      let s = stops h off in
      record {
        number_is = k-is ∙ ap number_of s;
        tables_are = t ∙ ap (left_of h.lent) s;
        counts_are = c ∙ ap (counts_left h.counts) s;
        background_is = b ∙ ap background_left s;
      }

  -- the load's answer a, behind the pointers
  pub heat_answer : {a : Loaded} {k : ℕ} → k ≡ a.number → h.counts ≡ 4 → a ≡ loaded_of (factors h) (load_of h) → left.tables ≡ left_of h.lent (load_of h)
      → left.counts ≡ a.roots ∷ a.upper ∷ a.lower ∷ a.leaf ∷ [] → left.background ≡ a.background → HeatOut h k left
  heat_answer {a} k-is four is t c b =
      let s = goes h four in
      let d = is ∙ ap (loaded_of (factors h)) s in
      record {
        number_is = k-is ∙ ap (λ (x : Loaded). x.number) d ∙ number_is (flat_of h);
        tables_are = t ∙ ap (left_of h.lent) s;
        counts_are = c ∙ ap (λ (x : Loaded). x.roots ∷ x.upper ∷ x.lower ∷ x.leaf ∷ []) d ∙ counts_of_lem h.counts (flat_of h) four;
        background_is = b ∙ ap (λ (x : Loaded). x.background) d;
      }
