-- Temperature over what the contracts of the C interface say, proved. Assumes nothing.
use Rattle.std.specs.Prelude.{◌≡◌, refl, List, [], Bool, true, false, not, ℕ, eqb, Float}
use Rattle.std.proofs.Common.{sym, ap, ◌∙◌, subst, arith, ne_eqb}
use Rattle.refusals.specs.Results.{Result, ok, refused, number_of, value_or}
use Rattle.refusals.specs.Faults.{unless, passing}
use Rattle.layout.specs.Bytes.{Bytes}
use Rattle.sparse_grid.specs.Tables.{Grid}
use Rattle.medium.specs.Medium.{Temperature}
use Rattle.nanovdb.specs.Decode.{Accepted}
use Rattle.nanovdb.specs.Lent.{Lent, left_of}
use Rattle.nanovdb.proofs.Numbers.{Numbered, not_zero}
use Rattle.nanovdb.proofs.UsedLaws.{scalar_parts, scalar_room}
use Rattle.temperature.specs.Temperature.{heated, load_into, temperature_at}
use Rattle.temperature.proofs.LoadLaws.{load_passed, load_numbered, never_15, temperature_read}
use Rattle.smokegrid.specs.Flat.{counts_left, background_left}
use Rattle.smokegrid.specs.FlatHeat.{load_flat, heated_by}
use Rattle.smokegrid.specs.Promises.{HeatLeft, LoadsTemperature}
use Rattle.smokegrid_claim.specs.ThroughC.{used, Fits}
use Rattle.smokegrid_claim.proofs.Passed.{passed}
use Rattle.smokegrid_claim.specs.TemperatureThroughC.{tables_in, KeepsHeat, TemperatureThroughC, NoneThroughC, NeverNegative}

-- what is left of a load that gave r
abbrev left_after : Lent → ℕ → Result Accepted → HeatLeft
left_after l n r = record { tables = left_of l r; counts = counts_left n r; background = background_left r }

-- 0 is the number of an accepted grid alone
accepted : (b : List ℕ) (offset scale : Float) (l : Lent) (counts : ℕ) → number_of (load_flat b offset scale l counts) ≡ 0
    → (a : Accepted) × (load_flat b offset scale l counts ≡ ok a) × (load_into b (heated offset scale) l ≡ ok a)
unfolding load_flat
accepted b offset scale l counts z =
    let r = load_into b (heated offset scale) l in
    let into = passed (unless (eqb counts 4) 18) r z in
    let (a, e) = some r (load_numbered b (heated offset scale) l) (sym (ap number_of into) ∙ z) in
    (a, into ∙ e, e)
  where
    some : (r : Result Accepted) → Numbered r → number_of r ≡ 0 → (a : Accepted) × (r ≡ ok a)
    some (ok a) h z = (a, refl)
    some (refused n) h z = absurd (not_zero h z)

-- any number but 0 is a grid
grid_by : (present : ℕ) (offset scale : Float) → (present ≡ 0 → ⊥) → heated_by present offset scale ≡ heated offset scale
grid_by present offset scale off = λ i. record { present = not (ne_eqb present 0 off i); offset = offset; scale = scale }

module _ (b : List ℕ) (bytes : Bytes b) (offset scale : Float) (l : Lent) (counts : ℕ) (a : Accepted)
    (e : load_into b (heated offset scale) l ≡ ok a) where
  keeps : KeepsHeat b offset scale a.grid
  keeps = record {
    readings = λ present off c small number bits G.
        let q = ap (λ (t : Temperature). temperature_at t a.grid c) (grid_by present offset scale off)
        ∙ temperature_read b bytes offset scale l a e c small in
        (G.number_is ∙ ap number_of q, G.bits_are ∙ ap (value_or 0) q);
  }

  fits : Fits (tables_in (left_after l counts (ok a)))
  fits =
      let u = scalar_room b l a (load_passed b (heated offset scale) l a e).0 in
      record {
        blocks = u.blocks;
        root_links = u.root_links;
        root_values = u.root_values;
        upper_links = u.upper_links;
        upper_values = u.upper_values;
        lower_links = u.lower_links;
        lower_values = u.lower_values;
        leaf_values = u.leaf_values;
      }

pub temperature_through_c : TemperatureThroughC
temperature_through_c b bytes offset scale lent counts number left L z =
    let (a, flat, into) = accepted b offset scale lent counts (sym L.number_is ∙ z) in
    let is : left ≡ left_after lent counts (ok a)
    = (λ i. record { tables = L.tables_are i; counts = L.counts_are i; background = L.background_is i }) ∙ ap (left_after lent counts) flat in
    let grid : used (tables_in (left_after lent counts (ok a))) ≡ a.grid
    = scalar_parts b lent a (load_passed b (heated offset scale) lent a into).0 in
    subst (λ (x : HeatLeft). Fits (tables_in x) × KeepsHeat b offset scale (used (tables_in x))) (sym is) (
      fits b bytes offset scale lent counts a into,
      subst (KeepsHeat b offset scale) (sym grid) (keeps b bytes offset scale lent counts a into),
    )

pub none_through_c : NoneThroughC
unfolding temperature_at
none_through_c g offset scale c number bits G = (G.number_is, G.bits_are)

pub never_negative : NeverNegative
unfolding load_flat
never_negative b offset scale lent counts number left L e = go (eqb counts 4) (sym L.number_is ∙ e)
  where
    go : (t : Bool) → number_of (passing (unless t 18) (load_into b (heated offset scale) lent)) ≡ 15 → ⊥
    go true e = never_15 b (heated offset scale) lent e
    go false e = omega arith
