-- What a load answers and leaves, from what the functions that it calls promise. Assumes nothing.
use Rattle.std.specs.Prelude.{◌≡◌, ℕ, List}
use Rattle.std.proofs.Common.{refl, sym, ap, ◌∙◌}
use Rattle.refusals.specs.Results.{Result, ok, refused}
use Rattle.refusals.specs.Faults.{◌then◌}
use Rattle.refusals.proofs.FaultSteps.{then_stop, then_next}
use Rattle.medium.specs.Medium.{Temperature}
use Rattle.nanovdb.specs.Decode.{Accepted, decode_scalar}
use Rattle.nanovdb.specs.Lent as Lent
use Rattle.nanovdb.specs.Lent.{Lent, Tables, zeros, decode_into, answer_of, left_of}
use Rattle.temperature.specs.Temperature.{heat_fault, load_into}
use Rattle.temperature.specs.Answers.{Loaded, loaded_of, loaded_by}
use Rattle.temperature.proofs.LoadLaws.{load_stops, load_goes}

-- what a refusal loads and leaves is the same for each
abbrev Refuses : List ℕ → Temperature → Lent → ℕ → Tables → Type 0
Refuses b t l n u = (loaded_of t (refused n) ≡ loaded_of t (load_into b t l)) × (u ≡ left_of l (load_into b t l))

-- `a` is what the decode answered
module _ (b : List ℕ) (t : Temperature) (l : Lent) {a : Lent.Answer} (is : a ≡ answer_of (decode_into decode_scalar b l)) where
  abbrev read : Result Accepted
  read = decode_into decode_scalar b l

  refuses : {n : ℕ} {u : Tables} → n ≡ ((answer_of read).number then heat_fault t) → (n ≡ 0 → ⊥) → u ≡ zeros l → Refuses b t l n u
  refuses {n} e off z =
      let s = load_stops b t l n e off in
      (ap (loaded_of t) (sym s), z ∙ ap (left_of l) (sym s))

  -- the decode refused, and left zeros
  pub decode_refuses : {u : Tables} → (a.number ≡ 0 → ⊥) → u ≡ left_of l read → Refuses b t l a.number u
  decode_refuses off e =
      let same : a.number ≡ (answer_of read).number = ap (λ (x : Lent.Answer). x.number) is in
      refuses (same ∙ sym (then_stop (answer_of read).number (heat_fault t) (λ z. off (same ∙ z)))) off (e ∙ zeroed read (λ z. off (same ∙ z)))
    where
      zeroed : (r : Result Accepted) → ((answer_of r).number ≡ 0 → ⊥) → left_of l r ≡ zeros l
      zeroed (ok x) h = absurd (h refl)
      zeroed (refused k) h = refl

  -- neither: what the decode answered and left
  pub load_accepts : {r : Loaded} {u : Tables} → a.number ≡ 0 → 0 ≡ heat_fault t → r ≡ loaded_by t a → u ≡ left_of l read
      → (r ≡ loaded_of t (load_into b t l)) × (u ≡ left_of l (load_into b t l))
  load_accepts z h r-is u-is =
      let none = then_next (answer_of read).number (heat_fault t) (sym (ap (λ (x : Lent.Answer). x.number) is) ∙ z) ∙ sym h in
      let (x, e, e₁) = load_goes b t l none in
      (r-is ∙ ap (loaded_by t) (is ∙ ap answer_of e) ∙ ap (loaded_of t) (sym e₁), u-is ∙ ap (left_of l) (e ∙ sym e₁))
