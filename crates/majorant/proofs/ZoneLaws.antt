-- The three laws of zones, proved: a box cut in two, a box inside another, the roots in another order. Assumes nothing.
use Rattle.std.specs.Prelude.{◌≡◌, ℕ, zero, suc, false, T, ℤ, from_bits, to_bits, refl, Float}
use Rattle.std.proofs.Math.Path.{sym, ap}
use Rattle.std.proofs.Common.{◌∙◌}
use Rattle.std.specs.Float.{binary32}
use Rattle.std.specs.Float.Ieee.{lt, fits}
use Rattle.std.specs.Float.Ieee.Fits.{cond-fits}
use Rattle.std.specs.Float.Ieee.Bits.{of_bits-to_bits}
use Rattle.refusals.specs.Results.{ok, Said, said}
use Rattle.refusals.specs.Faults.{passing}
use Rattle.float.specs.Zero.{+0}
use Rattle.sparse_grid.specs.Tables.{Grid}
use Rattle.sparse_grid.specs.Validate.{validate}
use Rattle.sparse_grid.specs.Lookup.{Found, read_in, value_in}
use Rattle.sparse_grid.specs.Answers.{value_only}
use Rattle.sparse_grid.specs.Roots.{Reordered}
use Rattle.sparse_grid.proofs.Permuted.{reordered_valid, reordered_lookup}
use Rattle.medium.specs.Medium.{Axis}
use Rattle.boxes.specs.Boxes.{Box, greater, box_maximum}
use Rattle.boxes.proofs.Maximum.{max_same}
use Rattle.boxes.specs.Cuts.{up_to, past, Cuts}
use Rattle.boxes.proofs.CutLaws.{cut_bits, inside_maximum}
use Rattle.majorant.specs.Build.{public_maximum}
use Rattle.majorant.specs.Zones.{MaximumOf, CutInTwo, InsideAnother, RootsReordered}

-- what is said of a maximum after a fault, or of the maximum itself
abbrev of : ℕ → Float → Said Float
of f v = said +0 (passing f (ok v))

same_number : (f : ℕ) (v w : Float) → (of f v).number ≡ (of f w).number
same_number zero v w = refl
same_number (suc f) v w = refl

-- ---- a box cut in two

pub cut_in_two : CutInTwo
unfolding public_maximum lt
cut_in_two g a k b p old low high O L H = (
  ap (λ (s : Said Float). s.number) L ∙ same_number (validate g) _ _ ∙ sym (ap (λ (s : Said Float). s.number) O),
  ap (λ (s : Said Float). s.number) H ∙ same_number (validate g) _ _ ∙ sym (ap (λ (s : Said Float). s.number) O),
  (λ i. to_bits binary32 (greater (L i).value (H i).value)) ∙ bits (validate g) ∙ sym (ap (λ (s : Said Float). to_bits binary32 s.value) O),
)
  where
    maximum : Box → Float
    maximum = box_maximum (read_in g)

    bits : (f : ℕ) → to_bits binary32 (greater (of f (maximum (up_to a k b))).value (of f (maximum (past a k b))).value)
        ≡ to_bits binary32 (of f (maximum b)).value
    bits zero = cut_bits a k b (read_in g) p binary32
    bits (suc f) = refl

-- an f32 is made back from its bits: so the answers, which are f32, are equal as floats
pub cut_floats : (g : Grid) (a : Axis) (k : ℤ) (b : Box) → Cuts a k b → (old low high : Said Float)
    → MaximumOf g b old → MaximumOf g (up_to a k b) low → MaximumOf g (past a k b) high
    → T (fits binary32 old.value) → T (fits binary32 low.value) → T (fits binary32 high.value) → greater low.value high.value ≡ old.value
cut_floats g a k b p old low high O L H o l h =
    let g' = greater low.value high.value in
    let f = cond-fits binary32 (lt low.value high.value) high.value low.value h l in
    sym (of_bits-to_bits binary32 g' f) ∙ ap (from_bits binary32) (cut_in_two g a k b p old low high O L H).2 ∙ of_bits-to_bits binary32 old.value o

-- ---- a box inside another

pub inside_another : InsideAnother
unfolding public_maximum lt
inside_another g d b h inner outer I O = (
  ap (λ (s : Said Float). s.number) I ∙ same_number (validate g) _ _ ∙ sym (ap (λ (s : Said Float). s.number) O),
  (λ i. lt (O i).value (I i).value) ∙ below (validate g),
)
  where
    below : (f : ℕ) → lt (of f (box_maximum (read_in g) b)).value (of f (box_maximum (read_in g) d)).value ≡ false
    below zero = inside_maximum (read_in g) d b h
    below (suc f) = refl

-- ---- the roots in another order

module _ (g h : Grid) (o : Reordered g h) (v : validate g ≡ 0) where
  pub reordered_maximum : (b : Box) → public_maximum h b ≡ public_maximum g b
  unfolding public_maximum
  reordered_maximum b = λ i.
      passing ((reordered_valid g h o v ∙ sym v) i) (ok (max_same (read_in h) (read_in g) b (λ c j. ap value_in (reordered_lookup g h o v c)) i))

pub roots_reordered : RootsReordered
roots_reordered g h o v = record {
  valid = reordered_valid g h o v;
  values = λ c before after B A. A ∙ ap (λ (f : Found). said +0 (value_only f)) (reordered_lookup g h o v c) ∙ sym B;
  levels = reordered_lookup g h o v;
  maxima = λ b before after B A. A ∙ ap (said +0) (reordered_maximum g h o v b) ∙ sym B;
}
