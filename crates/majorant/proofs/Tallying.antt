-- The class of a value limit by limit, and one count more. Assumes nothing.
use Rattle.std.proofs.Common.{◌≡◌, ℕ, suc, ◌+◌, ◌*◌, ◌<◌, ◌≤◌, Bool, false, cond, eqb, List, length, get_or, drop, set, sym, refl, ap, ◌∙◌, subst, one-mul, zero-mul, add-one, arith, drop-cons, get_or-set_other, get_or-set_same, eq-eqb, ne_eqb}
use lib.Ieee.{Float, lt}
use Rattle.refusals.proofs.ListLaws.{get_d_any}
use Rattle.float.specs.Zero.{+0}
use Rattle.sparse_grid.specs.Count.{bit, split_eq}
use Rattle.walk.specs.Classes.{class}

module _ (ls : List Float) (v : Float) where
  -- the class among the limits from i on
  at_limit : (i : ℕ) (b : Bool) → i < length ls → lt v (get_or ls i +0) ≡ b → class (drop i ls) v ≡ cond b 0 (suc (class (drop (suc i) ls) v))
  at_limit i b l e =
      ap (λ (k : List Float). class k v) (drop-cons ls i +0 l) ∙ ap (λ (t : Bool). cond t 0 (suc (class (drop (suc i) ls) v))) e

  -- the loop goes on
  pub class_on : (i : ℕ) (d : Float) → class ls v ≡ i + class (drop i ls) v → i < length ls → lt v (get_or ls i d) ≡ false
      → (i + 1 ≤ length ls) × (class ls v ≡ i + 1 + class (drop (i + 1) ls) v)
  class_on i d e l h =
      let w = at_limit i false l (ap (lt v) (get_d_any ls i +0 d l) ∙ h) in
      let o = ap (λ (n : ℕ). class (drop n ls) v) (add-one i) in
      (omega arith, omega arith)

-- `size` more in count k
pub count_more : (l : List ℕ) (k size j : ℕ) → k < length l → get_or (set l k (get_or l k 0 + size)) j 0 ≡ get_or l j 0 + bit (eqb k j) * size
count_more l k size j h = split_eq k j (λ e. subst Holds e same) other
  where
    Holds : ℕ → Type 0
    Holds m = get_or (set l k (get_or l k 0 + size)) m 0 ≡ get_or l m 0 + bit (eqb k m) * size

    same : Holds k
    same =
        get_or-set_same l k (get_or l k 0 + size) 0 h
        ∙ ap (λ (n : ℕ). get_or l k 0 + n) (sym (ap (λ (b : Bool). bit b * size) (eq-eqb k k refl) ∙ one-mul size))

    other : (k ≡ j → ⊥) → Holds j
    other d =
        let z = zero-mul size in
        get_or-set_other l k j (get_or l k 0 + size) 0 (λ e. d (sym e)) ∙ sym (ap (λ (b : Bool). get_or l j 0 + bit b * size) (ne_eqb k j d) ∙ omega arith)
