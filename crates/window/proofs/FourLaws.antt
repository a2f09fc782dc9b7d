-- Four tables raised at once, cell after cell. Assumes nothing.
use Rattle.std.specs.Prelude.{◌≡◌, ℕ, suc, ◌<◌, Float}
use Rattle.std.proofs.Math.Path.{sym, ap}
use Rattle.std.proofs.Common.{◌∙◌, arith}
use mathlib.Core.List.{List}
use Rattle.std.proofs.Math.ListN.{length, get_or, set}
use Rattle.figures.specs.Figures.{greater}
use Rattle.window.specs.Tables.{raised}
use Rattle.window.proofs.TableLaws.{front, front_none, front_length, front_rest, front_more, front_again, front_all, raised_length}
use Rattle.window.specs.Fours.{raised_four}

-- ---- one table

front_full : (i : ℕ) (l t : List Float) → i ≡ length l → length t ≡ length l → front i l t ≡ raised l t
front_full i l t e k = ap (λ (j : ℕ). front j l t) e ∙ front_all l t k

-- ---- four

module _ (l a b c d : List Float) where
  -- the first i cells raised by each of the four
  pub fronts : ℕ → List Float
  fronts i = front i (front i (front i (front i l a) b) c) d

  pub fronts_none : fronts 0 ≡ l
  unfolding fronts
  fronts_none =
      front_none (front 0 (front 0 (front 0 l a) b) c) d ∙ front_none (front 0 (front 0 l a) b) c ∙ front_none (front 0 l a) b ∙ front_none l a

  pub four_length : length (raised_four l a b c d) ≡ length l
  four_length =
      raised_length (raised (raised (raised l a) b) c) d ∙ raised_length (raised (raised l a) b) c ∙ raised_length (raised l a) b ∙ raised_length l a

  -- cell i raised by the four
  abbrev pub cell_four : ℕ → Float → Float → Float
  cell_four i z x = greater (greater (greater (greater x (get_or a i z)) (get_or b i z)) (get_or c i z)) (get_or d i z)

  module _ (na : length a ≡ length l) (nb : length b ≡ length l) (nc : length c ≡ length l) (nd : length d ≡ length l) where
    pub fronts_all : (i : ℕ) → i ≡ length l → fronts i ≡ raised_four l a b c d
    unfolding fronts
    fronts_all i e =
        let p = raised l a in
        let q = raised p b in
        let lp : length p ≡ length l = raised_length l a in
        let lq : length q ≡ length l = raised_length p b ∙ lp in
        let lr : length (raised q c) ≡ length l = raised_length q c ∙ lq in
        ap (λ (m : List Float). front i (front i (front i m b) c) d) (front_full i l a e na)
        ∙ ap (λ (m : List Float). front i (front i m c) d) (front_full i p b (e ∙ sym lp) (nb ∙ sym lp))
        ∙ ap (λ (m : List Float). front i m d) (front_full i q c (e ∙ sym lq) (nc ∙ sym lq))
        ∙ front_full i (raised q c) d (e ∙ sym lr) (nd ∙ sym lr)

    pub fronts_more : (i : ℕ) (z : Float) → i < length l → set (fronts i) i (cell_four i z (get_or (fronts i) i z)) ≡ fronts (suc i)
    unfolding fronts
    fronts_more i z h =
        let p = front i l a in
        let q = front i p b in
        let r = front i q c in
        let lp : length p ≡ length l = front_length i l a in
        let lq : length q ≡ length l = front_length i p b ∙ lp in
        let lr : length r ≡ length l = front_length i q c ∙ lq in
        let x = greater (get_or p i z) (get_or a i z) in
        let y = greater x (get_or b i z) in
        let same : get_or (front i r d) i z ≡ get_or p i z = front_rest i r d z ∙ front_rest i q c z ∙ front_rest i p b z in
        ap (λ (v : Float). set (front i r d) i (cell_four i z v)) same
        ∙ sym (
        ap (λ (m : List Float). front (suc i) (front (suc i) (front (suc i) m b) c) d) (sym (front_more i l a z h (omega (arith, na))))
        ∙ ap (λ (m : List Float). front (suc i) (front (suc i) m c) d) (front_again i p b x z (omega (arith, lp)) (omega (arith, nb)))
        ∙ ap (λ (m : List Float). front (suc i) m d) (front_again i q c y z (omega (arith, lq)) (omega (arith, nc)))
        ∙ front_again i r d (greater y (get_or c i z)) z (omega (arith, lr)) (omega (arith, nd))
        )
