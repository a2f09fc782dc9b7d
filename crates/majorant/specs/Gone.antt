-- One root more in the loop that counts classes, and what is left for the background at its end. Assumes nothing.
use Rattle.std.proofs.Common.{◌≡◌, ℕ, suc, ◌+◌, ◌*◌, ◌-◌, ◌/◌, ◌<◌, ◌≤◌, Bool, true, false, cond, eqb, List, length, get_or, sym, ap, ◌∙◌, subst, ⊎_elim, mul_comm, mul-le-mul, add-one, arith}
use lib.Ieee.{Float}
use Rattle.sparse_grid.specs.declared.Entry.{Entry}
use Rattle.sparse_grid.specs.Tables.{Grid, block_at, entry_at}
use Rattle.sparse_grid.specs.Validate.{earlier}
use Rattle.sparse_grid.specs.Sound.{Sound}
use Rattle.sparse_grid.specs.Count.{bit, bit_most}
use Rattle.boxes.specs.declared.Span.{Span}
use Rattle.boxes.specs.RangeMax.{Full, read_at, block_at_place}
use Rattle.boxes.proofs.RootReads.{missed}
use Rattle.walk.specs.Walk.{Zone}
use Rattle.walk.specs.Classes.{class}
use Rattle.walk.specs.Gather.{tally, volume, At}
use Rattle.walk.specs.ByRoots.{met_tally, root_meets, root_misses, roots_none, roots_all}
use Rattle.walk.specs.Counts.{zone_in}
use Rattle.walk.specs.Tallied.{is_class, places, Ready, Added, Sides, Gone}
use Rattle.walk.specs.TalliedLaws.{Counts, tally_le, places_are, added_as}
use Rattle.majorant.specs.RootsMet.{apart_out}
use Rattle.sparse_grid.specs.Biased.{raised}
use Rattle.majorant.specs.declared.part.Part as Code
use Rattle.majorant.specs.Walks.{zone_of, size_of}
use Rattle.majorant.specs.Rooting.{Rooted, Clips, misses, below}
use Rattle.majorant.specs.RootStep.{missed_on, here, part_in, reads_there}

-- ---- no count is above all that was met, and that not above the box

module _ (g : Grid) (ls : List Float) (i : ℕ) (q : Zone) where
  class_met : (k : ℕ) → met_tally g i (is_class ls (read_at g) k) q ≤ met_tally g i (λ x y z. 1) q
  unfolding met_tally
  class_met k = tally_le _ _ q (λ x y z. most (earlier g i (block_at_place x y z)) (bit_most (eqb (class ls (read_at g x y z)) k)))
    where
      most : (b : Bool) {n : ℕ} → n ≤ 1 → cond b n 0 ≤ cond b 1 0
      most true h = h
      most false h = omega arith

  met_all : met_tally g i (λ x y z. 1) q ≤ places q
  unfolding met_tally
  met_all = tally_le _ _ q (λ x y z. most (earlier g i (block_at_place x y z)))
    where
      most : (b : Bool) → cond b 1 0 ≤ 1
      most true = omega arith
      most false = omega arith

-- sides of at most 2^20 make at most 2^60 places
pub places_few : {x y z : Span} → Sides x y z → places (zone_in x y z) ≤ 1152921504606846976
places_few {x} {y} {z} s = omega (arith, places_are (zone_in x y z), mul-le-mul (mul-le-mul s.x_side s.y_side) s.z_side)

-- ---- before the first root
pub gone_none : (g : Grid) (ls : List Float) (q : Zone) (counts : List ℕ) → ((k : ℕ) → k < 17 → get_or counts k 0 ≡ 0) → Gone g ls 0 q counts 0
gone_none g ls q counts h = record {
  each = λ k l. h k l ∙ sym (roots_none g q (is_class ls (read_at g) k));
  all = sym (roots_none g q (λ x y z. 1));
}

-- ---- one root
module _ {g : Grid} {i : ℕ} (r : Rooted g i) {ls : List Float} {p : Code.Part} (full : Full p.x p.y p.z) where
  pub gone_misses : {counts : List ℕ} {covered : ℕ} → misses g i p ≡ true → Gone g ls i (zone_of p) counts covered
      → Gone g ls (i + 1) (zone_of p) counts covered
  gone_misses {counts} {covered} h v = subst (λ (n : ℕ). Gone g ls n (zone_of p) counts covered) (sym (add-one i)) (record {
    each = λ k l. v.each k l ∙ sym (off (is_class ls (read_at g) k));
    all = v.all ∙ sym (off (λ x y z. 1));
  })
    where
      out : (X Y Z : ℕ) → At (zone_of p) X Y Z
          → (raised (block_at g i).x ≡ X / 4096) × (raised (block_at g i).y ≡ Y / 4096) × (raised (block_at g i).z ≡ Z / 4096) → ⊥
      out X Y Z t e =
          ⊎_elim (λ h. apart_out _ _ _ h (X / 4096) (omega (arith, t.x_low)) (omega (arith, t.x_high)) e.0)
          (λ w. ⊎_elim (λ h. apart_out _ _ _ h (Y / 4096) (omega (arith, t.y_low)) (omega (arith, t.y_high)) e.1)
          (λ h. apart_out _ _ _ h (Z / 4096) (omega (arith, t.z_low)) (omega (arith, t.z_high)) e.2) w) (missed_on g i p h)

      off : (f : ℕ → ℕ → ℕ → ℕ) → met_tally g (suc i) f (zone_of p) ≡ met_tally g i f (zone_of p)
      off f = root_misses g i _ _ _ (here r) f (zone_of p) out

  module _ (s : Sides p.x p.y p.z) {c : Code.Part} (k : Clips g i p c) {counts : List ℕ} {covered : ℕ}
      (v : Gone g ls i (zone_of p) counts covered) where
    grows : (f : ℕ → ℕ → ℕ → ℕ) → met_tally g (suc i) f (zone_of p) ≡ met_tally g i f (zone_of p) + tally f (zone_of c)
    grows f =
        let h = (part_in r full k).full in
        root_meets g i _ _ _ (here r) f (zone_of p) _ _ _ _ _ _ (r.sound.apart i r.inside)
        (omega (arith, h.x_some)) (omega (arith, h.y_some)) (omega (arith, h.z_some)) k.x k.y k.z

    pub part_ready : length ls ≤ 16 → length counts ≡ 17 → Ready ls counts (zone_of c)
    part_ready few long = record {
      few = few;
      long = long;
      room = λ n l. omega (arith, v.each n l, class_met g ls i (zone_of p) n, grows (λ x y z. 1), met_all g ls (suc i) (zone_of p), places_few s);
    }

    -- all that was met stays below 2^61
    pub covered_few : covered + size_of c ≤ 1152921504606846976
    covered_few = omega (arith, v.all, grows (λ x y z. 1), places_are (zone_of c), met_all g ls (suc i) (zone_of p), places_few s)

    pub gone_meets : {e : Entry} {after : List ℕ} → e ≡ entry_at g.root_links g.root_values i → Added ls (below g e) (zone_of c) counts after
        → Gone g ls (i + 1) (zone_of p) after (covered + size_of c)
    gone_meets {e} {after} is u = subst (λ (m : ℕ). Gone g ls m (zone_of p) after (covered + size_of c)) (sym (add-one i)) (record {
      each = λ n l. omega (arith, (added_as (reads_there r full k is) u).each n l, v.each n l, grows (is_class ls (read_at g) n));
      all = omega (arith, v.all, grows (λ x y z. 1), places_are (zone_of c));
    })

-- ---- after the last: the background has the rest
module _ {g : Grid} (s : Sound g) {ls : List Float} {x y z : Span} (few : Sides x y z) {counts : List ℕ} {covered : ℕ}
    (v : Gone g ls (length g.root_links) (zone_in x y z) counts covered) where
  -- what is left, and the counts have room for it
  pub rest_fits : (all : ℕ) → all ≡ volume (zone_in x y z) → covered ≤ all
  rest_fits all e = omega (arith, e, v.all, places_are (zone_in x y z), met_all g ls (length g.root_links) (zone_in x y z))

  pub rest_room : (all : ℕ) → all ≡ volume (zone_in x y z) → (k : ℕ) → k < 17 → get_or counts k 0 + (all - covered) ≤ 1152921504606846976
  rest_room all e k l =
      omega (arith, e, v.all, v.each k l, class_met g ls (length g.root_links) (zone_in x y z) k, places_are (zone_in x y z), places_few few, rest_fits all e)

  pub gone_all : (after : List ℕ) (all n : ℕ) → n ≡ all - covered → all ≡ volume (zone_in x y z) → Counts ls g.background n counts after
      → (k : ℕ) → k < 17 → get_or after k 0 ≡ tally (is_class ls (read_at g) k) (zone_in x y z)
  gone_all after all n d e c k l =
      c k l
      ∙ ap (λ (m : ℕ). get_or counts k 0 + one * m) d
      ∙ (λ i. v.each k l i + mul_comm one (rest i) i)
      ∙ sym (roots_all g (zone_in x y z) (length g.root_links) (is_class ls (read_at g) k) one
      (λ X Y Z t h. ap (λ (w : Float). bit (eqb (class ls w) k)) (missed g s X Y Z h)))
    where
      one : ℕ
      one = bit (eqb (class ls g.background) k)

      rest : all - covered ≡ volume (zone_in x y z) - met_tally g (length g.root_links) (λ x y z. 1) (zone_in x y z)
      rest = λ i. e i - v.all i
