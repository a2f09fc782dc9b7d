-- The counts of a box from those of its spans; limits and sides that pass. Assumes nothing.
use Rattle.std.proofs.Common.{◌≡◌, ℕ, ◌-◌, ◌*◌, ◌<◌, ◌≤◌, Bool, true, false, ◌&&◌, leb, List, length, get_or, replicate, ℤ, sym, refl, ap, ◌∙◌, subst, ◌⊎◌, ⊎_elim, mul-zero, zero-mul, arith, leb→le, le-leb}
use lib.Ieee.{Float}
use borrow.Author.Tests.{lt-leb}
use Rattle.refusals.specs.Results.{Result, ok, refused, number_of, value_or}
use Rattle.refusals.specs.Faults.{◌then◌, unless, first_fault, passing}
use Rattle.refusals.specs.FaultLaws.{then_zero, unless_zero}
use Rattle.refusals.proofs.FaultSteps.{first_fault_at}
use Rattle.refusals.specs.TestLaws.{and_r}
use Rattle.sparse_grid.specs.Tables.{Grid}
use Rattle.sparse_grid.specs.Validate.{validate}
use Rattle.sparse_grid.specs.Lookup.{read_in}
use Rattle.boxes.specs.declared.Span.{Span}
use Rattle.boxes.specs.Boxes.{Box, span}
use Rattle.boxes.specs.RangeMax.{empty, read_at}
use Rattle.walk.specs.Classes.{class_count, limit_passes, limits_fault, side_fault, sides_fault, listed, public_counts}
use Rattle.walk.proofs.ClassLaws.{listed_is}
use Rattle.walk.proofs.Placed.{span_biased, class_tally}
use Rattle.walk.specs.Gather.{tally, volume}
use Rattle.walk.specs.Counts.{zone_in}
use Rattle.walk.specs.Tallied.{is_class, Sides}
use Rattle.walk.specs.TalliedLaws.{class_le, places_are}
use Rattle.majorant.proofs.Refused as Refused
use Rattle.majorant.specs.declared.part.Part as Code
use Rattle.majorant.specs.Rooting.{SpanOf, PartOf, side_limit}
use Rattle.majorant.proofs.Corners.{lacking, low_number, high_number, zone_is}

-- ---- sides

-- a side has as many coordinates as its span
pub side_is : {lo hi : ℤ} {s : Span} → SpanOf lo hi s → span lo hi ≡ s.hi - s.lo
side_is {lo} {hi} e = span_biased lo hi e.low e.high ∙ (λ i. high_number e.ends i - low_number e.ends i)

-- 25 where one has more than 2^20
pub sides_told : {b : Box} {p : Code.Part} → PartOf b p → (side_limit p.x then side_limit p.y then side_limit p.z) ≡ sides_fault b
sides_told o = λ i. told o.x i then told o.y i then told o.z i
  where
    told : {lo hi : ℤ} {s : Span} → SpanOf lo hi s → side_limit s ≡ side_fault lo hi
    told e = ap (λ (n : ℕ). unless (leb n 1048576) 25) (sym (side_is e))

module _ {b : Box} {p : Code.Part} (spans : PartOf b p) where
  -- sides that pass
  pub sides_few : sides_fault b ≡ 0 → Sides p.x p.y p.z
  sides_few e =
      let u = then_zero (side_fault b.lo.x b.hi.x) (side_fault b.lo.y b.hi.y then side_fault b.lo.z b.hi.z) e in
      let v = then_zero (side_fault b.lo.y b.hi.y) (side_fault b.lo.z b.hi.z) u.1 in
      record {
        x_side = few b.lo.x b.hi.x (side_is spans.x) u.0;
        y_side = few b.lo.y b.hi.y (side_is spans.y) v.0;
        z_side = few b.lo.z b.hi.z (side_is spans.z) v.1;
      }
    where
      few : (lo hi : ℤ) {n : ℕ} → span lo hi ≡ n → side_fault lo hi ≡ 0 → n ≤ 1048576
      few lo hi h k = subst (λ (n : ℕ). n ≤ 1048576) h (leb→le (span lo hi) 1048576 (unless_zero (leb (span lo hi) 1048576) 24 k))

  module _ (g : Grid) (ls : List Float) (k : ℕ) where
    -- ---- the counts of a box are those of its zone
    pub counts_are : class_count (read_in g) ls b k ≡ tally (is_class ls (read_at g) k) (zone_in p.x p.y p.z)
    counts_are =
        class_tally b (record { x = spans.x.low; y = spans.y.low; z = spans.z.low })
        (record { x = spans.x.high; y = spans.y.high; z = spans.z.high }) g ls k
        ∙ ap (tally (is_class ls (read_at g) k)) (zone_is spans)

    -- an empty box has none
    pub counts_none : empty p.x p.y p.z ≡ true → class_count (read_in g) ls b k ≡ 0
    counts_none h = counts_are ∙ omega (arith, class_le ls (read_at g) k (zone_in p.x p.y p.z), places_are (zone_in p.x p.y p.z), none)
      where
        nil : (a b c : ℕ) → a ≡ 0 → a * b * c ≡ 0
        nil a b c e = ap (λ (n : ℕ). n * b * c) e ∙ ap (λ (n : ℕ). n * c) (zero-mul b) ∙ zero-mul c

        nil_2 : (a b c : ℕ) → b ≡ 0 → a * b * c ≡ 0
        nil_2 a b c e = ap (λ (n : ℕ). a * n * c) e ∙ ap (λ (n : ℕ). n * c) (mul-zero a) ∙ zero-mul c

        nil_3 : (a b c : ℕ) → c ≡ 0 → a * b * c ≡ 0
        nil_3 a b c e = ap (λ (n : ℕ). a * b * n) e ∙ mul-zero (a * b)

        none : volume (zone_in p.x p.y p.z) ≡ 0
        none = lacking p.x p.y p.z h (λ l. nil _ _ _ (omega arith)) (λ l. nil_2 _ _ _ (omega arith)) (λ l. nil_3 _ _ _ (omega arith))

-- ---- limits

-- their number, and then the first that does not pass
abbrev pub limit_fault : List Float → ℕ → ℕ
limit_fault ls i = unless (limit_passes ls i) 25

module _ (ls : List Float) where
  sized : {b : Bool} → (leb 1 (length ls) && leb (length ls) 16) ≡ b
      → limits_fault ls ≡ (unless b 25 then first_fault (length ls) (limit_fault ls))
  unfolding limits_fault
  sized h = ap (λ (t : Bool). unless t 25 then first_fault (length ls) (limit_fault ls)) h

  pub limits_few : (length ls < 1) ⊎ (16 < length ls) → 25 ≡ limits_fault ls
  limits_few o = sym (sized {b = false} (⊎_elim (λ h. ap (λ (t : Bool). t && leb (length ls) 16) (lt-leb 1 (length ls) h))
      (λ h. ap (λ (t : Bool). leb 1 (length ls) && t) (lt-leb (length ls) 16 h) ∙ and_none (leb 1 (length ls))) o))
    where
      and_none : (b : Bool) → (b && false) ≡ false
      and_none true = refl
      and_none false = refl

  pub limits_pass : {r : ℕ} → 1 ≤ length ls → length ls ≤ 16 → r ≡ first_fault (length ls) (limit_fault ls) → r ≡ limits_fault ls
  limits_pass h k e = e ∙ sym (sized {b = true} (λ i. le-leb 1 (length ls) h i && le-leb (length ls) 16 k i))

-- a limit that does not pass, the first of them
pub limit_stops : (ls : List Float) (i : ℕ) → i < length ls → first_fault i (limit_fault ls) ≡ 0 → limit_passes ls i ≡ false
    → 25 ≡ first_fault (length ls) (limit_fault ls)
limit_stops ls i l e h =
    let f : limit_fault ls i ≡ 25 = ap (λ (t : Bool). unless t 25) h in
    sym (first_fault_at (length ls) i (limit_fault ls) l e (λ z. omega (arith, f, z)) ∙ f)

-- ---- limits that pass are at most 16
pub limits_most : (ls : List Float) → limits_fault ls ≡ 0 → length ls ≤ 16
unfolding limits_fault
limits_most ls e =
    let n = leb 1 (length ls) && leb (length ls) 16 in
    let t = unless_zero n 24 (then_zero (unless n 25) (first_fault (length ls) (limit_fault ls)) e).0 in
    leb→le (length ls) 16 (and_r (leb 1 (length ls)) (leb (length ls) 16) t)

-- ---- the answer
module _ (g : Grid) (ls : List Float) (b : Box) {n : ℕ} (e : n ≡ (validate g then limits_fault ls then sides_fault b)) where
  abbrev counts : Result (List ℕ)
  counts = public_counts g ls b

  told : counts ≡ passing n (ok (listed 17 0 (class_count (read_in g) ls b)))
  unfolding public_counts
  told = ap (λ (k : ℕ). passing k (ok (listed 17 0 (class_count (read_in g) ls b)))) (sym e)

  pub counts_stopped : (n ≡ 0 → ⊥) → refused n ≡ counts
  counts_stopped h = Refused.stopped (ok (listed 17 0 (class_count (read_in g) ls b))) refl h ∙ sym told

  pub counts_given : (l : List ℕ) → n ≡ 0 → length l ≡ 17 → ((k : ℕ) → k < 17 → get_or l k 0 ≡ class_count (read_in g) ls b k) → ok l ≡ counts
  counts_given l o long each =
      let f = class_count (read_in g) ls b in
      sym (told ∙ ap (λ (k : ℕ). passing k (ok (listed 17 0 f))) o ∙ ap ok (sym (listed_is l 0 17 f long (λ k K. each k K ∙ ap f (omega arith)))))

  -- where nothing is refused, the grid, the limits and the sides pass
  module _ (o : n ≡ 0) where
    pub grid_valid : validate g ≡ 0
    grid_valid = (then_zero (validate g) (limits_fault ls then sides_fault b) (sym e ∙ o)).0

    pub limits_valid : length ls ≤ 16
    limits_valid = limits_most ls (then_zero (limits_fault ls) (sides_fault b) (then_zero (validate g) (limits_fault ls then sides_fault b) (sym e ∙ o)).1).0

    pub sides_valid : sides_fault b ≡ 0
    sides_valid = (then_zero (limits_fault ls) (sides_fault b) (then_zero (validate g) (limits_fault ls then sides_fault b) (sym e ∙ o)).1).1
