-- One turn of a loop over the cells of a part along an axis: what was gathered of the cells before and the next cell make up the part up to there.
-- Assumes nothing.
use Rattle.std.proofs.Common.{◌≡◌, ℕ, ◌+◌, ◌*◌, ◌/◌, ◌%◌, ◌<◌, ◌≤◌, sym, subst, arith}
use Rattle.boxes.specs.declared.Span.{Span}
use Rattle.boxes.specs.RangeMax.{Full, InCell, Cut}
use Rattle.boxes.proofs.NodeCells.{cut_x, cut_y, cut_z}
use Rattle.medium.specs.Medium.{Axis, x_axis}
use Rattle.walk.specs.Walk.{Zone}
use Rattle.majorant.specs.Walks.{zone_of, Alone, Within, Places, Reads, both, along, span, GatherLaws, NodeLaws}
use Rattle.majorant.specs.declared.part.Part as Code

-- ---- a part with a cell in place of a span

in_side : {width side : ℕ} (at next : ℕ) → width ≡ side → next ≤ at / width * width + width → InCell side (span at next)
in_side at next e = subst (λ (k : ℕ). next ≤ at / k * k + k) e

module _ {a b c width side at next : ℕ} {p : Code.Part} (e : width ≡ side) (w : Within a b c p) where
  pub within_x : Cut width at p.x.hi next → Within side b c (record { x = span at next; y = p.y; z = p.z })
  within_x k = record { full = cut_x w.full k; x_in = in_side at next e k.cell; y_in = w.y_in; z_in = w.z_in }

  pub within_y : Cut width at p.y.hi next → Within a side c (record { x = p.x; y = span at next; z = p.z })
  within_y k = record { full = cut_y w.full k; x_in = w.x_in; y_in = in_side at next e k.cell; z_in = w.z_in }

  pub within_z : Cut width at p.z.hi next → Within a b side (record { x = p.x; y = p.y; z = span at next })
  within_z k = record { full = cut_z w.full k; x_in = w.x_in; y_in = w.y_in; z_in = in_side at next e k.cell }

-- ---- a loop along an axis

-- from s the loop has come to t with what lies before `at`, which is lo, a border or the end
pub record Upto {S : Type 0} (Done : Places → Zone → Reads → S → S → Type 0) (F : Zone → Reads) (a : Axis) (f : Places) (q : Zone)
    (width lo hi at : ℕ) (s t : S) : Type 0 where
  pub low : lo ≤ at
  pub high : at ≤ hi
  pub border : lo < at → at < hi → at % width ≡ 0
  pub done : Done f (along a q lo at) (F (along a q lo at)) s t

-- `width` is the side as the code reads it
module _ {S : Type 0} {Fit : S → Zone → Type 0} {Done : Places → Zone → Reads → S → S → Type 0} (laws : GatherLaws Fit Done)
    {side own : ℕ} {F : Zone → Reads} (sums : NodeLaws side own F) {width : ℕ} (e : width ≡ side) (a : Axis) (f : Places) (q : Zone) {lo hi : ℕ} where
  pub first : {s : S} (r : Zone) → lo < hi → Fit s r → Upto Done F a f q width lo hi lo s s
  first {s} r l h = record {
    low = omega arith;
    high = omega arith;
    border = λ k m. absurd (omega arith);
    done = subst (λ (c : Reads). Done f (along a q lo lo) c s s) (sym (sums.none a q lo)) (laws.none a f q r lo s h);
  }

  module _ {at next : ℕ} {s t : S} (u : Upto Done F a f q width lo hi at s t) (k : Cut width at hi next) where
    pub ready : Fit s (along a q lo hi) → Fit t (along a q at next)
    ready h = laws.fit a f q lo at next hi _ s t u.low (omega (arith, k.more)) k.within h u.done

    pub turn : {v : S} → hi ≤ lo / own * own + own → Done f (along a q at next) (F (along a q at next)) t v → Upto Done F a f q width lo hi next s v
    turn {v} i w = record {
      low = omega (arith, u.low, k.more);
      high = k.within;
      border = λ l m. k.border m;
      done = subst (λ (d : Reads). Done f (along a q lo next) d s v)
          (sums.more a q lo at next u.low k.more (subst (λ (n : ℕ). next ≤ at / n * n + n) e k.cell) (omega (arith, k.within))
          (λ l. subst (λ (n : ℕ). at % n ≡ 0) e (u.border l (omega (arith, k.more, k.within)))))
          (laws.join a f q lo at next _ _ s t v u.low (omega (arith, k.more)) u.done w);
    }

  pub last : {at : ℕ} {s t : S} → hi ≤ at → Upto Done F a f q width lo hi at s t → Done f (along a q lo hi) (F (along a q lo hi)) s t
  last {at} {s} {t} h u = subst (λ (n : ℕ). Done f (along a q lo n) (F (along a q lo n)) s t) (omega (arith, u.high)) u.done

-- a part in a small cell lies in a block
pub from_8 : {p : Code.Part} → Within 8 8 8 p → Within 4096 4096 4096 p
from_8 {p} w = record { full = w.full; x_in = wider p.x w.x_in; y_in = wider p.y w.y_in; z_in = wider p.z w.z_in }
  where
    wider : (s : Span) → InCell 8 s → InCell 4096 s
    wider s h = omega arith

pub from_128 : {p : Code.Part} → Within 128 128 128 p → Within 4096 4096 4096 p
from_128 {p} w = record { full = w.full; x_in = wider p.x w.x_in; y_in = wider p.y w.y_in; z_in = wider p.z w.z_in }
  where
    wider : (s : Span) → InCell 128 s → InCell 4096 s
    wider s h = omega arith

-- ---- reads before what they are for

module _ {S : Type 0} {Fit : S → Zone → Type 0} {Done : Places → Zone → Reads → S → S → Type 0} (laws : GatherLaws Fit Done) (f : Places) (p : Code.Part)
    (full : Full p.x p.y p.z) {c : Reads} {s t : S} (o : Alone Fit Done c s t) (h : Fit s (zone_of p)) where
  pub still_fit : Fit t (zone_of p)
  still_fit = laws.fit x_axis f (zone_of p) p.x.lo p.x.lo p.x.hi p.x.hi c s t (omega arith) (omega (arith, full.x_some)) (omega arith) h
      (o f (zone_of p) (zone_of p) p.x.lo h)

  pub with_reads : {d : Reads} (e : Reads) {u : S} → both c d ≡ e → Done f (zone_of p) d t u → Done f (zone_of p) e s u
  with_reads {d} e {u} k w = subst (λ (r : Reads). Done f (zone_of p) r s u) k
      (laws.join x_axis f (zone_of p) p.x.lo p.x.lo p.x.hi c d s t u (omega arith) (omega (arith, full.x_some)) (o f (zone_of p) (zone_of p) p.x.lo h) w)
