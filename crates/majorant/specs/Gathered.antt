-- What the two walks gather keeps the laws of what is gathered. Assumes nothing.
use Rattle.std.specs.Prelude.{ℕ, ◌+◌, ◌≤◌, ◌<◌, ◌≡◌, refl, false, List, [], ◌∷◌, length, get_or, Float}
use Rattle.std.proofs.Common.{sym, ap, ◌∙◌, subst, arith}
use Rattle.std.specs.Float.Ieee.{lt}
use Rattle.float.specs.Zero.{+0}
use Rattle.medium.specs.Medium.{Axis, x_axis, y_axis, z_axis}
use Rattle.boxes.specs.Boxes.{greater}
use Rattle.boxes.specs.Most.{Most, Joined}
use Rattle.boxes.proofs.MostLaws.{most_as, join_x, join_y, join_z}
use Rattle.boxes.proofs.JoinedLaws.{joined_none, joined_more, joined_as, joined_not_below, most_not_below}
use Rattle.walk.specs.Walk.{Zone, roots_only, uppers_only, lowers_only, leaves_only}
use Rattle.walk.specs.Gather.{At, along_x}
use Rattle.walk.specs.Counts.{More, steps_to}
use Rattle.walk.specs.Tallied.{Ready, Added, Sides, Gone}
use Rattle.walk.specs.TalliedLaws.{none_x, none_y, none_z, add_x, add_y, add_z, ready_x, ready_y, ready_z, added_as}
use Rattle.walk.proofs.MoreLaws.{none, and}
use Rattle.walk.proofs.CountLaws.{none_to}
use Rattle.float.proofs.Literal.{zero_literal}
use lib.Ieee.{binary32}
use Rattle.sparse_grid.specs.Tables.{Grid}
use Rattle.boxes.specs.RangeMax.{CoveredIn}
use Rattle.majorant.specs.declared.part.Part as Code
use Rattle.majorant.specs.Rooting.{RootLaws, read_to}
use Rattle.majorant.specs.RootsMet.{covered_none}
use Rattle.majorant.specs.RootStep.{misses_covered, misses_reads, misses_roots, meets_covered, meets_reads, meets_roots}
use Rattle.majorant.specs.Gone.{gone_none, gone_misses, gone_meets, part_ready, covered_few}
use Rattle.majorant.specs.Walks.{zone_of, size_of, Places, Reads, along, CountLaws, GatherLaws}
use Rattle.majorant.specs.declared.node_max.Tally as Tally
use Rattle.majorant.specs.declared.node_max.Uncounted as Uncounted
use Rattle.majorant.specs.declared.node_max.Maximum as Maximum
use Rattle.majorant.specs.declared.class_walk.Classes as Classes

-- ---- counts

abbrev pub words : Tally.Tally → List ℕ
words t = t.roots ∷ t.upper ∷ t.lower ∷ t.high ∷ t.low ∷ []

pub tally_laws : CountLaws {S = Tally.Tally} (λ c s t. More (words s) (words t) c.roots c.uppers c.lowers c.leaves)
tally_laws = record { none = λ s. none; and = λ a b s t u m n. and m n }

pub uncounted_laws : CountLaws {S = Uncounted.Uncounted} (λ c s t. Unit {0})
uncounted_laws = record { none = λ s. tt; and = λ a b s t u m n. tt }

-- ---- the maximum

module _ (f : Places) where
  empty : (a : Axis) (q : Zone) (k x y z : ℕ) → At (along a q k k) x y z → ⊥
  empty x_axis q k x y z s = omega (arith, s.x_low, s.x_high)
  empty y_axis q k x y z s = omega (arith, s.y_low, s.y_high)
  empty z_axis q k x y z s = omega (arith, s.z_low, s.z_high)

  most : (a : Axis) (q : Zone) (lo at next : ℕ) → lo ≤ at → at ≤ next → (p r : Float) → Most f (At (along a q lo at)) p
      → Most f (At (along a q at next)) r → Most f (At (along a q lo next)) (greater p r)
  most x_axis q lo at next h l p r m n = join_x h l m n refl
  most y_axis q lo at next h l p r m n = join_y h l m n refl
  most z_axis q lo at next h l p r m n = join_z h l m n refl

pub maximum_laws : {C : Type 0} {M : Reads → C → C → Type 0} → CountLaws M
    → GatherLaws {S = Maximum.Maximum C} (λ s q. lt s.maximum +0 ≡ false) (λ f q c s t. Joined s.maximum f (At q) t.maximum × M c s.counts t.counts)
maximum_laws laws = record {
  none = λ a f q r k s h. (joined_none h (empty f a q k), laws.none s.counts);
  join = λ a f q lo at next c d s t u h l j k. (joined_more (most f a q lo at next h l) j.0 k.0, laws.and c d s.counts t.counts u.counts j.1 k.1);
  fit = λ a f q lo at next hi c s t h l m n j. joined_not_below n j.0;
  same = λ f g q c s t e j. (joined_as (λ p m. most_as e m) j.0, j.1);
}

-- ---- classes

pub record Classed (f : Places) (q : Zone) (s t : Classes.Classes) : Type 0 where
  pub limits : t.limits.now ≡ s.limits.now
  pub long : length t.counts ≡ length s.counts
  pub added : Added s.limits.now f q s.counts t.counts

pub classes_laws : GatherLaws {S = Classes.Classes} (λ s q. Ready s.limits.now s.counts q) (λ f q c s t. Classed f q s t)
classes_laws = record {
  none = λ a f q r k s h. record { limits = refl; long = refl; added = nothing a f q k s };
  join = λ a f q lo at next c d s t u h l j k. record {
    limits = k.limits ∙ j.limits;
    long = k.long ∙ j.long;
    added = more a f q lo at next s t u h l j.added (subst (λ (m : List Float). Added m f (along a q at next) t.counts u.counts) j.limits k.added);
  };
  fit = λ a f q lo at next hi c s t h l m n j. subst (λ (k : List Float). Ready k t.counts (along a q at next)) (sym j.limits)
      (room a f q lo at next hi s t h l m n j.long j.added);
  same = λ f g q c s t e j. record { limits = j.limits; long = j.long; added = added_as e j.added };
}
  where
    nothing : (a : Axis) (f : Places) (q : Zone) (k : ℕ) (s : Classes.Classes) → Added s.limits.now f (along a q k k) s.counts s.counts
    nothing x_axis f q k s = none_x s.counts q k
    nothing y_axis f q k s = none_y s.counts q k
    nothing z_axis f q k s = none_z s.counts q k

    more : (a : Axis) (f : Places) (q : Zone) (lo at next : ℕ) (s t u : Classes.Classes) → lo ≤ at → at ≤ next
        → Added s.limits.now f (along a q lo at) s.counts t.counts → Added s.limits.now f (along a q at next) t.counts u.counts
        → Added s.limits.now f (along a q lo next) s.counts u.counts
    more x_axis f q lo at next s t u h l = add_x q h l
    more y_axis f q lo at next s t u h l = add_y q h l
    more z_axis f q lo at next s t u h l = add_z q h l

    room : (a : Axis) (f : Places) (q : Zone) (lo at next hi : ℕ) (s t : Classes.Classes) → lo ≤ at → at ≤ next → next ≤ hi
        → Ready s.limits.now s.counts (along a q lo hi) → length t.counts ≡ length s.counts
        → Added s.limits.now f (along a q lo at) s.counts t.counts → Ready s.limits.now t.counts (along a q at next)
    room x_axis f q lo at next hi s t h l m = ready_x q h l m
    room y_axis f q lo at next hi s t h l m = ready_y q h l m
    room z_axis f q lo at next hi s t h l m = ready_z q h l m

pub classed_none : (f : Places) (q : Zone) (k : ℕ) (s : Classes.Classes) → Classed f (along_x q k k) s s
classed_none f q k s = record { limits = refl; long = refl; added = none_x s.counts q k }

-- ---- the roots in order

-- the maximum of what the first i roots hold, of how many blocks, and what was read of them
pub record MaxAfter {C : Type 0} (M : Reads → C → C → Type 0) (g : Grid) (p : Code.Part) (i : ℕ) (s t : Maximum.Maximum C) (k : ℕ) : Type 0 where
  pub covered : CoveredIn g i p.x p.y p.z t.maximum k
  pub reads : M (read_to g (zone_of p) i) s.counts t.counts
  pub roots : k ≡ steps_to roots_only g (zone_of p) i

pub maximum_roots : {C : Type 0} {M : Reads → C → C → Type 0} → CountLaws M
    → RootLaws {S = Maximum.Maximum C} (λ p. Unit {0}) (λ s. s.maximum ≡ +0) (λ s q. lt s.maximum +0 ≡ false)
    (λ f q c s t. Joined s.maximum f (At q) t.maximum × M c s.counts t.counts) (λ p. 1) (λ g p i s t k. MaxAfter M g p i s t k)
maximum_roots {C} {M} laws = record {
  none = λ g p s h. record {
    covered = subst (λ (m : Float). CoveredIn g 0 p.x p.y p.z m 0) (zero_literal binary32 ∙ sym h)
        (covered_none g p.x.lo p.x.hi p.y.lo p.y.hi p.z.lo p.z.hi);
    reads = subst (λ (c : Reads). M c s.counts s.counts)
        (λ j. record {
          roots = 0;
          uppers = none_to uppers_only g (zone_of p) j;
          lowers = none_to lowers_only g (zone_of p) j;
          leaves = none_to leaves_only g (zone_of p) j;
        }) (laws.none s.counts);
    roots = none_to roots_only g (zone_of p);
  };
  miss = λ g p i s t k r f h a. record {
    covered = misses_covered r f h a.covered;
    reads = subst (λ (c : Reads). M c s.counts t.counts) (sym (misses_reads r f h)) a.reads;
    roots = a.roots ∙ sym (misses_roots r f h);
  };
  fit = λ g p c i s t k r f u l a. most_not_below a.covered.most;
  few = λ g p c i s t k r f u l h a. omega (arith, a.covered.small, h);
  meet = λ g p c i e s t u k r f n l is a d. record {
    covered = meets_covered r f l is a.covered d.0;
    reads = subst (λ (c : Reads). M c s.counts u.counts) (meets_reads r f l is) (laws.and _ _ s.counts t.counts u.counts a.reads d.1);
    roots = ap (λ (n : ℕ). n + 1) a.roots ∙ sym (meets_roots r f l is);
  };
}

pub record ClassAfter (g : Grid) (p : Code.Part) (i : ℕ) (s t : Classes.Classes) (k : ℕ) : Type 0 where
  pub limits : t.limits.now ≡ s.limits.now
  pub few : length t.limits.now ≤ 16
  pub long : length t.counts ≡ 17
  pub gone : Gone g t.limits.now i (zone_of p) t.counts k

pub classes_roots : RootLaws {S = Classes.Classes} (λ p. Sides p.x p.y p.z)
    (λ s. (length s.limits.now ≤ 16) × (length s.counts ≡ 17) × ((k : ℕ) → k < 17 → get_or s.counts k 0 ≡ 0))
    (λ s q. Ready s.limits.now s.counts q) (λ f q c s t. Classed f q s t) size_of (λ g p i s t k. ClassAfter g p i s t k)
classes_roots = record {
  none = λ g p s h. record { limits = refl; few = h.0; long = h.1; gone = gone_none g s.limits.now (zone_of p) s.counts h.2 };
  miss = λ g p i s t k r f h a. record { limits = a.limits; few = a.few; long = a.long; gone = gone_misses r f h a.gone };
  fit = λ g p c i s t k r f u l a. part_ready r f u l a.gone a.few a.long;
  few = λ g p c i s t k r f u l h a. omega (arith, covered_few r f u l a.gone);
  meet = λ g p c i e s t u k r f n l is a d. record {
    limits = d.limits ∙ a.limits;
    few = subst (λ (m : List Float). length m ≤ 16) (sym d.limits) a.few;
    long = d.long ∙ a.long;
    gone = subst (λ (m : List Float). Gone g m (i + 1) (zone_of p) u.counts (k + size_of c)) (sym d.limits) (gone_meets r f n l a.gone is d.added);
  };
}
