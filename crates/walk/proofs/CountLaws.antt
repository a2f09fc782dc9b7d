-- The counts as the code makes them: one cell more along a loop, the entry of a cell, one root more. Assumes nothing.
use Rattle.std.specs.Prelude.{ℕ, ◌+◌, ◌-◌, ◌*◌, ◌/◌, ◌%◌, ◌≤◌, ◌<◌, ◌≡◌, true, false, not, ◌⊎◌, ltb, length, Float}
use Rattle.std.proofs.Common.{one-mul, add-mul, div-mul-le_self, add-one, arith, ◌∙◌, ⊎_elim, ltb-false}
use Rattle.std.proofs.Math.Nat.{div-eq_of_lt-le}
use Rattle.std.proofs.Math.Path.{refl, sym, ap}
use mathlib.Core.List.{List, []}
use Rattle.sparse_grid.specs.declared.Entry.{Entry}
use Rattle.sparse_grid.specs.declared.Entry.TheVariants.{Child, Tile}
use Rattle.sparse_grid.specs.Tables.{Grid, entry_at, block_at}
use Rattle.sparse_grid.specs.Inner.{nodes_of}
use Rattle.sparse_grid.specs.Biased.{raised}
use Rattle.boxes.proofs.RootReads.{or_false}
use Rattle.boxes.specs.declared.Span.{Span}
use Rattle.boxes.specs.RangeMax.{Full, Cut, Clip, apart, lower_slot, upper_slot}
use Rattle.walk.specs.Walk.{Zone, Price, below, leaf_steps, lower_steps, upper_steps, root_steps, steps, roots_only, uppers_only}
use Rattle.walk.specs.Sums.{sum_none, sum_suc}
use Rattle.walk.specs.Gather.{Gathers, zone, volume, turn_x, turn_y, turn_z}
use Rattle.walk.proofs.Local.{AlikeIn, apart_x, apart_y, apart_z}
use Rattle.walk.proofs.NodeWalk.{InOne, lower_one, upper_one, leaf_volume, lower_gather, upper_gather, upper_local, below_same, apart_meets, clip_alike}
use Rattle.walk.specs.Counts.{zone_in, AllIn, lower_count, upper_count, steps_to}
use Rattle.walk.proofs.Caps.{lower_cap, upper_cap}

-- ---- a loop over cells of `side` coordinates, from lo to end: at is lo, a border, or the end

pub record Going (side lo end at : ℕ) : Type 0 where
  pub low : lo ≤ at
  pub high : at ≤ end
  pub border : lo < at → at < end → at % side ≡ 0

pub begun : {side lo end : ℕ} → lo ≤ end → Going side lo end lo
begun h = record { low = omega arith; high = h; border = λ l k. omega arith }

pub going : {side lo end at next : ℕ} → Going side lo end at → Cut side at end next → Going side lo end next
going g c = record { low = omega (arith, g.low, c.more); high = c.within; border = λ l k. c.border k }

-- G of a span adds up along such a loop, where all of it lies in one cell of S coordinates
pub record Along (side S : ℕ) (G : Span → ℕ) : Type 0 where
  pub none : (a : ℕ) → 0 ≡ G (record { lo = a; hi = a })
  pub more : {lo end at next : ℕ} → Going side lo end at → Cut side at end next → end ≤ lo / S * S + S
      → G (record { lo = lo; hi = at }) + G (record { lo = at; hi = next }) ≡ G (record { lo = lo; hi = next })

-- F of three spans does so on each axis
pub record Adds (side S : ℕ) (F : Span → Span → Span → ℕ) : Type 0 where
  pub x : (y z : Span) → Along side S (λ s. F s y z)
  pub y : (x z : Span) → Along side S (λ s. F x s z)
  pub z : (x y : Span) → Along side S (λ s. F x y s)

pub no_adds : {side S : ℕ} → Adds side S (λ x y z. 0)
no_adds = record {
  x = λ y z. record { none = λ a. refl; more = λ o c i. refl };
  y = λ x z. record { none = λ a. refl; more = λ o c i. refl };
  z = λ x y. record { none = λ a. refl; more = λ o c i. refl };
}

module _ (side S : ℕ) (p : 0 < side) (f : Zone → ℕ → ℕ → ℕ → ℕ) (g : (a b c : ℕ) → Gathers side (λ q. f q a b c)) where
  -- what is left of the loop starts in the same cell
  here : {lo end at next : ℕ} → Going side lo end at → Cut side at end next → end ≤ lo / S * S + S → at / S ≡ lo / S
  here {lo} o c i =
      let h = div-mul-le_self lo S in let k = add-mul (lo / S) 1 S in let l = one-mul S in
      div-eq_of_lt-le S (omega (arith, o.low)) (omega (arith, c.more, c.within))

  adds : Adds side S (λ x y z. f (zone_in x y z) (x.lo / S) (y.lo / S) (z.lo / S))
  adds = record {
    x = λ y z. record {
      none = λ a. sym ((g (a / S) (y.lo / S) (z.lo / S)).none_x (zone_in y y z) a);
      more = λ {lo} {end} {at} {next} o c i.
          turn_x side (λ q. f q (lo / S) (y.lo / S) (z.lo / S)) (g _ _ _) p (zone_in y y z) lo at next _ _ o.low (omega (arith, c.more))
          (λ l. o.border l (omega (arith, c.more, c.within))) refl
          (ap (λ (n : ℕ). f (zone at next y.lo y.hi z.lo z.hi) n (y.lo / S) (z.lo / S)) (here o c i));
    };
    y = λ x z. record {
      none = λ a. sym ((g (x.lo / S) (a / S) (z.lo / S)).none_y (zone_in x x z) a);
      more = λ {lo} {end} {at} {next} o c i.
          turn_y side (λ q. f q (x.lo / S) (lo / S) (z.lo / S)) (g _ _ _) p (zone_in x x z) lo at next _ _ o.low (omega (arith, c.more))
          (λ l. o.border l (omega (arith, c.more, c.within))) refl
          (ap (λ (n : ℕ). f (zone x.lo x.hi at next z.lo z.hi) (x.lo / S) n (z.lo / S)) (here o c i));
    };
    z = λ x y. record {
      none = λ a. sym ((g (x.lo / S) (y.lo / S) (a / S)).none_z (zone_in x y y) a);
      more = λ {lo} {end} {at} {next} o c i.
          turn_z side (λ q. f q (x.lo / S) (y.lo / S) (lo / S)) (g _ _ _) p (zone_in x y y) lo at next _ _ o.low (omega (arith, c.more))
          (λ l. o.border l (omega (arith, c.more, c.within))) refl
          (ap (λ (n : ℕ). f (zone x.lo x.hi y.lo y.hi at next) (x.lo / S) (y.lo / S) n) (here o c i));
    };
  }

pub lower_adds : (p : Price) (links : List ℕ) (values : List Float) (k : ℕ) → Adds 8 128 (lower_count p links values k)
unfolding lower_count
lower_adds p links values k =
    let g = nodes_of [] [] links values [] in
    adds 8 128 (omega arith) (λ q a b c. lower_steps p g q k a b c) (λ a b c. lower_gather p g k a b c)

pub upper_adds : (p : Price) (upper_links : List ℕ) (upper_values : List Float) (links : List ℕ) (values : List Float) (k : ℕ)
    → Adds 128 4096 (upper_count p upper_links upper_values links values k)
unfolding upper_count
upper_adds p upper_links upper_values links values k =
    let g = nodes_of upper_links upper_values links values [] in
    adds 128 4096 (omega arith) (λ q a b c. upper_steps p g q k a b c) (λ a b c. upper_gather p g k a b c)

-- ---- a part in one cell: the one entry that code reads for it, and what is below

in_one : {side : ℕ} {x y z : Span} → Full x y z → AllIn side x y z → InOne side (zone_in x y z)
in_one f h = record { x_some = f.x_some; y_some = f.y_some; z_some = f.z_some; x = h.0; y = h.1; z = h.2 }

module _ (p : Price) (links : List ℕ) (values : List Float) (k : ℕ) {x y z : Span} (f : Full x y z) (h : AllIn 8 x y z) where
  pub lower_entry_lem : {e : Entry} → entry_at links values (lower_slot k x.lo y.lo z.lo) ≡ e
      → p.lower + below e (λ j. p.leaf * volume (zone_in x y z)) ≡ lower_count p links values k x y z
  unfolding lower_count
  lower_entry_lem {e} q =
      let g = nodes_of [] [] links values [] in
      ap (λ (n : ℕ). p.lower + n) (below_same e _ _ (λ j. sym (leaf_volume p g (zone_in x y z) j (in_one f h))))
      ∙ ap (λ (d : Entry). p.lower + below d (λ j. leaf_steps p (zone_in x y z) j (x.lo / 8) (y.lo / 8) (z.lo / 8))) (sym q)
      ∙ sym (lower_one p g (zone_in x y z) k (in_one f h))

-- below a lower node no upper entry is read
pub no_uppers : (links : List ℕ) (values : List Float) (k : ℕ) (x y z : Span) → lower_count uppers_only links values k x y z ≡ 0
unfolding lower_count
no_uppers links values k x y z =
    let h = lower_cap uppers_only (nodes_of [] [] links values []) (zone_in x y z) k (x.lo / 128) (y.lo / 128) (z.lo / 128) in omega arith

module _ (p : Price) (upper_links : List ℕ) (upper_values : List Float) (links : List ℕ) (values : List Float) (k : ℕ) {x y z : Span}
    (f : Full x y z) (h : AllIn 128 x y z) where
  pub upper_entry_lem : {e : Entry} → entry_at upper_links upper_values (upper_slot k x.lo y.lo z.lo) ≡ e
      → p.upper + below e (λ j. lower_count p links values j x y z) ≡ upper_count p upper_links upper_values links values k x y z
  unfolding upper_count lower_count lower_steps
  upper_entry_lem {e} q =
      let g = nodes_of upper_links upper_values links values [] in
      ap (λ (d : Entry). p.upper + below d (λ j. lower_steps p g (zone_in x y z) j (x.lo / 128) (y.lo / 128) (z.lo / 128))) (sym q)
      ∙ sym (upper_one p g (zone_in x y z) k (in_one f h))

-- ---- the roots in order

module _ (p : Price) (g : Grid) (q : Zone) where
  pub none_to : 0 ≡ steps_to p g q 0
  unfolding steps_to
  none_to = sym (sum_none _)

  pub all_to : steps_to p g q (length g.root_links) ≡ steps p g q
  unfolding steps_to steps
  all_to = refl

  pub next_to : (i : ℕ) → steps_to p g q (i + 1) ≡ steps_to p g q i + root_steps p g q i (block_at g i)
  unfolding steps_to
  next_to i = ap (λ (n : ℕ). steps_to p g q n) (add-one i) ∙ sum_suc i _

-- below a root no further root is read
pub no_roots : (g : Grid) (q : Zone) (e : Entry) (a b c : ℕ) → below e (λ k. upper_steps roots_only g q k a b c) ≡ 0
no_roots g q (Child k) a b c = let h = upper_cap roots_only g q k a b c in omega arith
no_roots g q (Tile v) a b c = refl

-- root i, by its block
module _ (p : Price) (g : Grid) (i : ℕ) {x y z : Span} (f : Full x y z) where
  abbrev bx : ℕ
  bx = raised (block_at g i).x

  abbrev by : ℕ
  by = raised (block_at g i).y

  abbrev bz : ℕ
  bz = raised (block_at g i).z

  -- it misses the box
  pub root_apart : (apart bx x.lo x.hi ≡ true) ⊎ ((apart by y.lo y.hi ≡ true) ⊎ (apart bz z.lo z.hi ≡ true))
      → root_steps p g (zone_in x y z) i (block_at g i) ≡ 0
  root_apart h =
      ⊎_elim (λ a. apart_x 4096 (zone_in x y z) bx by bz _ (apart_meets bx x.lo x.hi f.x_some ∙ ap not a))
      (λ w. ⊎_elim (λ a. apart_y 4096 (zone_in x y z) bx by bz _ (apart_meets by y.lo y.hi f.y_some ∙ ap not a))
      (λ a. apart_z 4096 (zone_in x y z) bx by bz _ (apart_meets bz z.lo z.hi f.z_some ∙ ap not a)) w) h

  -- it meets the box
  module _ (mx : apart bx x.lo x.hi ≡ false) (my : apart by y.lo y.hi ≡ false) (mz : apart bz z.lo z.hi ≡ false) where
    pub root_met : root_steps p g (zone_in x y z) i (block_at g i)
        ≡ p.root + below (entry_at g.root_links g.root_values i) (λ k. upper_steps p g (zone_in x y z) k bx by bz)
    root_met = rw (
      apart_meets bx x.lo x.hi f.x_some ∙ ap not mx,
      apart_meets by y.lo y.hi f.y_some ∙ ap not my,
      apart_meets bz z.lo z.hi f.z_some ∙ ap not mz,
    )

    -- cx, cy, cz are the part in its block: what is read below it is that of the part
    module _ {cx cy cz : Span} (px : Clip bx x.lo x.hi cx.lo cx.hi) (py : Clip by y.lo y.hi cy.lo cy.hi)
        (pz : Clip bz z.lo z.hi cz.lo cz.hi) (part : Full cx cy cz) where
      alike : AlikeIn 4096 (zone_in x y z) (zone_in cx cy cz) bx by bz
      alike = record {
        x = clip_alike bx x.lo x.hi cx.lo cx.hi f.x_some (not_apart bx x.lo x.hi mx).0 (not_apart bx x.lo x.hi mx).1 px;
        y = clip_alike by y.lo y.hi cy.lo cy.hi f.y_some (not_apart by y.lo y.hi my).0 (not_apart by y.lo y.hi my).1 py;
        z = clip_alike bz z.lo z.hi cz.lo cz.hi f.z_some (not_apart bz z.lo z.hi mz).0 (not_apart bz z.lo z.hi mz).1 pz;
      }
        where
          not_apart : (b lo hi : ℕ) → apart b lo hi ≡ false → (lo / 4096 ≤ b) × (b ≤ (hi - 1) / 4096)
          not_apart b lo hi h =
              let w = or_false (ltb b (lo / 4096)) (ltb ((hi - 1) / 4096) b) h in
              (ltb-false b (lo / 4096) w.0, ltb-false ((hi - 1) / 4096) b w.1)

      -- the block by the part's own coordinates
      own : {b lo hi a e : ℕ} → Clip b lo hi a e → a < e → b ≡ a / 4096
      own c l = omega (arith, c.block_low, c.block_high)

      pub upper_here : (k : ℕ) → upper_steps p g (zone_in x y z) k bx by bz
          ≡ upper_count p g.upper_links g.upper_values g.lower_links g.lower_values k cx cy cz
      unfolding upper_count upper_steps lower_steps
      upper_here k =
          upper_local p g k (zone_in x y z) (zone_in cx cy cz) bx by bz alike
          ∙ (λ t. upper_steps p g (zone_in cx cy cz) k (own px part.x_some t) (own py part.y_some t) (own pz part.z_some t))
