-- One root more: it misses the part of a box, or holds one block of it; the maximum of that, and what was read. Assumes nothing.
use Rattle.std.proofs.Common.{◌≡◌, ℕ, ◌+◌, ◌<◌, Bool, true, false, ◌||◌, ◌⊎◌, T, length, sym, refl, ap, ◌∙◌, subst, inl, inr, le_trans, arith}
use lib.Ieee.{Float}
use Rattle.sparse_grid.specs.declared.Entry.{Entry}
use Rattle.sparse_grid.specs.declared.Entry.TheVariants.{Child, Tile}
use Rattle.sparse_grid.specs.Tables.{Grid, block_at, entry_at}
use Rattle.sparse_grid.specs.Biased.{raised}
use Rattle.boxes.specs.declared.Span.{Span}
use Rattle.boxes.specs.Most.{Joined}
use Rattle.boxes.specs.RangeMax.{Within as Places, Full, InCell, Clip, apart, child_in, read_at, corner, CoveredIn}
use Rattle.boxes.proofs.MostLaws.{most_as}
use Rattle.boxes.proofs.NodeCells.{linked_room}
use Rattle.boxes.proofs.RootReads.{back_raised}
use Rattle.walk.specs.Walk.{Price, upper_steps, roots_only, uppers_only, lowers_only, leaves_only, below as walk_below}
use Rattle.walk.specs.Counts.{upper_count, steps_to}
use Rattle.walk.proofs.CountLaws.{next_to, no_roots, root_apart, root_met, upper_here}
use Rattle.majorant.specs.declared.part.Part as Code
use Rattle.majorant.specs.Walks.{Within, zone_of, both}
use Rattle.majorant.specs.Rooting.{Rooted, Clips, misses, below, reads_below, read_to}
use Rattle.majorant.specs.RootsMet.{clip_some, step_apart, step_meets, root_read}

-- ---- the tests

or_false : (a b : Bool) → (a || b) ≡ false → (a ≡ false) × (b ≡ false)
or_false true b h = absurd (subst T h tt)
or_false false b h = (refl, h)

or_true : (a b : Bool) → (a || b) ≡ true → (a ≡ true) ⊎ (b ≡ true)
or_true true b h = inl refl
or_true false b h = inr h

abbrev bx : Grid → ℕ → ℕ
bx g i = raised (block_at g i).x

abbrev by : Grid → ℕ → ℕ
by g i = raised (block_at g i).y

abbrev bz : Grid → ℕ → ℕ
bz g i = raised (block_at g i).z

module _ (g : Grid) (i : ℕ) (p : Code.Part) where
  pub missed_on : misses g i p ≡ true
      → (apart (bx g i) p.x.lo p.x.hi ≡ true) ⊎ ((apart (by g i) p.y.lo p.y.hi ≡ true) ⊎ (apart (bz g i) p.z.lo p.z.hi ≡ true))
  missed_on h = go (apart (bx g i) p.x.lo p.x.hi) (apart (by g i) p.y.lo p.y.hi) h
    where
      go : (a b : Bool) {c : Bool} → (a || b || c) ≡ true → (a ≡ true) ⊎ ((b ≡ true) ⊎ (c ≡ true))
      go true b h = inl refl
      go false true h = inr (inl refl)
      go false false h = inr (inr h)

  pub met_on : misses g i p ≡ false
      → (apart (bx g i) p.x.lo p.x.hi ≡ false) × (apart (by g i) p.y.lo p.y.hi ≡ false) × (apart (bz g i) p.z.lo p.z.hi ≡ false)
  met_on h =
      let u = or_false (apart (bx g i) p.x.lo p.x.hi || apart (by g i) p.y.lo p.y.hi) (apart (bz g i) p.z.lo p.z.hi) h in
      let v = or_false (apart (bx g i) p.x.lo p.x.hi) (apart (by g i) p.y.lo p.y.hi) u.0 in
      (v.0, v.1, u.1)

-- ---- a root of a sound grid

module _ {g : Grid} {i : ℕ} (r : Rooted g i) where
  pub child_in_lem : {e : Entry} → e ≡ entry_at g.root_links g.root_values i → child_in e (length g.upper_links)
  child_in_lem is =
      let n = length g.upper_links in
      subst (λ (e : Entry). child_in e n) (sym is) (linked_room g.root_links g.root_values i n (r.sound.root_linked i))

  pub here : block_at g i ≡ corner (bx g i) (by g i) (bz g i)
  here =
      let h = r.sound.ranged i r.inside in
      let b = block_at g i in
      λ k. record { x = back_raised b.x h.0 k; y = back_raised b.y h.1 k; z = back_raised b.z h.2 k }

  module _ {p : Code.Part} (full : Full p.x p.y p.z) where
    -- a root that misses the part
    pub misses_covered : {m : Float} {k : ℕ} → misses g i p ≡ true → CoveredIn g i p.x p.y p.z m k → CoveredIn g (i + 1) p.x p.y p.z m k
    misses_covered h = step_apart g i (bx g i) (by g i) (bz g i) p.x.lo p.x.hi p.y.lo p.y.hi p.z.lo p.z.hi here full.x_some full.y_some full.z_some
        (missed_on g i p h)

    -- what is read so far is what it was
    pub misses_reads : misses g i p ≡ true → read_to g (zone_of p) (i + 1) ≡ read_to g (zone_of p) i
    misses_reads h = λ j. record { roots = 0; uppers = no uppers_only j; lowers = no lowers_only j; leaves = no leaves_only j }
      where
        no : (t : Price) → steps_to t g (zone_of p) (i + 1) ≡ steps_to t g (zone_of p) i
        no t = omega (arith, next_to t g (zone_of p) i, root_apart t g i full (missed_on g i p h))

    pub misses_roots : misses g i p ≡ true → steps_to roots_only g (zone_of p) (i + 1) ≡ steps_to roots_only g (zone_of p) i
    misses_roots h = omega (arith, next_to roots_only g (zone_of p) i, root_apart roots_only g i full (missed_on g i p h))

    -- one that meets it: the part that it holds
    module _ {c : Code.Part} (k : Clips g i p c) where
      pub part_in : Within 4096 4096 4096 c
      part_in =
          let m = met_on g i p k.met in record {
            full = record {
              x_some = clip_some full.x_some m.0 k.x;
              y_some = clip_some full.y_some m.1 k.y;
              z_some = clip_some full.z_some m.2 k.z;
              x_top = le_trans k.x.high full.x_top;
              y_top = le_trans k.y.high full.y_top;
              z_top = le_trans k.z.high full.z_top;
            };
            x_in = within c.x k.x (clip_some full.x_some m.0 k.x);
            y_in = within c.y k.y (clip_some full.y_some m.1 k.y);
            z_in = within c.z k.z (clip_some full.z_some m.2 k.z);
          }
        where
          within : {b lo hi : ℕ} (s : Span) → Clip b lo hi s.lo s.hi → s.lo < s.hi → InCell 4096 s
          within s c l = omega (arith, c.block_low, c.block_high)

      module _ {e : Entry} (is : e ≡ entry_at g.root_links g.root_values i) where
        -- a lookup reads there what its entry has
        pub reads_there : (a b d : ℕ) → Places c.x c.y c.z a b d → below g e a b d ≡ read_at g a b d
        reads_there a b d t =
            ap (λ (e : Entry). below g e a b d) is
            ∙ sym (root_read g r.sound i (bx g i) (by g i) (bz g i)
            p.x.lo p.x.hi p.y.lo p.y.hi p.z.lo p.z.hi c.x.lo c.x.hi c.y.lo c.y.hi c.z.lo c.z.hi r.inside here k.x k.y k.z a b d t)

        pub meets_covered : {m n : Float} {l : ℕ} → CoveredIn g i p.x p.y p.z m l → Joined m (below g e) (Places c.x c.y c.z) n
            → CoveredIn g (i + 1) p.x p.y p.z n (l + 1)
        meets_covered v j =
            let f = part_in.full in
            step_meets g r.sound i (bx g i) (by g i) (bz g i)
            p.x.lo p.x.hi p.y.lo p.y.hi p.z.lo p.z.hi c.x.lo c.x.hi c.y.lo c.y.hi c.z.lo c.z.hi
            r.inside here k.x k.y k.z f.x_some f.y_some f.z_some v (most_as reads_there j.most) j.is

        -- what is read below a child of it
        abbrev in_block : Price → ℕ → ℕ
        in_block t j = upper_steps t g (zone_of p) j (bx g i) (by g i) (bz g i)

        costs : (t : Price) → steps_to t g (zone_of p) (i + 1) ≡ steps_to t g (zone_of p) i + (t.root + walk_below e (in_block t))
        costs t =
            let m = met_on g i p k.met in
            let h = root_met t g i full m.0 m.1 m.2 ∙ ap (λ (e : Entry). t.root + walk_below e (in_block t)) (sym is) in
            omega (arith, next_to t g (zone_of p) i, h)

        by_part : (t : Price) (j : ℕ) → in_block t j ≡ upper_count t g.upper_links g.upper_values g.lower_links g.lower_values j c.x c.y c.z
        by_part t =
            let m = met_on g i p k.met in
            upper_here t g i full m.0 m.1 m.2 k.x k.y k.z part_in.full

        pub meets_roots : steps_to roots_only g (zone_of p) (i + 1) ≡ steps_to roots_only g (zone_of p) i + 1
        meets_roots = omega (arith, costs roots_only, no_roots g (zone_of p) e (bx g i) (by g i) (bz g i))

        pub meets_reads : both (read_to g (zone_of p) i) (reads_below g e (zone_of c)) ≡ read_to g (zone_of p) (i + 1)
        meets_reads = go e (costs uppers_only) (costs lowers_only) (costs leaves_only)
          where
            more : Price → Entry → Type 0
            more t d = steps_to t g (zone_of p) (i + 1) ≡ steps_to t g (zone_of p) i + (t.root + walk_below d (in_block t))

            count : Price → ℕ → ℕ
            count t j = steps_to t g (zone_of p) i + upper_count t g.upper_links g.upper_values g.lower_links g.lower_values j c.x c.y c.z

            go : (d : Entry) → more uppers_only d → more lowers_only d → more leaves_only d
                → both (read_to g (zone_of p) i) (reads_below g d (zone_of c)) ≡ read_to g (zone_of p) (i + 1)
            go (Child j) u l v =
                let a = by_part uppers_only j in let b = by_part lowers_only j in let d = by_part leaves_only j in
                let x : count uppers_only j ≡ steps_to uppers_only g (zone_of p) (i + 1) = omega (arith, u, a) in
                let y : count lowers_only j ≡ steps_to lowers_only g (zone_of p) (i + 1) = omega (arith, l, b) in
                let z : count leaves_only j ≡ steps_to leaves_only g (zone_of p) (i + 1) = omega (arith, v, d) in
                λ n. record { roots = 0; uppers = x n; lowers = y n; leaves = z n }
            go (Tile w) u l v = λ n. record { roots = 0; uppers = sym u n; lowers = sym l n; leaves = sym v n }
