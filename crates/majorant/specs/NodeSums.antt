-- What is read of a node adds up along cuts at the borders of its cells, and for a part in one cell it is that of one entry. Assumes nothing.
use Rattle.std.proofs.Common.{◌≡◌, ℕ, ◌+◌, ◌*◌, ◌/◌, ◌%◌, ◌<◌, ◌≤◌, T, ltb, leb, ltb→lt, leb→le, List, sym, refl, arith}
use lib.Ieee.{Float}
use Rattle.sparse_grid.specs.declared.Entry.TheVariants.{Child, Tile}
use Rattle.sparse_grid.specs.Tables.{entry_at}
use Rattle.sparse_grid.specs.declared.Entry.{Entry}
use Rattle.boxes.specs.declared.Span.{Span}
use Rattle.boxes.specs.RangeMax.{lower_slot, upper_slot}
use Rattle.medium.specs.Medium.{Axis, x_axis, y_axis, z_axis}
use Rattle.walk.specs.Walk.{Zone, uppers_only, lowers_only, leaves_only}
use Rattle.walk.specs.Counts.{lower_count, upper_count}
use Rattle.walk.proofs.CountLaws.{Along, Adds, no_adds, lower_adds, upper_adds, lower_entry_lem, upper_entry_lem, no_uppers}
use Rattle.majorant.specs.Walks.{Reads, no_reads, one_upper, one_lower, leaf_reads, both, along, NodeLaws, span, lower_reads, upper_reads, Within, zone_of, size_of}
use Rattle.majorant.specs.declared.part.Part as Code

module _ {side own : ℕ} {U L W : Span → Span → Span → ℕ} (u : Adds side own U) (l : Adds side own L) (w : Adds side own W) where
  abbrev reads : Zone → Reads
  reads q =
      let x = span q.x0 q.x1 in let y = span q.y0 q.y1 in let z = span q.z0 q.z1 in
      record { roots = 0; uppers = U x y z; lowers = L x y z; leaves = W x y z }

  sums : NodeLaws side own reads
  sums = record { none = none; more = more }
    where
      none : (a : Axis) (q : Zone) (k : ℕ) → reads (along a q k k) ≡ no_reads
      none x_axis q k =
          let y = span q.y0 q.y1 in let z = span q.z0 q.z1 in
          λ i. record { roots = 0; uppers = sym ((u.x y z).none k) i; lowers = sym ((l.x y z).none k) i; leaves = sym ((w.x y z).none k) i }
      none y_axis q k =
          let x = span q.x0 q.x1 in let z = span q.z0 q.z1 in
          λ i. record { roots = 0; uppers = sym ((u.y x z).none k) i; lowers = sym ((l.y x z).none k) i; leaves = sym ((w.y x z).none k) i }
      none z_axis q k =
          let x = span q.x0 q.x1 in let y = span q.y0 q.y1 in
          λ i. record { roots = 0; uppers = sym ((u.z x y).none k) i; lowers = sym ((l.z x y).none k) i; leaves = sym ((w.z x y).none k) i }

      cut : {G : Span → ℕ} → Along side own G → (lo at next : ℕ) → lo ≤ at → at < next → next ≤ at / side * side + side
          → next ≤ lo / own * own + own → (lo < at → at % side ≡ 0) → G (span lo at) + G (span at next) ≡ G (span lo next)
      cut m lo at next h k c o b = m.more {lo = lo} {end = next} {at = at} {next = next}
          (record { low = h; high = omega arith; border = λ p q. b p })
          (record { more = k; within = omega arith; cell = c; border = λ p. absurd (omega arith) }) o

      more : (a : Axis) (q : Zone) (lo at next : ℕ) → lo ≤ at → at < next → next ≤ at / side * side + side → next ≤ lo / own * own + own
          → (lo < at → at % side ≡ 0) → both (reads (along a q lo at)) (reads (along a q at next)) ≡ reads (along a q lo next)
      more x_axis q lo at next h k c o b =
          let y = span q.y0 q.y1 in let z = span q.z0 q.z1 in
          λ i. record {
            roots = 0;
            uppers = cut (u.x y z) lo at next h k c o b i;
            lowers = cut (l.x y z) lo at next h k c o b i;
            leaves = cut (w.x y z) lo at next h k c o b i;
          }
      more y_axis q lo at next h k c o b =
          let x = span q.x0 q.x1 in let z = span q.z0 q.z1 in
          λ i. record {
            roots = 0;
            uppers = cut (u.y x z) lo at next h k c o b i;
            lowers = cut (l.y x z) lo at next h k c o b i;
            leaves = cut (w.y x z) lo at next h k c o b i;
          }
      more z_axis q lo at next h k c o b =
          let x = span q.x0 q.x1 in let y = span q.y0 q.y1 in
          λ i. record {
            roots = 0;
            uppers = cut (u.z x y) lo at next h k c o b i;
            lowers = cut (l.z x y) lo at next h k c o b i;
            leaves = cut (w.z x y) lo at next h k c o b i;
          }

-- sides
pub positive : {n : ℕ} → T (ltb 0 n) → 0 < n
positive {n} h = ltb→lt 0 n h

pub at_most : {n : ℕ} → T (leb n 128) → n ≤ 128
at_most {n} h = leb→le n 128 h

-- a leaf is counted as a whole
pub leaf_laws : NodeLaws 1 8 (λ q. no_reads)
leaf_laws = record { none = λ a q k. refl; more = λ a q lo at next h k c o b. refl }

pub lower_laws : (links : List ℕ) (values : List Float) (k : ℕ) → NodeLaws 8 128 (lower_reads links values k)
lower_laws links values k = sums no_adds (lower_adds lowers_only links values k) (lower_adds leaves_only links values k)

pub upper_laws : (upper_links : List ℕ) (upper_values : List Float) (links : List ℕ) (values : List Float) (k : ℕ)
    → NodeLaws 128 4096 (upper_reads upper_links upper_values links values k)
upper_laws upper_links upper_values links values k = sums
    (upper_adds uppers_only upper_links upper_values links values k)
    (upper_adds lowers_only upper_links upper_values links values k)
    (upper_adds leaves_only upper_links upper_values links values k)

-- ---- one entry

module _ (links : List ℕ) (values : List Float) (k : ℕ) (p : Code.Part) (w : Within 8 8 8 p) where
  abbrev lower_entry : Entry
  lower_entry = entry_at links values (lower_slot k p.x.lo p.y.lo p.z.lo)

  pub lower_child : {j : ℕ} → lower_entry ≡ Child j → both one_lower (both (leaf_reads (size_of p)) no_reads) ≡ lower_reads links values k (zone_of p)
  lower_child e =
      let l = lower_entry_lem lowers_only links values k w.full (w.x_in, w.y_in, w.z_in) e in
      let v = lower_entry_lem leaves_only links values k w.full (w.x_in, w.y_in, w.z_in) e in
      let m : 1 + (0 + 0) ≡ lower_count lowers_only links values k p.x p.y p.z = omega (arith, l) in
      let n : 0 + (size_of p + 0) ≡ lower_count leaves_only links values k p.x p.y p.z = omega (arith, v) in
      λ i. record { roots = 0; uppers = 0; lowers = m i; leaves = n i }

  pub lower_tile : {v : Float} → lower_entry ≡ Tile v → both one_lower no_reads ≡ lower_reads links values k (zone_of p)
  lower_tile e =
      let l = lower_entry_lem lowers_only links values k w.full (w.x_in, w.y_in, w.z_in) e in
      let v = lower_entry_lem leaves_only links values k w.full (w.x_in, w.y_in, w.z_in) e in
      λ i. record { roots = 0; uppers = 0; lowers = l i; leaves = v i }

module _ (upper_links : List ℕ) (upper_values : List Float) (links : List ℕ) (values : List Float) (k : ℕ) (p : Code.Part) (w : Within 128 128 128 p) where
  abbrev upper_entry : Entry
  upper_entry = entry_at upper_links upper_values (upper_slot k p.x.lo p.y.lo p.z.lo)

  pub upper_child : {j : ℕ} → upper_entry ≡ Child j
      → both one_upper (lower_reads links values j (zone_of p)) ≡ upper_reads upper_links upper_values links values k (zone_of p)
  upper_child {j} e =
      let u = upper_entry_lem uppers_only upper_links upper_values links values k w.full (w.x_in, w.y_in, w.z_in) e in
      let l = upper_entry_lem lowers_only upper_links upper_values links values k w.full (w.x_in, w.y_in, w.z_in) e in
      let v = upper_entry_lem leaves_only upper_links upper_values links values k w.full (w.x_in, w.y_in, w.z_in) e in
      let m : 1 + 0 ≡ upper_count uppers_only upper_links upper_values links values k p.x p.y p.z
      = omega (arith, u, no_uppers links values j p.x p.y p.z) in
      λ i. record { roots = 0; uppers = m i; lowers = l i; leaves = v i }

  pub upper_tile : {v : Float} → upper_entry ≡ Tile v
      → both one_upper no_reads ≡ upper_reads upper_links upper_values links values k (zone_of p)
  upper_tile e =
      let u = upper_entry_lem uppers_only upper_links upper_values links values k w.full (w.x_in, w.y_in, w.z_in) e in
      let l = upper_entry_lem lowers_only upper_links upper_values links values k w.full (w.x_in, w.y_in, w.z_in) e in
      let v = upper_entry_lem leaves_only upper_links upper_values links values k w.full (w.x_in, w.y_in, w.z_in) e in
      λ i. record { roots = 0; uppers = u i; lowers = l i; leaves = v i }
