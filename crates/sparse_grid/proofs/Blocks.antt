-- Blocks of roots: a block above all before it is no earlier one, and what a scan finds; the fault of a root.
use Rattle.std.proofs.Common.{◌≡◌, ℕ, zero, suc, ◌+◌, ◌/◌, ◌<◌, ◌≤◌, Bool, true, false, not, ◌&&◌, ◌||◌, length, get_or, sym, refl}
use Rattle.std.proofs.Common.{ap, ◌∙◌, subst, inl, inr, le_refl, lt_of_lt_of_le, eq-or-lt_of_le, le_of_suc-le-suc, add-one, arith}
use Rattle.std.specs.Prelude.{IsTrue}
use lib.Ieee.{nan}
use Rattle.refusals.specs.Faults.{◌then◌, unless}
use Rattle.float.specs.Zero.{+0}
use Rattle.layout.specs.Coordinates.{Coord, eq_z, same_block}
use Rattle.sparse_grid.specs.Tables.{Grid, block_at}
use Rattle.sparse_grid.specs.Validate.{earlier, block_in, entry_fault, root_fault}
use Rattle.sparse_grid.specs.Inner.{rank, ranged, Topped}
use Rattle.sparse_grid.proofs.Signs.{eq_z_true, both}
use Rattle.sparse_grid.proofs.TableLaws.{entry_fault_read}

pub ranged_all : (b : Coord) → IsTrue (ranged b) → IsTrue (block_in b.x) × IsTrue (block_in b.y) × IsTrue (block_in b.z)
ranged_all b h =
    let p = both (block_in b.x && block_in b.y) (block_in b.z) h in
    let q = both (block_in b.x) (block_in b.y) p.0 in
    (q.0, q.1, p.1)

same_coord : (a b : Coord) → same_block a b ≡ true → a ≡ b
same_coord a b h =
    let p = both (eq_z a.x b.x && eq_z a.y b.y) (eq_z a.z b.z) h in
    let q = both (eq_z a.x b.x) (eq_z a.y b.y) p.0 in
    let x = eq_z_true a.x b.x q.0 in
    let y = eq_z_true a.y b.y q.1 in
    let z = eq_z_true a.z b.z p.1 in
    λ i. record { x = x i; y = y i; z = z i }

apart : (a b : Coord) → rank a < rank b → same_block a b ≡ false
apart a b h = go (same_block a b) refl
  where
    go : (t : Bool) → same_block a b ≡ t → same_block a b ≡ false
    go true e = let r = ap rank (same_coord a b e) in absurd (omega arith)
    go false e = e

or_none : (a b : Bool) → a ≡ false → b ≡ false → (a || b) ≡ false
or_none a b p q = λ i. p i || q i

or_some : (a b : Bool) → b ≡ true → (a || b) ≡ true
or_some true b q = refl
or_some false b q = q

module _ (g : Grid) (b : Coord) where
  pub earlier_none : earlier g 0 b ≡ false
  unfolding earlier
  earlier_none = refl

  pub earlier_next : (j : ℕ) → earlier g j b ≡ false → same_block (block_at g j) b ≡ false → earlier g (j + 1) b ≡ false
  unfolding earlier
  earlier_next j p q = ap (λ (k : ℕ). earlier g k b) (add-one j) ∙ or_none (earlier g j b) (same_block (block_at g j) b) p q

  pub earlier_found : (i j : ℕ) → j < i → same_block (block_at g j) b ≡ true → earlier g i b ≡ true
  unfolding earlier
  earlier_found zero j l q = absurd (omega arith)
  earlier_found (suc i) j l q = elim (eq-or-lt_of_le (le_of_suc-le-suc l)) [
    | inl e ↦ or_some (earlier g i b) (same_block (block_at g i) b) (ap (λ (k : ℕ). same_block (block_at g k) b) (sym e) ∙ q)
    | inr k ↦ ap (λ (t : Bool). t || same_block (block_at g i) b) (earlier_found i j k q)
  ]

-- ---- every block before i ranks below top

-- a block that rises above all before it is none of them
pub risen : (g : Grid) (i top : ℕ) (b : Coord) → Topped g.blocks i top → top ≤ rank b → earlier g i b ≡ false
unfolding earlier
risen g zero top b t h = refl
risen g (suc i) top b t h =
    or_none (earlier g i b) (same_block (block_at g i) b)
    (risen g i top b (λ j l. t j (omega arith)) h)
    (apart (block_at g i) b (lt_of_lt_of_le (t i (le_refl (suc i))) h))

pub topped_none : (g : Grid) (top : ℕ) → Topped g.blocks 0 top
topped_none g top j l = absurd (omega arith)

pub topped_next : (g : Grid) (i top next : ℕ) → Topped g.blocks i top → top ≤ next → rank (block_at g i) < next → Topped g.blocks (i + 1) next
topped_next g i top next t h k j l =
    elim (eq-or-lt_of_le (le_of_suc-le-suc (subst (λ (n : ℕ). j < n) (add-one i) l))) [
      | inl e ↦ subst (λ (n : ℕ). rank (block_at g n) < next) (sym e) k
      | inr q ↦ lt_of_lt_of_le (t j q) h
    ]

-- ---- the fault of root i, by the tests of its block b

module _ (g : Grid) (i : ℕ) (b : Coord) (is : b ≡ block_at g i) where
  abbrev entry : ℕ
  entry = entry_fault (length g.upper_links / 32768) (get_or g.root_links i 0) (get_or g.root_values i +0)

  by_tests : {inside again : Bool} → ranged b ≡ inside → earlier g i b ≡ again → root_fault g i ≡ (unless (inside && not again) 11 then entry)
  unfolding root_fault
  by_tests p q = (λ k. unless (ranged (sym is k) && not (earlier g i (sym is k))) 11 then entry) ∙ (λ k. unless (p k && not (q k)) 11 then entry)

  pub outside : ranged b ≡ false → root_fault g i ≡ 11
  outside h = by_tests h refl

  pub again : ranged b ≡ true → earlier g i b ≡ true → root_fault g i ≡ 11
  again h e = by_tests h e

  -- of a block that passes, the entry that is read decides
  pub entry_left : ranged b ≡ true → earlier g i b ≡ false → i < length g.root_values
      → root_fault g i ≡ entry_fault (length g.upper_links / 32768) (get_or g.root_links i 0) (get_or g.root_values i nan)
  entry_left h e l = by_tests h e ∙ sym (entry_fault_read g.root_links g.root_values (length g.upper_links / 32768) i l)
