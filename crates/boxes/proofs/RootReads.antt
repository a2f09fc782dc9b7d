-- A lookup by biased coordinates: below a node by its slots, and above by the first root whose block the place lies in.
use Prim.Native.Nat.{ℕ, zero, suc, ◌+◌, ◌-◌, ◌*◌, ◌≤◌, ◌<◌}
use Rattle.std.proofs.Common.{add-one, sym, ◌∙◌, subst, le-leb}
use native.Mathlib.Omega.{arith}
use Rattle.std.specs.Prelude.{◌≡◌, refl, Bool, true, false, cond, ◌||◌, T, eqb, ℤ, pos, negsuc, Float}
use Rattle.std.proofs.Math.Path.{ap}
use Rattle.std.specs.Int.Signed.{le_z}
use Rattle.std.proofs.Math.ListN.{length, get_or}
use Rattle.float.specs.Zero.{+0}
use Rattle.layout.specs.Coordinates.{Coord, slot, block_of, same_block}
use Rattle.sparse_grid.specs.Tables.{Grid, entry_of, entry_at, block_at}
use Rattle.sparse_grid.specs.Validate.{block_in, earlier}
use Rattle.sparse_grid.specs.Lookup.{refused, lookup, roots_from, root_entry, upper_entry, lower_entry, upper_at, lower_at, leaf_at, value_in}
use Rattle.sparse_grid.specs.Biased.{back, raised, place}
use Rattle.sparse_grid.specs.BiasedLaws.{back_low, back_high, mod_8, mod_128, mod_4096, shr_4096, raised_pos, raised_neg}
use Rattle.sparse_grid.proofs.Signs.{low, high, both}
use Rattle.sparse_grid.specs.Sound.{Sound}
use Rattle.boxes.specs.RangeMax.{entry_read, leaf_read, lower_read, upper_read, lower_slot, upper_slot, read_at, block_at_place}

-- ---- below the roots

module _ (g : Grid) (s : Sound g) (x y z : ℕ) where
  leaf_at_lem : (k : ℕ) → 512 * (k + 1) ≤ length g.leaf_values → value_in (leaf_at g k (place x y z)) ≡ leaf_read g.leaf_values k x y z
  unfolding leaf_read
  leaf_at_lem k h = rw (le-leb (512 * (k + 1)) (length g.leaf_values) h, mod_8 x, mod_8 y, mod_8 z) (ap (λ (n : ℕ). get_or g.leaf_values n +0) (omega arith))

  lower_entry_lem : (l : ℕ) (v : Float) → 512 * l ≤ length g.leaf_values
      → value_in (lower_entry g (place x y z) (entry_of l v)) ≡ entry_read (entry_of l v) (λ j. leaf_read g.leaf_values j x y z)
  lower_entry_lem zero v h = refl
  lower_entry_lem (suc j) v h = leaf_at_lem j (omega arith)

  lower_at_lem : (k : ℕ) → 4096 * (k + 1) ≤ length g.lower_links
      → value_in (lower_at g k (place x y z)) ≡ lower_read g.lower_links g.lower_values g.leaf_values k x y z
  unfolding lower_read
  lower_at_lem k h =
      let e : 4096 * k + slot 16 8 (place x y z) ≡ lower_slot k x y z = rw (mod_128 x, mod_128 y, mod_128 z) (omega arith) in
      rw (le-leb (4096 * (k + 1)) (length g.lower_links) h, e)
      (lower_entry_lem (get_or g.lower_links (lower_slot k x y z) 0) (get_or g.lower_values (lower_slot k x y z) +0) (s.lower_linked (lower_slot k x y z)))

  upper_entry_lem : (l : ℕ) (v : Float) → 4096 * l ≤ length g.lower_links
      → value_in (upper_entry g (place x y z) (entry_of l v)) ≡ entry_read (entry_of l v) (λ j. lower_read g.lower_links g.lower_values g.leaf_values j x y z)
  upper_entry_lem zero v h = refl
  upper_entry_lem (suc j) v h = lower_at_lem j (omega arith)

  upper_at_lem : (k : ℕ) → 32768 * (k + 1) ≤ length g.upper_links
      → value_in (upper_at g k (place x y z)) ≡ upper_read g.upper_links g.upper_values g.lower_links g.lower_values g.leaf_values k x y z
  unfolding upper_read
  upper_at_lem k h =
      let e : 32768 * k + slot 32 128 (place x y z) ≡ upper_slot k x y z = rw (mod_4096 x, mod_4096 y, mod_4096 z) (omega arith) in
      rw (le-leb (32768 * (k + 1)) (length g.upper_links) h, e)
      (upper_entry_lem (get_or g.upper_links (upper_slot k x y z) 0) (get_or g.upper_values (upper_slot k x y z) +0) (s.upper_linked (upper_slot k x y z)))

  root_entry_lem : (l : ℕ) (v : Float) → 32768 * l ≤ length g.upper_links
      → value_in (root_entry g (place x y z) (entry_of l v))
      ≡ entry_read (entry_of l v) (λ j. upper_read g.upper_links g.upper_values g.lower_links g.lower_values g.leaf_values j x y z)
  root_entry_lem zero v h = refl
  root_entry_lem (suc j) v h = upper_at_lem j (omega arith)

-- ---- the roots

-- a block in range, by its number plus 2^19
pub back_raised : (z : ℤ) → block_in z ≡ true → z ≡ back 524288 (raised z)
back_raised (pos k) h =
    let l = high k (both true (le_z (pos k) (pos 524287)) h).1 in
    let e : 524288 + k - 524288 ≡ k = omega arith in
    sym (ap (back 524288) (raised_pos k l) ∙ back_high 524288 (524288 + k) (omega arith) ∙ ap pos e)
back_raised (negsuc k) h =
    let l = low k (both (le_z (negsuc 524287) (negsuc k)) true h).0 in
    let e : 524288 - (524288 - (k + 1) + 1) ≡ k = omega arith in
    sym (ap (back 524288) (raised_neg k l) ∙ back_low 524288 (524288 - (k + 1)) (omega arith) ∙ ap negsuc e)

pub or_false : (a b : Bool) → (a || b) ≡ false → (a ≡ false) × (b ≡ false)
or_false true b h = absurd (subst T h tt)
or_false false b h = (refl, h)

skip : (g : Grid) (c : Coord) (i n : ℕ) → earlier g i (block_of c) ≡ false → roots_from g (i + n) 0 c ≡ roots_from g n i c
unfolding roots_from earlier
skip g c zero n h = let e : zero + n ≡ n = omega arith in ap (λ (k : ℕ). roots_from g k 0 c) e
skip g c (suc i) n h =
    let p = or_false (earlier g i (block_of c)) (same_block (block_at g i) (block_of c)) h in
    let e : suc i + n ≡ i + suc n = omega arith in
    ap (λ (k : ℕ). roots_from g k 0 c) e ∙ skip g c i (suc n) p.0
    ∙ ap (λ (b : Bool). cond b (root_entry g c (entry_at g.root_links g.root_values i)) (roots_from g n (i + 1) c)) p.1
    ∙ ap (λ (k : ℕ). roots_from g n k c) (add-one i)

block_place : (x y z : ℕ) → block_of (place x y z) ≡ block_at_place x y z
block_place x y z = λ i. record { x = shr_4096 x i; y = shr_4096 y i; z = shr_4096 z i }

module _ (g : Grid) (s : Sound g) (x y z : ℕ) where
  by_roots : read_at g x y z ≡ value_in (roots_from g (length g.root_links) 0 (place x y z))
  unfolding read_at lookup
  by_roots = ap (λ (f : ℕ). value_in (cond (eqb f 0) (roots_from g (length g.root_links) 0 (place x y z)) (refused f))) s.paired

  pub found : (i : ℕ) → i < length g.root_links → earlier g i (block_at_place x y z) ≡ false → same_block (block_at g i) (block_at_place x y z) ≡ true
      → read_at g x y z ≡ entry_read (entry_at g.root_links g.root_values i)
      (λ j. upper_read g.upper_links g.upper_values g.lower_links g.lower_values g.leaf_values j x y z)
  unfolding roots_from
  found i l h k =
      let n = length g.root_links - (i + 1) in
      let e : length g.root_links ≡ i + suc n = omega arith in
      by_roots
      ∙ ap (λ (m : ℕ). value_in (roots_from g m 0 (place x y z))) e
      ∙ ap value_in (skip g (place x y z) i (suc n) (ap (earlier g i) (block_place x y z) ∙ h))
      ∙ ap (λ (b : Bool). value_in
      (cond b (root_entry g (place x y z) (entry_at g.root_links g.root_values i)) (roots_from g n (i + 1) (place x y z))))
      (ap (same_block (block_at g i)) (block_place x y z) ∙ k)
      ∙ root_entry_lem g s x y z (get_or g.root_links i 0) (get_or g.root_values i +0) (s.root_linked i)

  pub missed : earlier g (length g.root_links) (block_at_place x y z) ≡ false → read_at g x y z ≡ g.background
  unfolding roots_from
  missed h =
      let e : length g.root_links ≡ length g.root_links + 0 = omega arith in
      by_roots
      ∙ ap (λ (m : ℕ). value_in (roots_from g m 0 (place x y z))) e
      ∙ ap value_in (skip g (place x y z) (length g.root_links) 0 (ap (earlier g (length g.root_links)) (block_place x y z) ∙ h))
